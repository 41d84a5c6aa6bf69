-- The sum over all cells of the left factor, each times the right factor moved, is the product.
use Rattle.std.proofs.Common.{◌≡◌, ℕ, ◌-◌, ◌*◌, ◌<◌, ◌≤◌, ap, ◌∙◌, mul-zero, arith}
use Rattle.signature.specs.Polynomials.{Polynomial, product_of}
use Rattle.signature.specs.Steps.{sum_below, moved}
use Rattle.signature.proofs.Sums.{sum_same, all_zero, sum_swap, sum_cut}
use Rattle.signature.proofs.Adds.{Agree, sum_terms}
use Rattle.signature.proofs.Moves.{moved_here, moved_past}

-- a cell of f times g moved
abbrev pub cell_times : Polynomial → Polynomial → ℕ → ℕ → ℕ → Polynomial
cell_times f g k j i a b c = f i j k * moved g i j k a b c

-- a row of f times g, and a layer of rows
abbrev pub row_times : Polynomial → Polynomial → ℕ → ℕ → Polynomial
row_times f g k j = sum_terms 8 (cell_times f g k j)

abbrev pub layer_times : Polynomial → Polynomial → ℕ → Polynomial
layer_times f g k = sum_terms 8 (row_times f g k)

module _ (f g h : Polynomial) (same : Agree g h) (a b c : ℕ) (al : a < 8) (bl : b < 8) (cl : c < 8) where
  here : (i j k : ℕ) → i ≤ a → j ≤ b → k ≤ c → f i j k * moved g i j k a b c ≡ f i j k * h (a - i) (b - j) (c - k)
  here i j k ia jb kc = ap (λ n. f i j k * n) (moved_here g i j k a b c ia jb kc ∙ same (a - i) (b - j) (c - k) (omega arith) (omega arith) (omega arith))

  past : (i j k : ℕ) → (i ≤ a → j ≤ b → k ≤ c → ⊥) → f i j k * moved g i j k a b c ≡ 0
  past i j k out = ap (λ n. f i j k * n) (moved_past g i j k a b c (λ ia jb kc. absurd (out ia jb kc))) ∙ mul-zero (f i j k)

  in_order : sum_below 8 (λ i. sum_below 8 (λ j. sum_below 8 (λ k. f i j k * moved g i j k a b c))) ≡ product_of f h a b c
  in_order =
      sum_cut 8 a _ _ al
      (λ i ia. sum_cut 8 b _ _ bl
      (λ j jb. sum_cut 8 c _ _ cl
      (λ k kc. here i j k ia jb kc)
      (λ k ck kl. past i j k (λ ia jb kc. omega arith)))
      (λ j bj jl. all_zero 8 _ (λ k kl. past i j k (λ ia jb kc. omega arith))))
      (λ i ai il. all_zero 8 _ (λ j jl. all_zero 8 _ (λ k kl. past i j k (λ ia jb kc. omega arith))))

  pub all_layers : sum_terms 8 (layer_times f g) a b c ≡ product_of f h a b c
  all_layers =
      sum_same 8 _ _ (λ k kl. sum_swap 8 8 (λ j i. f i j k * moved g i j k a b c))
      ∙ sum_swap 8 8 (λ k i. sum_below 8 (λ j. f i j k * moved g i j k a b c))
      ∙ sum_same 8 _ _ (λ i il. sum_swap 8 8 (λ k j. f i j k * moved g i j k a b c))
      ∙ in_order
