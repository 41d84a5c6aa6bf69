-- A factor moved up, row by row.
use Rattle.std.proofs.Common.{◌≡◌, ℕ, ◌+◌, ◌-◌, ◌*◌, ◌/◌, ◌%◌, ◌<◌, ◌≤◌, cond, ◌&&◌, eqb, min, ◌⊎◌, List, get_or, sym, ap, ◌∙◌, inl, inr, mul-zero, arith}
use Rattle.std.proofs.lemmas.Bool.{cases_lt}
use Rattle.std.proofs.lemmas.Bool.Decides.{nat_tests}
use Rattle.signature.specs.Polynomials.{Polynomial}
use Rattle.signature.specs.Steps.{in_row, moved, unpadded}
use Rattle.signature.proofs.Sums.{all_zero, only_at}
use Rattle.signature.proofs.Adds.{Agree, sum_terms}

-- v times the row (b, c) of the factor, moved up by i
abbrev scaled_row : List ℕ → ℕ → ℕ → ℕ → ℕ → ℕ → ℕ
scaled_row rows v i c b a = v * get_or rows (16 * (b + 8 * c) + 8 - i + a) 0

-- and by j and k
abbrev pub moved_row : List ℕ → ℕ → ℕ → ℕ → ℕ → ℕ → ℕ → Polynomial
moved_row rows v i j k c b = in_row (b + j) (c + k) (scaled_row rows v i c b)

-- a row that holds what the factor's row does, moved up by i
pub row_moved : (rows row : List ℕ) (v i j k c b : ℕ) → ((a : ℕ) → a < 8 → get_or row a 0 ≡ get_or rows (16 * (b + 8 * c) + 8 - i + a) 0)
    → Agree (in_row (b + j) (c + k) (λ a. v * get_or row a 0)) (moved_row rows v i j k c b)
row_moved rows row v i j k c b same a' b' c' al bl cl = ap (λ n. cond (eqb (b + j) b' && eqb (c + k) c') (v * n) 0) (same a' al)

in_row_here : (b c : ℕ) (g : ℕ → ℕ) (a' b' c' : ℕ) → b ≡ b' → c ≡ c' → in_row b c g a' b' c' ≡ g a'
in_row_here b c g a' b' c' eb ec = grind (arith, nat_tests)

in_row_elsewhere : (b c : ℕ) (g : ℕ → ℕ) (a' b' c' : ℕ) → (b ≡ b' → c ≡ c' → ⊥) → in_row b c g a' b' c' ≡ 0
in_row_elsewhere b c g a' b' c' apart = grind (arith, nat_tests)

pub moved_here : (f : Polynomial) (i j k a b c : ℕ) → i ≤ a → j ≤ b → k ≤ c → moved f i j k a b c ≡ f (a - i) (b - j) (c - k)
moved_here f i j k a b c il jl kl = grind (arith, nat_tests)

pub moved_past : (f : Polynomial) (i j k a b c : ℕ) → (i ≤ a → j ≤ b → k ≤ c → f (a - i) (b - j) (c - k) ≡ 0) → moved f i j k a b c ≡ 0
moved_past f i j k a b c zero = grind (arith, nat_tests)

module _ (rows : List ℕ) (b_end c-end : ℕ)
    (padding : (q : ℕ) → q % 16 < 8 → get_or rows q 0 ≡ 0)
    (past-b : (q : ℕ) → q < 1024 → b_end ≤ q / 16 % 8 → get_or rows q 0 ≡ 0)
    (past-c : (q : ℕ) → q < 1024 → c-end ≤ q / 128 → get_or rows q 0 ≡ 0)
    (v i j k : ℕ) (il : i < 8) (jl : j < 8) (kl : k < 8) where
  -- what the place in a padded row holds
  in_place : (a b c : ℕ) → a < 8 → j ≤ b → k ≤ c → get_or rows (16 * ((b - j) + 8 * (c - k)) + 8 - i + a) 0 ≡ moved (unpadded rows) i j k a b c
  in_place a b c al jb kc = elim (cases_lt a i) [
    | inl lt ↦
        padding (16 * ((b - j) + 8 * (c - k)) + 8 - i + a) (omega arith)
        ∙ sym (moved_past (unpadded rows) i j k a b c (λ ia jb kc. omega arith))
    | inr ge ↦
        let place : 16 * ((b - j) + 8 * (c - k)) + 8 - i + a ≡ 16 * ((b - j) + 8 * (c - k)) + 8 + (a - i) = omega arith in
        ap (λ n. get_or rows n 0) place ∙ sym (moved_here (unpadded rows) i j k a b c ge jb kc)
  ]

  -- past the factor's ends
  nothing_there : (a b c : ℕ) → a < 8 → b < 8 → c < 8 → (j ≤ b → k ≤ c → (b_end ≤ b - j) ⊎ (c-end ≤ c - k)) → moved (unpadded rows) i j k a b c ≡ 0
  nothing_there a b c al bl cl past = moved_past (unpadded rows) i j k a b c (λ ia jb kc.
      let q : ℕ = 16 * ((b - j) + 8 * (c - k)) + 8 + (a - i) in
      elim (past jb kc) [
        | inl pb ↦ past-b q (omega arith) (omega arith)
        | inr pc ↦ past-c q (omega arith) (omega arith)
      ])

  abbrev b-count : ℕ
  b-count = min b_end (8 - j)

  abbrev c-count : ℕ
  c-count = min c-end (8 - k)

  -- the row (b, c) gets a row of the factor, or none
  reached : (b c : ℕ) → ((j ≤ b) × (k ≤ c) × (b - j < b-count) × (c - k < c-count)) ⊎ (j ≤ b → k ≤ c → (b-count ≤ b - j) ⊎ (c-count ≤ c - k))
  reached b c = elim (cases_lt b j) [
    | inl lt ↦ inr (λ jb kc. inl (omega arith))
    | inr jb ↦ elim (cases_lt c k) [
      | inl lt ↦ inr (λ jb kc. inl (omega arith))
      | inr kc ↦ elim (cases_lt (b - j) b-count) [
        | inr past ↦ inr (λ jb kc. inl past)
        | inl bc ↦ elim (cases_lt (c - k) c-count) [
          | inr past ↦ inr (λ jb kc. inr past)
          | inl cc ↦ inl (jb, kc, bc, cc)
        ]
      ]
    ]
  ]

  pub moved_sum : Agree (sum_terms c-count (λ c. sum_terms b-count (moved_row rows v i j k c))) (λ a b c. v * moved (unpadded rows) i j k a b c)
  moved_sum a b c al bl cl = elim (reached b c) [
    | inl here ↦
        only_at c-count (c - k) (λ m. sum_terms b-count (moved_row rows v i j k m) a b c) here.3
        (λ m ml ne. all_zero b-count _ (λ n nl. in_row_elsewhere (n + j) (m + k) (scaled_row rows v i m n) a b c (λ eb ec. ne (omega arith))))
        ∙ only_at b-count (b - j) (λ n. moved_row rows v i j k (c - k) n a b c) here.2
        (λ n nl ne. in_row_elsewhere (n + j) (c - k + k) (scaled_row rows v i (c - k) n) a b c (λ eb ec. ne (omega arith)))
        ∙ in_row_here (b - j + j) (c - k + k) (scaled_row rows v i (c - k) (b - j)) a b c (omega (arith, here.0)) (omega (arith, here.1))
        ∙ ap (λ n. v * n) (in_place a b c al here.0 here.1)
    | inr past ↦
        all_zero c-count _ (λ m ml. all_zero b-count _ (λ n nl. in_row_elsewhere (n + j) (m + k) (scaled_row rows v i m n) a b c (λ eb ec.
        elim (past (omega arith) (omega arith)) [ inl pb ↦ omega arith | inr pc ↦ omega arith ])))
        ∙ sym (ap (λ n. v * n) (nothing_there a b c al bl cl (λ jb kc.
        elim (past jb kc) [ inl pb ↦ inl (omega arith) | inr pc ↦ inr (omega arith) ])) ∙ mul-zero v)
  ]
