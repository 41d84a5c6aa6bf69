-- Sums over the numbers below one.
use Rattle.std.proofs.Common.{◌≡◌, ℕ, zero, suc, ◌+◌, ◌<◌, ◌≤◌, sym, refl, ap, ◌∙◌, ap₂, inl, inr, add-zero, zero-add, add-one, arith}
use Rattle.std.proofs.lemmas.Bool.{cases_eq}
use Rattle.signature.specs.Polynomials.{sum_to}
use Rattle.signature.specs.Steps.{sum_below}

pub sum_none : (f : ℕ → ℕ) → sum_below 0 f ≡ 0
unfolding sum_below
sum_none f = refl

pub sum_more : (n : ℕ) (f : ℕ → ℕ) → sum_below (n + 1) f ≡ sum_below n f + f n
unfolding sum_below
sum_more n f = ap (λ k. sum_below k f) (add-one n)

pub sum_same : (n : ℕ) (f g : ℕ → ℕ) → ((i : ℕ) → i < n → f i ≡ g i) → sum_below n f ≡ sum_below n g
unfolding sum_below
sum_same zero f g h = refl
sum_same (suc n) f g h = ap₂ ◌+◌ (sum_same n f g (λ i lt. h i (omega arith))) (h n (omega arith))

pub all_zero : (n : ℕ) (f : ℕ → ℕ) → ((i : ℕ) → i < n → f i ≡ 0) → sum_below n f ≡ 0
unfolding sum_below
all_zero zero f h = refl
all_zero (suc n) f h = ap₂ ◌+◌ (all_zero n f (λ i lt. h i (omega arith))) (h n (omega arith))

-- one term at most is not 0
pub only_at : (n m : ℕ) (f : ℕ → ℕ) → m < n → ((i : ℕ) → i < n → (i ≡ m → ⊥) → f i ≡ 0) → sum_below n f ≡ f m
unfolding sum_below
only_at zero m f lt h = absurd (omega arith)
only_at (suc n) m f lt h = elim (cases_eq n m) [
  | inl e ↦ ap₂ ◌+◌ (all_zero n f (λ i il. h i (omega arith) (λ q. omega arith))) (ap f e) ∙ zero-add (f m)
  | inr ne ↦ ap₂ ◌+◌ (only_at n m f (omega (arith, ne)) (λ i il. h i (omega arith))) (h n (omega arith) ne) ∙ add-zero (f m)
]

-- the order of summation
pub sum_swap : (n m : ℕ) (f : ℕ → ℕ → ℕ) → sum_below n (λ i. sum_below m (f i)) ≡ sum_below m (λ j. sum_below n (λ i. f i j))
unfolding sum_below
sum_swap zero m f = sym (all_zero m _ (λ j lt. refl))
sum_swap (suc n) m f = ap (λ x. x + sum_below m (f n)) (sum_swap n m f) ∙ join m
  where
    join : (m : ℕ) → sum_below m (λ j. sum_below n (λ i. f i j)) + sum_below m (f n) ≡ sum_below m (λ j. sum_below n (λ i. f i j) + f n j)
    join zero = refl
    join (suc m) = let e = join m in omega arith

-- the sum to a number, which is among the terms
pub sum_whole : (n : ℕ) (f : ℕ → ℕ) → sum_below (suc n) f ≡ sum_to n f
unfolding sum_below
sum_whole zero f = zero-add (f 0)
sum_whole (suc n) f = ap (λ x. x + f (suc n)) (sum_whole n f)

-- the terms past a are 0
pub sum_cut : (n a : ℕ) (f g : ℕ → ℕ) → a < n → ((i : ℕ) → i ≤ a → f i ≡ g i) → ((i : ℕ) → a < i → i < n → f i ≡ 0) → sum_below n f ≡ sum_to a g
unfolding sum_below
sum_cut zero a f g lt here past = absurd (omega arith)
sum_cut (suc n) a f g lt here past = elim (cases_eq n a) [
  | inl e ↦ ap (λ k. sum_below (suc k) f) e ∙ sum_same (suc a) f g (λ i il. here i (omega arith)) ∙ sum_whole a g
  | inr ne ↦
      ap₂ ◌+◌ (sum_cut n a f g (omega (arith, ne)) here (λ i il ir. past i il (omega arith))) (past n (omega (arith, ne)) (omega arith))
      ∙ add-zero (sum_to a g)
]
