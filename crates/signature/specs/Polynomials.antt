-- Polynomials in three variables, one for each type of items, as a tally.
use Rattle.std.specs.Prelude.{ℕ, zero, suc, ◌+◌, ◌-◌, ◌*◌, cond, ◌&&◌, ◌==◌}
use Rattle.rules.specs.declared.item_type.ItemType.{ItemType}
use Rattle.rules.specs.declared.item_type.ItemType.TheVariants.{One, Two, Three}
use Rattle.sums.specs.Semiring.{Meaning}

-- a polynomial by its coefficients: that of the powers a, b and c of the three variables
abbrev pub Polynomial : Type 0
Polynomial = ℕ → ℕ → ℕ → ℕ

-- f 0 + f 1 + .. + f n
abbrev pub sum_to : ℕ → (ℕ → ℕ) → ℕ
sum_to zero f = f 0
sum_to (suc n) f = sum_to n f + f (suc n)

-- 1 at (i, j, k), and 0 elsewhere
abbrev pub one_at : ℕ → ℕ → ℕ → Polynomial
one_at i j k a b c = cond (i == a && (j == b && k == c)) 1 0

-- the variable of a type: 1 at index one of that type
abbrev pub variable : ItemType → Polynomial
variable One = one_at 1 0 0
variable Two = one_at 0 1 0
variable Three = one_at 0 0 1

-- a sum is taken coefficient by coefficient
abbrev pub sum_of : Polynomial → Polynomial → Polynomial
sum_of f g a b c = f a b c + g a b c

-- a product's coefficient is the sum over every way to split each of the three indices in two
abbrev pub product_of : Polynomial → Polynomial → Polynomial
product_of f g a b c = sum_to a (λ i. sum_to b (λ j. sum_to c (λ k. f i j k * g (a - i) (b - j) (c - k))))

-- a working item counts as its type's variable, a failed one as 1
abbrev pub polynomials : Meaning Polynomial
polynomials = record {
  none = λ a b c. 0;
  unit = one_at 0 0 0;
  plus = sum_of;
  times = product_of;
  working = variable;
  failed = λ t. one_at 0 0 0;
}
