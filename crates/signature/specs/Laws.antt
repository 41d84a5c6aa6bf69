-- The signature's tables are a commutative semiring: what holds of polynomials holds of their tables.
use Rattle.std.specs.Prelude.{◌≡◌, ℕ, ◌-◌, ◌%◌, ◌<◌, refl}
use Rattle.std.proofs.Common.{sym, ap, ◌∙◌, arith}
use Rattle.std.proofs.Math.Nat.{mod-mod}
use Rattle.sums.specs.Semiring.{Semiring}
use Rattle.cells.specs.Tables.{table_of, at}
use Rattle.cells.proofs.Tables.{cell_of, table_of_cells, same_table_of}
use Rattle.signature.specs.Polynomials.{Polynomial, one_at, sum_of, product_of}
use Rattle.signature.specs.Signature.{signature}
use Rattle.signature.specs.Steps.{Same}
use Rattle.signature.specs.Modular.{same_plus, same_times, same_sum}
use Rattle.signature.specs.PolynomialsLemmas.{polynomials_semiring}

-- the same in every cell that a table keeps
abbrev Alike : Polynomial → Polynomial → Type 0
Alike f g = (a b c : ℕ) → a < 8 → b < 8 → c < 8 → Same (f a b c) (g a b c)

kept : (f : Polynomial) → Alike (at (table_of f)) f
kept f a b c al bl cl = ap (λ n. n % 65536) (cell_of f a b c al bl cl) ∙ mod-mod (f a b c) 65536

unmoved : (f : Polynomial) → Alike f f
unmoved f a b c al bl cl = refl

sum_alike : (f f' g g' : Polynomial) → Alike f f' → Alike g g' → Alike (sum_of f g) (sum_of f' g')
sum_alike f f' g g' p q a b c al bl cl = same_plus (f a b c) (f' a b c) (g a b c) (g' a b c) (p a b c al bl cl) (q a b c al bl cl)

product_alike : (f f' g g' : Polynomial) → Alike f f' → Alike g g' → Alike (product_of f g) (product_of f' g')
product_alike f f' g g' p q a b c al bl cl =
    same_sum a _ _ (λ i il. same_sum b _ _ (λ j jl. same_sum c _ _ (λ k kl.
    same_times (f i j k) (f' i j k) (g (a - i) (b - j) (c - k)) (g' (a - i) (b - j) (c - k)) (p i j k (omega arith) (omega arith) (omega arith)) (q (a - i) (b - j) (c - k) (omega arith) (omega arith) (omega arith)))))

-- to go over to tables at once, or at the end
pub table_of_sum : (f g : Polynomial) → table_of (sum_of (at (table_of f)) (at (table_of g))) ≡ table_of (sum_of f g)
table_of_sum f g = same_table_of _ _ (sum_alike _ f _ g (kept f) (kept g))

pub table_of_product : (f g : Polynomial) → table_of (product_of (at (table_of f)) (at (table_of g))) ≡ table_of (product_of f g)
table_of_product f g = same_table_of _ _ (product_alike _ f _ g (kept f) (kept g))

sum_left : (f g : Polynomial) → table_of (sum_of (at (table_of f)) g) ≡ table_of (sum_of f g)
sum_left f g = same_table_of _ _ (sum_alike _ f g g (kept f) (unmoved g))

sum_right : (f g : Polynomial) → table_of (sum_of f (at (table_of g))) ≡ table_of (sum_of f g)
sum_right f g = same_table_of _ _ (sum_alike f f _ g (unmoved f) (kept g))

product_left : (f g : Polynomial) → table_of (product_of (at (table_of f)) g) ≡ table_of (product_of f g)
product_left f g = same_table_of _ _ (product_alike _ f g g (kept f) (unmoved g))

product_right : (f g : Polynomial) → table_of (product_of f (at (table_of g))) ≡ table_of (product_of f g)
product_right f g = same_table_of _ _ (product_alike f f _ g (unmoved f) (kept g))

pub signature_semiring : Semiring signature
signature_semiring = let laws = polynomials_semiring in record {
  plus_comm = λ x y. ap table_of (laws.plus_comm (at x) (at y));
  plus_assoc = λ x y z.
      sum_left (sum_of (at x) (at y)) (at z)
      ∙ ap table_of (laws.plus_assoc (at x) (at y) (at z))
      ∙ sym (sum_right (at x) (sum_of (at y) (at z)));
  plus_none = λ x. sum_right (at x) (λ a b c. 0) ∙ ap table_of (laws.plus_none (at x)) ∙ table_of_cells x;
  times_comm = λ x y. ap table_of (laws.times_comm (at x) (at y));
  times_assoc = λ x y z.
      product_left (product_of (at x) (at y)) (at z)
      ∙ ap table_of (laws.times_assoc (at x) (at y) (at z))
      ∙ sym (product_right (at x) (product_of (at y) (at z)));
  times_unit = λ x. product_right (at x) (one_at 0 0 0) ∙ ap table_of (laws.times_unit (at x)) ∙ table_of_cells x;
  times_plus = λ x y z.
      product_right (at x) (sum_of (at y) (at z))
      ∙ ap table_of (laws.times_plus (at x) (at y) (at z))
      ∙ sym (table_of_sum (product_of (at x) (at y)) (product_of (at x) (at z)));
  times_none = λ x. product_right (at x) (λ a b c. 0) ∙ ap table_of (laws.times_none (at x));
}
