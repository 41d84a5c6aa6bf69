-- Steps that add to cells, one after another.
use Rattle.std.proofs.Common.{◌≡◌, ℕ, ◌+◌, ◌*◌, ◌%◌, ◌<◌, cond, ◌&&◌, eqb, List, length, get_or, set, sym, refl, ap, ◌∙◌, ap₂, inl, inr, add-zero, add_assoc, arith, length-set, get_or-set_other, get_or-set_same}
use Rattle.std.proofs.lemmas.Bool.{cases_eq}
use Rattle.std.proofs.lemmas.Bool.Decides.{nat_tests}
use Rattle.cells.specs.Cells.{cell}
use Rattle.signature.specs.Polynomials.{Polynomial, sum_of}
use Rattle.signature.specs.Steps.{Same, Adds, sum_below}
use Rattle.signature.specs.Modular.{same_plus}
use Rattle.signature.proofs.Sums.{sum_none, sum_more}

-- alike in all cells of a table
abbrev pub Agree : Polynomial → Polynomial → Type 0
Agree f g = (a b c : ℕ) → a < 8 → b < 8 → c < 8 → f a b c ≡ g a b c

pub adds_none : (xs : List ℕ) (f : Polynomial) → length xs ≡ 512 → Agree f (λ a b c. 0) → Adds xs f xs
adds_none xs f long zero = record {
  long = long;
  each = λ a b c al bl cl. ap (λ n. n % 65536) (sym (add-zero (cell xs a b c)) ∙ ap (λ n. cell xs a b c + n) (sym (zero a b c al bl cl)));
}

pub adds_as : (xs ys : List ℕ) (f g : Polynomial) → Adds xs f ys → Agree f g → Adds xs g ys
adds_as xs ys f g step same = record {
  long = step.long;
  each = λ a b c al bl cl. step.each a b c al bl cl ∙ ap (λ n. (cell xs a b c + n) % 65536) (same a b c al bl cl);
}

pub adds_then : (xs ys zs : List ℕ) (f g : Polynomial) → Adds xs f ys → Adds ys g zs → Adds xs (sum_of f g) zs
adds_then xs ys zs f g one two = record {
  long = two.long;
  each = λ a b c al bl cl.
      two.each a b c al bl cl
      ∙ same_plus (cell ys a b c) (cell xs a b c + f a b c) (g a b c) (g a b c) (one.each a b c al bl cl) refl
      ∙ ap (λ n. n % 65536) (add_assoc (cell xs a b c) (f a b c) (g a b c));
}

-- t at (i, j, k), and 0 elsewhere
abbrev pub at_cell : ℕ → ℕ → ℕ → ℕ → Polynomial
at_cell i j k t a b c = cond (eqb i a && (eqb j b && eqb k c)) t 0

pub at_cell_here : (i j k t a b c : ℕ) → i ≡ a → j ≡ b → k ≡ c → at_cell i j k t a b c ≡ t
at_cell_here i j k t a b c ea eb ec = grind (arith, nat_tests)

pub at_cell_elsewhere : (i j k t a b c : ℕ) → (i ≡ a → j ≡ b → k ≡ c → ⊥) → at_cell i j k t a b c ≡ 0
at_cell_elsewhere i j k t a b c apart = grind (arith, nat_tests)

pub adds_set : (xs : List ℕ) (i j k t v : ℕ) → length xs ≡ 512 → i < 8 → j < 8 → k < 8 → Same v (cell xs i j k + t)
    → Adds xs (at_cell i j k t) (set xs (i + 8 * j + 64 * k) v)
adds_set xs i j k t v long il jl kl same = record {
  long = length-set xs (i + 8 * j + 64 * k) v ∙ long;
  each = λ a b c al bl cl. elim (cases_eq (a + 8 * b + 64 * c) (i + 8 * j + 64 * k)) [
    | inl e ↦
        ap (λ n. get_or (set xs (i + 8 * j + 64 * k) v) n 0 % 65536) e
        ∙ ap (λ n. n % 65536) (get_or-set_same xs (i + 8 * j + 64 * k) v 0 (omega arith)) ∙ same
        ∙ ap₂ (λ n m. (get_or xs n 0 + m) % 65536) (sym e) (sym (at_cell_here i j k t a b c (omega arith) (omega arith) (omega arith)))
    | inr ne ↦
        ap (λ n. n % 65536) (get_or-set_other xs (i + 8 * j + 64 * k) (a + 8 * b + 64 * c) v 0 ne)
        ∙ ap (λ n. n % 65536) (sym (add-zero (cell xs a b c)))
        ∙ ap (λ n. (cell xs a b c + n) % 65536) (sym (at_cell_elsewhere i j k t a b c (λ ea eb ec. ne (omega arith))))
  ];
}

-- the sum of n polynomials
abbrev pub sum_terms : ℕ → (ℕ → Polynomial) → Polynomial
sum_terms n term a b c = sum_below n (λ i. term i a b c)

pub adds_first : (xs : List ℕ) (term : ℕ → Polynomial) → length xs ≡ 512 → Adds xs (sum_terms 0 term) xs
adds_first xs term long = adds_none xs _ long (λ a b c al bl cl. sum_none (λ i. term i a b c))

pub adds_more : (n : ℕ) (term : ℕ → Polynomial) (xs ys zs : List ℕ) → Adds xs (sum_terms n term) ys → Adds ys (term n) zs → Adds xs (sum_terms (n + 1) term) zs
adds_more n term xs ys zs one two =
    adds_as xs zs _ _ (adds_then xs ys zs (sum_terms n term) (term n) one two) (λ a b c al bl cl. sym (sum_more n (λ i. term i a b c)))
