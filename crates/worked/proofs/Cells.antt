-- The cells of the examples, state by state.
use Rattle.std.proofs.Common.{◌≡◌, ℕ, suc, ◌+◌, ◌*◌, ◌%◌, ◌≤◌, Bool, true, false, cond, List, [], ◌∷◌, length, sym, ap, ◌∙◌, arith, lit≤}
use Rattle.rules.specs.Rules.{Allowed}
use Rattle.rules.specs.Trees.{tree_of, type_in}
use Rattle.sums.specs.States.{count}
use Rattle.cells.specs.Tables.{table_of}
use Rattle.cells.proofs.Tables.{cell_of, same_cells}
use Rattle.signature.specs.Polynomials.{one_at}
use Rattle.signature.specs.Signature.{signature}
use Rattle.signature.proofs.Counted.{signature_stands_lem}
use Rattle.plan.specs.Plans.{Structure, locked_out, mirrored}
use Rattle.plan.specs.LinePlans.{plan_of_line}
use Rattle.count.specs.Counts.{places, is_of_type, count_rules}
use Rattle.survey.specs.Surveys.{sums_of}
use Rattle.worked.specs.Worked.{HasCells, example, example_cells, example_plan}

-- the eight states of the example's items, those with item 1 working first: each that works is in a cell
eight : (a b c : ℕ)
    → one_at 2 1 0 a b c + (one_at 2 0 0 a b c + (one_at 1 1 0 a b c + (0 + (one_at 1 1 0 a b c + (0 + (one_at 0 1 0 a b c + (0 + 0)))))))
    ≡ example_cells a b c
eight a b c = sorted (one_at 2 1 0 a b c) (one_at 2 0 0 a b c) (one_at 1 1 0 a b c) (one_at 0 1 0 a b c)
  where
    sorted : (x y z w : ℕ) → x + (y + (z + (0 + (z + (0 + (w + (0 + 0))))))) ≡ y + w + 2 * z + x
    sorted x y z w = omega arith

-- a plan with at most 7 places is counted
count_at_most : {A : Type 0} (p : A → Bool) (xs : List A) → count p xs ≤ length xs
count_at_most p [] = lit≤ tt
count_at_most p (x ∷ xs) = at (p x) (count_at_most p xs)
  where
    at : (b : Bool) → count p xs ≤ length xs → cond b 1 0 + count p xs ≤ suc (length xs)
    at true le = omega arith
    at false le = omega arith

pub taken : (p : Structure) → length (places p) ≤ 7 → Allowed (count_rules p)
taken p few = (λ many. omega (arith, count_at_most (is_of_type p many.0) (places p), many.1), tt)

pub line_counted : HasCells (plan_of_line example 5) example_cells
unfolding places
line_counted = (taken (plan_of_line example 5) (lit≤ tt), λ i a b c. eight a b c i)

pub paths_counted : HasCells example_plan example_cells
unfolding places
paths_counted = (taken example_plan (lit≤ tt), λ i a b c. eight a b c i)

pub mirror_counted : HasCells (mirrored example_plan) (λ a b c. 2 * one_at 1 1 0 a b c + one_at 2 1 0 a b c)
unfolding places
mirror_counted = (taken (mirrored example_plan) (lit≤ tt), λ i a b c. sorted (one_at 2 1 0 a b c) (one_at 1 1 0 a b c) i)
  where
    sorted : (x z : ℕ) → x + (0 + (z + (0 + (z + (0 + (0 + (0 + 0))))))) ≡ 2 * z + x
    sorted x z = omega arith

pub lockout_counted : HasCells (locked_out 2 example_plan) (λ a b c. one_at 2 0 0 a b c + one_at 2 1 0 a b c)
unfolding places
lockout_counted = (taken (locked_out 2 example_plan) (lit≤ tt), λ i a b c. sorted (one_at 2 1 0 a b c) (one_at 2 0 0 a b c) i)
  where
    sorted : (x y : ℕ) → x + (y + (0 + (0 + (0 + (0 + (0 + (0 + 0))))))) ≡ y + x
    sorted x y = omega arith

-- under the signature
pub table : (sums_of signature example 5).working ≡ table_of example_cells
table = same_cells (sums_of signature example 5).working (table_of example_cells) (λ a b c al bl cl.
    (signature_stands_lem (type_in example) (tree_of example 5) a b c al bl cl).0
    ∙ ap (λ n. n % 65536) (eight a b c)
    ∙ sym (cell_of example_cells a b c al bl cl))
