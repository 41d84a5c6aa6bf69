use Rattle.std.proofs.Common.{◌≡◌, ℕ, ◌||◌, eqb, ap, ap₂, ◌∙◌, sym, subst, rules}
use mathlib.Core.Bool.{or-false}
use Rattle.std.specs.Int.Bits.{bit_or}
use Rattle.rules.specs.History.{has}
use Rattle.rules.specs.Trees.{Tree, items, tree_of}
use Rattle.book.specs.Keeps.{Tells}
use Rattle.place_set.specs.Sets.{bit}
use Rattle.place_set.proofs.Masks.{bits_of_or}
use Rattle.survey.proofs.Folds.{folds_have, decided_by}
use Rattle.line_plan.specs.Beneath.{stands_and, Marks}
use Rattle.line_plan.proofs.Trees.{has_append, unwrap_marks}
use Rattle.line_plan.proofs.beneath.marked_beneath.Goals as goal

pub returns : goal.returns
returns c h k =
    let n = c.args.number.value in
    subst (λ v. Marks h v (λ i. stands_and h n (λ x. has (items x) i))) (sym c.unwrap_or.ensures)
    (unwrap_marks h k.lawful (λ i x. has (items x) i) n c.fold_beneath.result
    (decided_by h n _ (λ v. Marks h v (λ i. has (items (tree_of h n)) i))
    (λ on v f. folds_have (λ (x : Tree) (r : ℕ). Marks h r (λ i. has (items x) i)) f
    (λ m t r e given i l at.
    let is : Tells c.args.book.now (λ h'. Marks h' r (λ j. eqb j m)) = search rules in is h k i l at ∙ sym (or-false (eqb l m)))
    (λ j x y a b r p q joined i l at.
    let is : r ≡ bit_or a b = search rules in
    ap (λ s. bit s i) is ∙ bits_of_or a b i ∙ ap₂ ◌||◌ (p i l at) (q i l at) ∙ sym (has_append (items x) (items y) l)))
    c.fold_beneath.result (c.fold_beneath.ensures h k)))
