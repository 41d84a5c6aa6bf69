use Rattle.std.proofs.Common.{◌≡◌, ℕ, ◌≤◌, length, arith, rules}
use Rattle.std.proofs.lemmas.List.{length-append}
use Rattle.rules.specs.Trees.{Tree, items, tree_of}
use Rattle.sums.proofs.Forest.{few_beneath}
use Rattle.survey.proofs.Folds.{folds_have, decided_by}
use Rattle.survey.proofs.items.items_beneath.Goals as goal

-- so many items are in a tree that has at most 16
abbrev Counts : Tree → ℕ → Type 0
Counts x a = length (items x) ≤ 16 → a ≡ length (items x)

pub returns : goal.returns
returns c h k =
    decided_by h c.args.number.value _ (λ a. a ≡ length (items (tree_of h c.args.number.value)))
    (λ on a f. folds_have Counts f
    (λ n t r e g few. search rules)
    (λ i y z b d r p q j few.
    let all = length-append (items y) (items z) in
    let first = p (omega arith) in
    let second = q (omega arith) in
    search rules)
    (few_beneath h k.lawful _ on))
    c.fold_beneath.result (c.fold_beneath.ensures h k)
