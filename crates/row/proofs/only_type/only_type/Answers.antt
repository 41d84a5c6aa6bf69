use Rattle.std.proofs.Common.{◌≡◌, Some, sym, subst, rules}
use Rattle.rules.specs.Trees.{item, block, type_in}
use Rattle.survey.proofs.Folds.{folds_have, decided_by}
use Rattle.row.specs.Steps.{OnlyType, common_type}
use Rattle.row.proofs.Types.{OnlyIn, item_only, block_only}
use Rattle.row.proofs.only_type.only_type.Goals as goal

pub returns : goal.returns
returns c h k =
    let types = type_in h in
    decided_by h c.args.number.value _ (OnlyType h c.args.number.value)
    (λ on o f. folds_have (OnlyIn types) f
    (λ n t r e given. let is : r ≡ Some t = search rules in subst (OnlyIn types (item n)) (sym is) (item_only types n t e))
    (λ i x y a b r p q joined. let is : r ≡ common_type a b = search rules in subst (OnlyIn types (block i x y)) (sym is) (block_only types i x y a b p q)))
    c.fold_beneath.result (c.fold_beneath.ensures h k)
