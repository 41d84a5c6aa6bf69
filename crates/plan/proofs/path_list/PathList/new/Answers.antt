use Rattle.std.proofs.Common.{vec_items, subst}
use Rattle.rules.specs.Rules.{Allowed}
use Rattle.plan.specs.Paths.{each_path}
use Rattle.plan.specs.PathsLemmas.{allowed_filled}
use Rattle.plan.proofs.path_list.PathList.new.Goals as goal

pub invariant_of-result-clause-filled : goal.invariant_of-result-clause-filled
invariant_of-result-clause-filled c =
    allowed_filled c.in_ok-types.types (vec_items c.args.paths) (subst (λ ps. Allowed (each_path c.in_ok-types.types ps)) c.deref.ensures.value c.in_ok-check_paths.ensures.0)
