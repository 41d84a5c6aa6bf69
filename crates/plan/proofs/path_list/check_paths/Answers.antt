use Rattle.std.proofs.Common.{add-one}
use Rattle.std.proofs.lemmas.Result.{err_from_is_err_and}
use Rattle.plan.specs.PathsLemmas.{refused_at, allowed_more}
use Rattle.plan.proofs.path_list.check_paths.Goals as goal

pub returns-in_err-check_path : goal.returns-in_err-check_path
returns-in_err-check_path c =
    let exit = err_from_is_err_and c.from_residual.result c.from_residual.ensures.1 in
    rw (exit.1, exit.2) (refused_at c.args.types.now c.args.paths.now c.loop-path.path-index _ c.loop-path-test.true c.loop-path.invariant c.in_err-check_path.ensures)

pub loop-path-preserved : goal.loop-path-preserved
loop-path-preserved c =
    rw (add-one c.loop-path.path-index)
    (allowed_more c.args.types.now c.args.paths.now c.loop-path.path-index c.loop-path-test.true c.loop-path.invariant c.in_ok-check_path.ensures.0)
