use Rattle.std.proofs.Common.{take}
use Rattle.rules.specs.Rules.{Allowed}
use Rattle.plan.specs.Paths.{each_path}
use Rattle.plan.proofs.path_list.check_paths.Given as goal

abbrev pub invariant-loop-path : goal.invariant-loop-path
invariant-loop-path l = Allowed (each_path l.types (take l.path-index l.paths))
