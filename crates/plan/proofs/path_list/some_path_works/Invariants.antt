use Rattle.std.proofs.Common.{◌≡◌, ℕ, ◌<◌, false, take}
use Rattle.std.specs.List.{list_any}
use Rattle.place_set.specs.Sets.{members}
use Rattle.plan.specs.Paths.{covers}
use Rattle.plan.proofs.path_list.some_path_works.Given as goal

abbrev pub invariant-paths : goal.invariant-paths
invariant-paths l = list_any (covers (members l.state)) (take l.path-index l.paths) ≡ false

abbrev pub invariant-loop-place : goal.invariant-loop-place
invariant-loop-place l = (k : ℕ) → k < l.place → members l.failed k ≡ false
