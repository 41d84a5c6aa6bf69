use Rattle.std.proofs.Common.{◌≡◌, ℕ, ◌<◌, true, None}
use Rattle.place_set.specs.Sets.{members}
use Rattle.plan.specs.Paths.{type_at}
use Rattle.plan.proofs.path_list.check_path.Given as goal

abbrev pub invariant-loop-place : goal.invariant-loop-place
invariant-loop-place l = (k : ℕ) → k < l.place → members l.path k ≡ true → type_at l.types k ≡ None → ⊥
