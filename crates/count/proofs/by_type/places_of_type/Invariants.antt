use Rattle.std.proofs.Common.{◌≡◌, ℕ, ◌&&◌, ltb}
use Rattle.place_set.specs.Sets.{members}
use Rattle.count.specs.Counts.{is_of_type}
use Rattle.count.proofs.by_type.places_of_type.Given as goal

abbrev pub invariant-loop-place : goal.invariant-loop-place
invariant-loop-place g l = (i : ℕ) → members l.found i ≡ (ltb i l.place && is_of_type (g.P.Plan.meaning l.plan) l.item_type i)
