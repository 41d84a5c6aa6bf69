use Rattle.std.proofs.Common.{◌≡◌, ℕ, ◌+◌, ◌<◌, length}
use Rattle.place_set.specs.Subsets.{subsets_left}
use Rattle.cells.specs.Cells.{cell}
use Rattle.count.specs.Counts.{working_states}
use Rattle.count.proofs.Counting.{counted}
use Rattle.count.proofs.Subsets.{sum_over}
use Rattle.count.proofs.states.count_working_states.Given as goal

abbrev pub invariant-loop-state : goal.invariant-loop-state
invariant-loop-state g l =
    (length l.cells ≡ 512)
    × ((a b c : ℕ) → a < 8 → b < 8 → c < 8
    → cell l.cells a b c + sum_over (counted (g.P.Plan.meaning l.plan) a b c) (subsets_left l.state-iterator) ≡ working_states (g.P.Plan.meaning l.plan) a b c)
