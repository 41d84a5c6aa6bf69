use Rattle.std.proofs.Common.{◌≡◌, ℕ, ◌<◌, length, get_or}
use Rattle.count.specs.Laws.{choose}
use Rattle.count.proofs.binomials.binomials.Given as goal

abbrev pub invariant-loop-above : goal.invariant-loop-above
invariant-loop-above l = (length l.row ≡ 8) × ((k : ℕ) → k < 8 → get_or l.row k 0 ≡ choose l.above k)
