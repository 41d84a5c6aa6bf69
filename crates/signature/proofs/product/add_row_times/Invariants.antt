use Rattle.std.proofs.Common.{get_or}
use Rattle.signature.specs.Steps.{Adds, unpadded}
use Rattle.signature.proofs.Adds.{sum_terms}
use Rattle.signature.proofs.Scatter.{cell_times}
use Rattle.signature.proofs.product.add_row_times.Given as goal

-- the first cells of the row have had their turn
abbrev pub invariant-loop-i : goal.invariant-loop-i
invariant-loop-i l = Adds l.initial.out (sum_terms l.i (cell_times (λ i j k. get_or l.row i 0) (unpadded l.factor.rows) l.k l.j)) l.out
