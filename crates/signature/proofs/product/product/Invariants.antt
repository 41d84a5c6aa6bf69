use Rattle.cells.specs.Cells.{cell}
use Rattle.signature.specs.Steps.{Adds, unpadded}
use Rattle.signature.proofs.Adds.{sum_terms}
use Rattle.signature.proofs.Scatter.{row_times, layer_times}
use Rattle.signature.proofs.product.product.Given as goal

-- the first layers, and of a layer the first rows, have had their turn
abbrev pub invariant-loop-k : goal.invariant-loop-k
invariant-loop-k l = Adds l.initial.out (sum_terms l.k (layer_times (cell l.x) (unpadded l.factor.rows))) l.out

abbrev pub invariant-loop-j : goal.invariant-loop-j
invariant-loop-j l = Adds l.initial.out (sum_terms l.j (row_times (cell l.x) (unpadded l.factor.rows) l.k)) l.out
