use Rattle.signature.specs.Steps.{Adds}
use Rattle.signature.proofs.Adds.{sum_terms}
use Rattle.signature.proofs.Moves.{moved_row}
use Rattle.signature.proofs.product.add_moved.Given as goal

-- the rows so far are added
abbrev pub invariant-loop-c : goal.invariant-loop-c
invariant-loop-c l = Adds l.initial.out (sum_terms l.c (λ c. sum_terms l.b_count (moved_row l.factor.rows l.v l.i l.j l.k c))) l.out

abbrev pub invariant-loop-b : goal.invariant-loop-b
invariant-loop-b l = Adds l.initial.out (sum_terms l.b (moved_row l.factor.rows l.v l.i l.j l.k l.c)) l.out
