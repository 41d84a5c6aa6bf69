use Rattle.std.proofs.Common.{◌*◌, get_or}
use Rattle.signature.specs.Steps.{Adds}
use Rattle.signature.proofs.Adds.{at_cell, sum_terms}
use Rattle.signature.proofs.product.add_row.Given as goal

-- the first cells of the row are added
abbrev pub invariant-loop-a : goal.invariant-loop-a
invariant-loop-a l = Adds l.initial.out (sum_terms l.a (λ a. at_cell a l.b l.c (l.v * get_or l.row a 0))) l.out
