use Rattle.std.proofs.Common.{◌+◌, ◌-◌, ◌≤◌, get_or, arith, rules}
use Rattle.count.proofs.Choosing.{choose_small}
use Rattle.cells.proofs.Filling.{fill_serves}
use Rattle.count.proofs.binomials.binomials.Goals as goal

pub from_fn-row-requires : goal.from_fn-row-requires
from_fn-row-requires c = (
  omega arith,
  fill_serves 8 (λ x q r. search rules) (λ x lt.
      let below = c.loop-above.invariant.1 (x - 1) (omega arith) in
      let here = c.loop-above.invariant.1 x lt in
      let small : get_or c.loop-above.row (x - 1) 0 + get_or c.loop-above.row x 0 ≤ 70 = omega (arith, below, here, choose_small c.loop-above.above (x - 1) (omega arith), choose_small c.loop-above.above x (omega arith)) in
      search (rules, small) parts 8),
)
