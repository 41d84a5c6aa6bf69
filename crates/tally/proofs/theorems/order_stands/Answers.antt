use Rattle.sums.proofs.Order.{order_stands_lem}
use Rattle.tally.proofs.theorems.order_stands.Goals as goal

pub returns : goal.returns
returns g c t = order_stands_lem (g.met.T.Tally.lawful t)
