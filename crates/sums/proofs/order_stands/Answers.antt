use Rattle.sums.proofs.Order.{order_stands_lem}
use Rattle.sums.proofs.order_stands.Goals as goal

pub returns : goal.returns
returns g c m laws = order_stands_lem laws
