use Rattle.tally.proofs.Losses.{cheapest_loss_stands_lem}
use Rattle.tally.proofs.theorems.cheapest_loss_stands.Goals as goal

pub returns : goal.returns
returns c = cheapest_loss_stands_lem
