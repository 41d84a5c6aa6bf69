use Rattle.plan.proofs.Piles.{piled-types}
use Rattle.plan.proofs.pile.SettledPilePlan.item_type.Goals as goal

pub returns : goal.returns
returns g c = rw piled-types c.item_type.ensures
