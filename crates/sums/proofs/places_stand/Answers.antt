use Rattle.sums.proofs.Places.{places_stand_lem}
use Rattle.sums.proofs.places_stand.Goals as goal

pub returns : goal.returns
returns g c m laws = places_stand_lem laws
