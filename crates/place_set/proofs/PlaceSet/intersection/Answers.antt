use Rattle.place_set.proofs.Masks.{members_and}
use Rattle.place_set.proofs.PlaceSet.intersection.Goals as goal

pub returns : goal.returns
returns c = members_and c.args.self.mask c.args.other.mask
