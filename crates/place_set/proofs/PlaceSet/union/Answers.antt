use Rattle.place_set.proofs.Masks.{members_or}
use Rattle.place_set.proofs.PlaceSet.union.Goals as goal

pub returns : goal.returns
returns c = members_or c.args.self.mask c.args.other.mask
