use Rattle.std.proofs.Common.{arith}
use Rattle.place_set.proofs.Masks.{members_less}
use Rattle.place_set.proofs.PlaceSet.difference.Goals as goal

pub returns : goal.returns
returns c = members_less c.args.self.mask c.args.other.mask (omega arith) (omega arith)
