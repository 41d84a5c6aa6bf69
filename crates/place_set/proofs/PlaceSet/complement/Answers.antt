use Rattle.std.proofs.Common.{arith}
use Rattle.place_set.proofs.Masks.{members_others}
use Rattle.place_set.proofs.PlaceSet.complement.Goals as goal

pub returns : goal.returns
returns c = members_others c.args.self.mask (omega arith)
