use Rattle.std.proofs.Common.{arith}
use Rattle.place_set.proofs.Masks.{members_with}
use Rattle.place_set.proofs.PlaceSet.with.Goals as goal

pub returns-then-place-lt16 : goal.returns-then-place-lt16
returns-then-place-lt16 c = members_with c.args.self.mask c.args.place (omega arith)
