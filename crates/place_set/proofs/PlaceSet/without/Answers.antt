use Rattle.std.proofs.Common.{arith}
use Rattle.place_set.proofs.Masks.{members_without, without_above}
use Rattle.place_set.proofs.PlaceSet.without.Goals as goal

pub returns-then-place-lt16 : goal.returns-then-place-lt16
returns-then-place-lt16 c = members_without c.args.self.mask c.args.place (omega arith) (omega arith)

pub returns-else-place-lt16 : goal.returns-else-place-lt16
returns-else-place-lt16 c = without_above c.args.self.mask c.args.place (omega arith) (omega arith)
