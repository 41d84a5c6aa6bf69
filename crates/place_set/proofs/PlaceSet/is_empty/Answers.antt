use Rattle.std.proofs.Common.{arith}
use Rattle.std.proofs.lemmas.Bool.{eqb-false}
use Rattle.place_set.proofs.Masks.{bit_some}
use Rattle.place_set.proofs.PlaceSet.is_empty.Goals as goal

pub returns-clause-some : goal.returns-clause-some
returns-clause-some c e = bit_some 16 c.args.self.mask (omega arith) (eqb-false c.args.self.mask 0 e)
