use Rattle.std.proofs.Common.{sym, ◌∙◌, arith}
use Rattle.std.proofs.lemmas.Bool.{le-ltb}
use Rattle.place_set.proofs.Masks.{bit_above}
use Rattle.place_set.proofs.PlaceSet.contains.Goals as goal

pub returns-else-place-lt16 : goal.returns-else-place-lt16
returns-else-place-lt16 c =
    le-ltb c.args.place 16 (omega arith) ∙ sym (bit_above 16 c.args.self.mask c.args.place (omega arith) (omega arith))
