use Rattle.std.proofs.Common.{sym, subst, arith}
use lib.Bits.{bit_and}
use Rattle.place_set.specs.Sets.{NextBelow}
use Rattle.place_set.proofs.Masks.{next_below}
use Rattle.place_set.proofs.PlaceSet.next_subset.Goals as goal

pub returns : goal.returns
returns c within =
    let told = c.in_ok-below.ensures in
    subst (λ n. NextBelow c.args.whole c.args.self (record { mask = bit_and n c.args.whole.mask })) (sym told.1) (next_below c.args.whole c.args.self (omega arith) told.0 within)
