use Rattle.std.proofs.Common.{refl, arith}
use Rattle.count.proofs.Lists.{size_of_type}
use Rattle.count.proofs.by_type.few_places.Goals as goal

pub returns-then-len-gt7 : goal.returns-then-len-gt7
returns-then-len-gt7 g c =
    (omega (arith, c.if-len-gt7.true, c.len.ensures, size_of_type (g.P.Plan.meaning c.args.plan.now) c.args.item_type _ c.places_of_type-places.ensures), refl)

pub returns : goal.returns
returns g c =
    (omega (arith, c.if-len-gt7.false, c.len.ensures, size_of_type (g.P.Plan.meaning c.args.plan.now) c.args.item_type _ c.places_of_type-places.ensures), c.places_of_type-places.ensures)
