use Rattle.std.proofs.Common.{◌≡◌, sym, ap, ap₂, ◌∙◌, rules}
use Rattle.place_set.specs.Sets.{members, either}
use Rattle.plan.specs.Piles.{piled, turned_if, between}
use Rattle.plan.proofs.Piles.{sets-between}
use Rattle.plan.proofs.pile.SettledPilePlan.works.Goals as goal

pub returns : goal.returns
returns g c =
    let it = c.args.self.now in
    let plan = g.P.Plan.meaning it.pile.plan in
    let s = members c.args.state in
    let reached : members c.union-below.result ≡ between (members it.idle) (members it.busy) s =
    c.union-below.ensures ∙ ap₂ either c.intersection.ensures c.difference.ensures ∙ sets-between (members it.idle) (members it.busy) s in
    let settled : (piled it.pile.layers.items plan).works s ≡ turned_if it.turned c.works.result =
    it.settled plan (g.met.P.Plan.lawful it.pile.plan) s ∙ ap (turned_if it.turned) (sym (c.works.ensures ∙ ap plan.works reached)) in
    search rules
