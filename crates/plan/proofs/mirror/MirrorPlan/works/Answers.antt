use Rattle.std.proofs.Common.{not, sym, ap, ◌∙◌}
use Rattle.place_set.specs.Sets.{members}
use Rattle.plan.proofs.Piles.{mirrored-works}
use Rattle.plan.proofs.mirror.MirrorPlan.works.Goals as goal

pub returns : goal.returns
returns g c =
    let plan = c.args.self.now.plan in
    let meaning = g.P.Plan.meaning plan in
    ap not (c.works.ensures ∙ ap meaning.works c.complement.ensures)
    ∙ sym (mirrored-works meaning (g.met.P.Plan.lawful plan) (members c.args.state))
