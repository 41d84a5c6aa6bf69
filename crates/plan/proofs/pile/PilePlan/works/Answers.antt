use Rattle.plan.proofs.Piles.{below_lockout, below_mirror}
use Rattle.plan.proofs.pile.PilePlan.works.Goals as goal

pub loop-layer-preserved-in-Lockout : goal.loop-layer-preserved-in-Lockout
loop-layer-preserved-in-Lockout g c =
    below_lockout (g.P.Plan.meaning c.args.self.now.plan) _ _ _ _ _ _ _ c.in-Some.ensures.steps c.loop-layer.invariant c.in-Lockout.locked c.in-Lockout.is c.without-state.ensures

pub loop-layer-preserved : goal.loop-layer-preserved
loop-layer-preserved g c =
    below_mirror (g.P.Plan.meaning c.args.self.now.plan) _ _ _ _ _ _ _ c.in-Some.ensures.steps c.loop-layer.invariant (g.met.P.Plan.lawful c.args.self.now.plan) c.in-Mirror.is c.complement-state.ensures
