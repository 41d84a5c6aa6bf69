use Rattle.std.proofs.Common.{◌≡◌}
use Rattle.std.specs.Iterator.Adapters.{rev_source}
use Rattle.std.specs.Slice.Iter.{iter_rest}
use Rattle.place_set.specs.Sets.{members}
use Rattle.plan.specs.Piles.{piled, turned_if}
use Rattle.plan.proofs.pile.PilePlan.works.Given as goal

-- the layers that are left answer as all do, but for the mirrors so far
abbrev pub invariant-loop-layer : goal.invariant-loop-layer
invariant-loop-layer g l =
    let plan = g.P.Plan.meaning l.self.plan in
    (piled l.self.layers.items plan).works (members l.fn.state)
    ≡ turned_if l.turned ((piled (iter_rest (rev_source l.layer-iterator)) plan).works (members l.state))
