use Rattle.std.proofs.Common.{◌≡◌}
use Rattle.std.specs.Iterator.Adapters.{rev_source}
use Rattle.std.specs.Slice.Iter.{iter_rest}
use Rattle.rules.specs.Trees.{State}
use Rattle.place_set.specs.Sets.{members}
use Rattle.plan.specs.Plans.{Structure, LawfulPlan}
use Rattle.plan.specs.Piles.{piled, turned_if, between}
use Rattle.plan.proofs.pile.SettledPileFromPile.from.Given as goal

-- the layers that are left answer of the state between as all do of the state, but for the mirrors so far
abbrev pub invariant-loop-layer : goal.invariant-loop-layer
invariant-loop-layer g l =
    (p : Structure) → LawfulPlan p → (s : State)
    → (piled l.fn.pile.layers.items p).works s
    ≡ turned_if l.mirrored ((piled (iter_rest (rev_source l.layer-iterator)) p).works (between (members l.idle) (members l.busy) s))
