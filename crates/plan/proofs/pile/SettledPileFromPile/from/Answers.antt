use Rattle.std.proofs.Common.{◌≡◌, ap, ◌∙◌}
use Rattle.std.specs.Iterator.Adapters.{rev_source}
use Rattle.std.specs.Slice.Iter.{iter_rest}
use Rattle.place_set.specs.Sets.{bit}
use Rattle.place_set.proofs.Masks.{bit_none}
use Rattle.plan.specs.Piles.{piled}
use Rattle.plan.specs.PilesLemmas.{piled_lawful}
use Rattle.plan.proofs.Piles.{below_lockout, below_mirror, between-put, between-others, between-start}
use Rattle.plan.proofs.pile.SettledPileFromPile.from.Goals as goal

pub loop-layer-init : goal.loop-layer-init
loop-layer-init g c p lawful s =
    let layers = c.args.pile.layers.items in
    let all : iter_rest (rev_source c.into_iter-layer-iterator.result) ≡ layers = cc in
    rw all
    (between-start (piled layers p) (piled_lawful layers p lawful) _ _ s (λ n. ap (λ m. bit m n) c.from-idle.ensures ∙ bit_none n) c.complement-busy.ensures)

pub loop-layer-preserved-in-Lockout : goal.loop-layer-preserved-in-Lockout
loop-layer-preserved-in-Lockout g c p lawful s =
    let locked = c.in-Lockout.locked in
    below_lockout p _ _ _ _ _ _ _ c.in-Some.ensures.steps (c.loop-layer.invariant p lawful s) locked c.in-Lockout.is
    (between-put _ _ _ _ s locked.place c.without-idle.ensures c.without-busy.ensures)

pub loop-layer-preserved : goal.loop-layer-preserved
loop-layer-preserved g c p lawful s =
    below_mirror p _ _ _ _ _ _ _ c.in-Some.ensures.steps (c.loop-layer.invariant p lawful s) lawful c.in-Mirror.is
    (between-others _ _ _ _ s c.complement-idle.ensures c.complement-busy-in-Mirror.ensures)
