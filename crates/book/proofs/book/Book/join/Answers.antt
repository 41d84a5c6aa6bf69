use Rattle.std.proofs.Common.{◌∷◌, length, vec_items, ap, ◌∙◌, arith}
use Rattle.std.proofs.lemmas.List.{length-set}
use Rattle.rules.specs.declared.change.Change.TheVariants.{Join}
use Rattle.book.specs.Kept.{Holds}
use Rattle.book.specs.Keeps.{Tells}
use Rattle.book.proofs.Steps.{join_step, join_fits, few_numbers, kept_bound, kept_step}
use Rattle.book.proofs.book.Book.join.Goals as goal
use Rattle.book.proofs.book.Book.join.Goals.{After-give}

pub give-requires-clause-free_place : goal.give-requires-clause-free_place
give-requires-clause-free_place c =
    let b = c.args.self.now in
    let few = kept_bound b _ _ (λ h k. join_fits k c.args.kind c.args.a c.args.b (c.in_ok-place_a.ensures.1 h k)) in
    omega (arith, few, simp length-set at (ap length c.mark.ensures.items), simp length-set at (ap length c.mark-2.ensures.items))

pub give-requires-clause-left : goal.give-requires-clause-left
give-requires-clause-left c = omega (arith, few_numbers c.args.self.now)

-- the joining joins each history that the book keeps
joined : (c : After-give) → Tells c.args.self.now (λ h. Holds (Join c.args.kind c.args.a c.args.b ∷ h) (vec_items c.give.new.self.lines) c.give.new.last)
joined c h k =
    let b = c.args.self.now in
    let may = c.in_ok-place_a.ensures in
    join_step k c.args.kind c.args.a c.args.b c.in_ok-place_a.place_a c.in_ok-place_a.place_b c.give.new.last
    (vec_items c.mark.new.self.lines) (vec_items c.mark-2.new.self.lines) (vec_items c.give.new.self.lines)
    (may.1 h k) may.0.0 may.0.1 c.give.ensures.next c.mark.ensures.items c.mark-2.ensures.items c.give.ensures.items

pub invariant_of-self-clause-kept : goal.invariant_of-self-clause-kept
invariant_of-self-clause-kept c = kept_step c.args.self.now (Join c.args.kind c.args.a c.args.b) _ _ (joined c)

pub returns : goal.returns
returns c =
    let step = joined (goal.at.returns c).After-give in
    (step, λ h k. (c.in_ok-place_a.ensures.1 h k, c.give.ensures.number ∙ (step h k).last))
