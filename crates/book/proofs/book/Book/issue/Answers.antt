use Rattle.std.proofs.Common.{◌∷◌, vec_items, ◌∙◌, arith}
use Rattle.rules.specs.declared.change.Change.TheVariants.{Issue}
use Rattle.book.specs.Kept.{Holds}
use Rattle.book.specs.Keeps.{Tells}
use Rattle.book.proofs.Steps.{issue_step, issue_fits, few_numbers, kept_bound, kept_step}
use Rattle.book.proofs.book.Book.issue.Goals as goal
use Rattle.book.proofs.book.Book.issue.Goals.{After-give}

pub give-requires-clause-free_place : goal.give-requires-clause-free_place
give-requires-clause-free_place c =
    let b = c.args.self.now in
    let few = kept_bound b _ _ (λ h k. issue_fits k c.args.item_type (c.in_ok-known.ensures.1 h k)) in
    omega (arith, few)

pub give-requires-clause-left : goal.give-requires-clause-left
give-requires-clause-left c = omega (arith, few_numbers c.args.self.now)

-- the issue joins each history that the book keeps
joined : (c : After-give) → Tells c.args.self.now (λ h. Holds (Issue c.args.item_type ∷ h) (vec_items c.give.new.self.lines) c.give.new.last)
joined c h k =
    let b = c.args.self.now in
    issue_step k c.args.item_type c.give.new.last c.in_ok-known.known (vec_items c.give.new.self.lines)
    (c.in_ok-known.ensures.1 h k) c.in_ok-known.ensures.0 c.give.ensures.next c.give.ensures.items

pub invariant_of-self-clause-kept : goal.invariant_of-self-clause-kept
invariant_of-self-clause-kept c = kept_step c.args.self.now (Issue c.args.item_type) _ _ (joined c)

pub returns : goal.returns
returns c =
    let step = joined (goal.at.returns c).After-give in
    (step, λ h k. (c.in_ok-known.ensures.1 h k, c.give.ensures.number ∙ (step h k).last))
