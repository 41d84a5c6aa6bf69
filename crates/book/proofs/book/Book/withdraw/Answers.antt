use Rattle.std.proofs.Common.{◌∷◌, vec_items, sym, refl, ap, subst, ◌∙◌}
use Rattle.rules.specs.declared.change.Change.TheVariants.{Withdraw}
use Rattle.rules.specs.declared.line.Line.{Line}
use Rattle.book.specs.Kept.{Holds}
use Rattle.book.specs.Keeps.{Tells}
use Rattle.book.specs.Tables.{Rising}
use Rattle.book.proofs.Order.{rising_removed, rising_released}
use Rattle.book.proofs.Steps.{item_step, block_step, kept_step, rising_held}
use Rattle.book.proofs.book.Book.withdraw.Goals as goal
use Rattle.book.proofs.book.Book.withdraw.Goals.{After-take_out-line, After-release-in-Block, In_default}

-- without the line, the others stand in order
in_order : (c : After-take_out-line) → Rising (vec_items c.take_out-line.new.self.lines)
in_order c = subst Rising (sym c.take_out-line.ensures.items) (rising_removed _ c.in_ok-place.place c.in_ok-place.ensures.0.0 (rising_held c.args.self.now))

pub release-requires : goal.release-requires
release-requires c = in_order (goal.at.release-requires c).After-take_out-line

pub release-requires-in-Block : goal.release-requires-in-Block
release-requires-in-Block c = rising_released _ _ _ c.release.ensures.items (in_order (goal.at.release-requires-in-Block c).After-take_out-line)

-- the withdrawal of a block joins each history that the book keeps
block_out : (c : After-release-in-Block) → Tells c.args.self.now (λ h. Holds (Withdraw c.args.number ∷ h) (vec_items c.release-in-Block.new.self.lines) c.args.self.now.last)
block_out c h k =
    let b = c.args.self.now in
    let found = c.in_ok-place.ensures in
    block_step k c.args.number c.in_ok-place.place c.in-Block.field-0 c.in-Block.a c.in-Block.b
    (vec_items c.take_out-line.new.self.lines) (vec_items c.release.new.self.lines) (vec_items c.release-in-Block.new.self.lines)
    (found.1 h k) found.0 (ap (λ (l : Line). l.part) (sym c.take_out-line.ensures.value) ∙ c.in-Block.is)
    c.take_out-line.ensures.items c.release.ensures.items c.release-in-Block.ensures.items

pub invariant_of-self-clause-kept : goal.invariant_of-self-clause-kept
invariant_of-self-clause-kept c = kept_step c.args.self.now (Withdraw c.args.number) _ _ (block_out c)

pub returns-in-Block : goal.returns-in-Block
returns-in-Block c = (block_out (goal.at.returns-in-Block c).After-release-in-Block, λ h k. (c.in_ok-place.ensures.1 h k, refl))

-- so does that of an item
item_out : (c : In_default) → Tells c.args.self.now (λ h. Holds (Withdraw c.args.number ∷ h) (vec_items c.take_out-line.new.self.lines) c.args.self.now.last)
item_out c h k =
    let b = c.args.self.now in
    let found = c.in_ok-place.ensures in
    item_step k c.args.number c.in_ok-place.place c.in_default.field-0 (vec_items c.take_out-line.new.self.lines)
    (found.1 h k) found.0 (ap (λ (l : Line). l.part) (sym c.take_out-line.ensures.value) ∙ c.in_default.is) c.take_out-line.ensures.items

pub invariant_of-self-in_default-clause-kept : goal.invariant_of-self-in_default-clause-kept
invariant_of-self-in_default-clause-kept c = kept_step c.args.self.now (Withdraw c.args.number) _ _ (item_out c)

pub returns-in_default : goal.returns-in_default
returns-in_default c = (item_out (goal.at.returns-in_default c).In_default, λ h k. (c.in_ok-place.ensures.1 h k, refl))
