use Rattle.std.proofs.Common.{arith}
use Rattle.survey.proofs.Folds.{lower, first_answered, second_answered, folds_item, folds_block}
use Rattle.survey.proofs.beneath.+fold_beneath.Goals as goal

pub fold_beneath-requires : goal.fold_beneath-requires
fold_beneath-requires g t c κs within =
    let low = lower c.args.book.now _ _ (λ h k. (c.in_ok-item_type.ensures h k).1) _ _ _ c.in-Block.is in
    (omega (arith, low.0, c.decreases), (within.0, (within.1.0, (within.1.1, (c.requires.item, c.requires.block)))))

pub fold_beneath-requires-in-Block : goal.fold_beneath-requires-in-Block
fold_beneath-requires-in-Block g t c κs within =
    let low = lower c.args.book.now _ _ (λ h k. (c.in_ok-item_type.ensures h k).1) _ _ _ c.in-Block.is in
    (omega (arith, low.1, c.decreases), (within.0, (within.1.0, (within.1.1, (c.requires.item, c.requires.block)))))

pub returns-in_err-first-in-Block : goal.returns-in_err-first-in-Block
returns-in_err-first-in-Block g t c h k =
    absurd (first_answered c.args.book.now _ _ (λ h k. (c.in_ok-item_type.ensures h k).1) _ _ _ c.in-Block.is _ h k (c.in_err-first-in-Block.ensures h k))

pub returns-in_err-second-in-Block : goal.returns-in_err-second-in-Block
returns-in_err-second-in-Block g t c h k =
    absurd (second_answered c.args.book.now _ _ (λ h k. (c.in_ok-item_type.ensures h k).1) _ _ _ c.in-Block.is _ h k (c.in_err-second-in-Block.ensures h k))

pub returns-in-Item : goal.returns-in-Item
returns-in-Item g t c h k =
    let q = c.in_ok-item_type.ensures h k in
    (q.0, folds_item c.args.book.now _ _ (λ h k. (c.in_ok-item_type.ensures h k).1) (goal.I-post g c.args.item.now) (goal.B-post g c.args.block.now) h k _ c.in-Item.is _ c.item.ensures)

pub returns-in_ok-second-in-Block : goal.returns-in_ok-second-in-Block
returns-in_ok-second-in-Block g t c h k =
    let q = c.in_ok-item_type.ensures h k in
    (q.0, folds_block c.args.book.now _ _ (λ h k. (c.in_ok-item_type.ensures h k).1) (goal.I-post g c.args.item.now) (goal.B-post g c.args.block.now) h k _ _ _ c.in-Block.is _ _ _ (c.in_ok-first-in-Block.ensures h k).1 (c.in_ok-second-in-Block.ensures h k).1 c.block.ensures)
