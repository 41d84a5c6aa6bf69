use Rattle.std.proofs.Common.{arith}
use Rattle.std.proofs.lemmas.Result.{err_from_is_err_and}
use Rattle.book.proofs.Steps.{items_are, of_type_are}
use Rattle.book.proofs.book.Book.issuable.Goals as goal

pub returns-then-items-ge-MOST_ITEMS : goal.returns-then-items-ge-MOST_ITEMS
returns-then-items-ge-MOST_ITEMS c h k = grind (arith, items_are k, c.in_ok-known.ensures)

pub returns-then-items_of-ge-MOST_OF_TYPE : goal.returns-then-items_of-ge-MOST_OF_TYPE
returns-then-items_of-ge-MOST_OF_TYPE c h k =
    let known = c.in_ok-known.ensures in
    grind (arith, items_are k, of_type_are k c.args.item_type c.in_ok-known.known known, known)

pub returns-in_err-check_number_left : goal.returns-in_err-check_number_left
returns-in_err-check_number_left c =
    let known = c.in_ok-known.ensures in
    let p = err_from_is_err_and c.from_residual-in_err-check_number_left.result c.from_residual-in_err-check_number_left.ensures.1 in
    rw (p.1, p.2) (λ h k. grind (arith, items_are k, of_type_are k c.args.item_type c.in_ok-known.known known, known, c.in_err-check_number_left.ensures h k))

pub returns : goal.returns
returns c =
    let known = c.in_ok-known.ensures in
    (known, λ h k. grind (arith, items_are k, of_type_are k c.args.item_type c.in_ok-known.known known, known, c.in_ok-check_number_left.ensures.1 h k))
