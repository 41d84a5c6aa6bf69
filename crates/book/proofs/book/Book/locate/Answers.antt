use Rattle.std.proofs.Common.{ap, arith}
use Rattle.rules.specs.declared.line.Line.{Line}
use Rattle.book.proofs.Steps.{mark_there}
use Rattle.book.proofs.book.Book.locate.Goals as goal

pub returns-then-at : goal.returns-then-at
returns-then-at c h k =
    let found = c.in_ok-place.ensures in
    grind (arith, found.1 h k, mark_there k c.args.number.value c.in_ok-place.place found.0, ap (λ (l : Line). l.built_in) c.at.ensures)

pub returns : goal.returns
returns c =
    let found = c.in_ok-place.ensures in
    (found.0, λ h k. grind (arith, found.1 h k, mark_there k c.args.number.value c.in_ok-place.place found.0, ap (λ (l : Line). l.built_in) c.at.ensures))
