use Rattle.std.proofs.Common.{rules}
use Rattle.std.proofs.lemmas.List.Sorted.{answers_always}
use Rattle.rules.specs.declared.line.Line.{Line}
use Rattle.book.proofs.Order.{searched}
use Rattle.book.proofs.table.Table.find.Goals as goal

-- the closure gives a line's number, and the slice is the table's lines
pub returns : goal.returns
returns c =
    let facts = c.binary_search_by_key.ensures in
    let by_number = facts.position (λ (l : Line). l.number) (answers_always _ _ _ (λ f a r g called. search rules)) in
    rw (c.ok.ensures.value, ← c.deref.ensures.value) (searched _ c.args.number.value (rw c.deref.ensures.value c.requires) _ facts.bound by_number)
