use Rattle.std.proofs.Common.{◌≡◌, Result}
use Rattle.rules.specs.History.{History}
use Rattle.book.specs.Keeps.{Keeps}
use Rattle.sheet.specs.declared.fault.Fault.{Fault}
use Rattle.text.specs.Texts.{lines_of}
use Rattle.text.specs.Cursors.{lines_left}
use Rattle.sheet.specs.Applying.{InTurn, changes_of, onto}
use Rattle.sheet.proofs.check.take_lines.Given as goal

-- the lines that are left, after the history of those that were taken, are to the book what all lines were
abbrev pub invariant-loop-line : goal.invariant-loop-line
invariant-loop-line l = record {
  can : goal.iterator-loop-line.can_next l.line-iterator;
  finite : goal.iterator-loop-line.is_finite l.line-iterator;
  so_far : (h : History) → Keeps h l.initial.book
      → (h' : History) × Keeps h' l.book
      × (onto (changes_of (lines_left l.line-iterator)) h' ≡ onto (changes_of (lines_of l.above)) h)
      × ((r : Result (Unit {0}) Fault) → InTurn h' (lines_left l.line-iterator) r → InTurn h (lines_of l.above) r);
}
