use Rattle.std.proofs.Common.{◌≡◌, ◌≤◌, length, drop}
use Rattle.rules.specs.History.{History}
use Rattle.book.specs.Keeps.{Keeps}
use Rattle.reckoning.specs.Figures.{FiguredBefore}
use Rattle.reckoning.proofs.reckon.Given as goal

abbrev pub invariant-loop-place : goal.invariant-loop-place
invariant-loop-place g l = record {
  figured : (h : History) → Keeps h l.book → FiguredBefore (g.R.Reckoning.of_item l.reckoning) (g.R.Reckoning.of_block l.reckoning) h l.place l.figures;
  room : length l.lines ≤ length l.figures;
  behind : drop l.place l.figures ≡ drop l.place l.initial.figures;
}
