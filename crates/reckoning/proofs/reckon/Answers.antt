use Rattle.std.proofs.Common.{◌≡◌, ℕ, ◌<◌, ◌≤◌, length, get_or, take, drop, List, Some, sym, refl, ap, ◌∙◌, subst, arith, length-set}
use Rattle.std.proofs.lemmas.List.{length-take-le}
use Rattle.rules.specs.declared.line.Line.{Line}
use Rattle.rules.specs.Tables.{no_line, At}
use Rattle.rules.specs.History.{lines_standing}
use Rattle.rules.proofs.Limits.{lines_length}
use Rattle.book.proofs.Steps.{kept_bound}
use Rattle.reckoning.specs.Figures.{FiguredBefore}
use Rattle.reckoning.proofs.Places.{line_among, placed_before, lines_before}
use Rattle.reckoning.proofs.Figures.{item_figure, block_figure, one_more, rest_more}
use Rattle.reckoning.proofs.reckon.Goals as goal
use Rattle.reckoning.proofs.reckon.Goals.{in-Item, in-Block}

-- the figures have a place for each of the lines before one
room_before : {F : Type 0} (xs : List Line) (figures : List F) (i : ℕ) → i < length xs → length xs ≤ length figures → length (take i xs) ≤ length figures
room_before xs figures i lt room = omega (arith, room, length-take-le i xs (omega (arith, lt)))

pub figure_of-x-requires-clause-stands : goal.figure_of-x-requires-clause-stands
figure_of-x-requires-clause-stands g c = (lines_before c.args.book.now c.lines-lines.result.now c.loop-place.place _ _ _ c.lines-lines.ensures c.loop-place-test.true c.in-Block.is).0

pub figure_of-x-requires-clause-room : goal.figure_of-x-requires-clause-room
figure_of-x-requires-clause-room g c = room_before c.lines-lines.result.now c.loop-place.figures c.loop-place.place c.loop-place-test.true c.loop-place.invariant.room

pub figure_of-y-requires-clause-stands : goal.figure_of-y-requires-clause-stands
figure_of-y-requires-clause-stands g c = (lines_before c.args.book.now c.lines-lines.result.now c.loop-place.place _ _ _ c.lines-lines.ensures c.loop-place-test.true c.in-Block.is).1

pub figure_of-y-requires-clause-room : goal.figure_of-y-requires-clause-room
figure_of-y-requires-clause-room g c = room_before c.lines-lines.result.now c.loop-place.figures c.loop-place.place c.loop-place-test.true c.loop-place.invariant.room

pub loop-place-init : goal.loop-place-init
loop-place-init g c = record {
  figured = λ h k n on lt d. absurd (omega (arith, lt));
  room = kept_bound c.args.book.now _ _ (λ h k. omega (arith, ap length (c.lines-lines.ensures h k), lines_length h, c.requires h k));
  behind = refl;
}

pub loop-place-preserved : goal.loop-place-preserved
loop-place-preserved g c =
    let item = g.R.Reckoning.of_item c.args.reckoning.now in
    let block = g.R.Reckoning.of_block c.args.reckoning.now in
    let xs = c.lines-lines.result.now in
    let i = c.loop-place.place in
    let n = (get_or xs i no_line).number.value in
    let figures = c.loop-place.figures in
    let v = c.match-line.figure in
    record {
      figured = λ h k.
          let e = c.lines-lines.ensures h k in
          let at = subst (λ (ys : List Line). At ys n i) e (c.loop-place-test.true, refl) in
          let here = line_among h xs i e c.loop-place-test.true in
          let before = c.loop-place.invariant.figured h k in
          let found = λ (m : ℕ) (v : g.row.R-Figure.Denot) (w : (j : ℕ) × At (take i xs) m j × (v ≡ get_or figures j v)).
          w.2 ∙ ap (λ (j : ℕ). get_or figures j v) (placed_before h k.lawful xs m i w.0 e (omega (arith, c.loop-place-test.true)) w.1) in
          one_more item block h k.lawful n i figures v at (omega (arith, c.loop-place.invariant.room)) before
          (elim c.match-line.branch [
            | in-Item w ↦ item_figure item block h k.lawful n w.in-Item.item_type v (here ∙ ap Some w.in-Item.is) (subst (item w.in-Item.item_type) (sym w.figure-is) w.item-figure.ensures)
            | in-Block w ↦ block_figure item block h k.lawful n i w.in-Block.kind w.in-Block.a w.in-Block.b figures w.figure_of-x.result.now w.figure_of-y.result.now v at (here ∙ ap Some w.in-Block.is) before
                (found _ _ w.figure_of-x.ensures) (found _ _ w.figure_of-y.ensures) (subst (block w.in-Block.kind w.figure_of-x.result.now w.figure_of-y.result.now) (sym w.figure-is) w.block-figure.ensures)
          ]);
      room = omega (arith, c.loop-place.invariant.room, length-set figures i v);
      behind = rest_more figures c.args.figures.now i v c.loop-place.invariant.behind;
    }

pub returns : goal.returns
returns g c h k =
    let e : c.loop-place.place ≡ lines_standing h = omega (arith, ap length (c.lines-lines.ensures h k), lines_length h) in
    let figures = c.loop-place.figures in
    record {
      figured = subst (λ (i : ℕ). FiguredBefore (g.R.Reckoning.of_item c.args.reckoning.now) (g.R.Reckoning.of_block c.args.reckoning.now) h i figures) e (c.loop-place.invariant.figured h k);
      behind = subst (λ (i : ℕ). drop i figures ≡ drop i c.args.figures.now) e c.loop-place.invariant.behind;
    }
