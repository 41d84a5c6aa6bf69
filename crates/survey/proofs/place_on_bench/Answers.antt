use Rattle.std.proofs.Common.{length, refl, ap, inl, inr, arith}
use Rattle.rules.proofs.Limits.{lines_length}
use Rattle.reckoning.proofs.Places.{found, placed}
use Rattle.survey.proofs.place_on_bench.Goals as goal

pub returns-then-places-lines : goal.returns-then-places-lines
returns-then-places-lines c h k =
    let a = (c.in_ok-place.ensures.1 h k).0 in
    inr (a.0, inr (a.1.0, inl (omega (arith, ap length (c.lines.ensures h k), lines_length h), refl)))

pub returns : goal.returns
returns c h k =
    let n = c.args.number.value in
    let f = c.in_ok-place.ensures in
    let a = (f.1 h k).0 in (
      (a.0, (a.1.0, ((λ w. omega (arith, ap length (c.lines.ensures h k), lines_length h)), tt))),
      placed h k.lawful n c.in_ok-place.place (found c.args.book.now n c.in_ok-place.place f h k),
    )
