use Rattle.std.proofs.Common.{ℕ, get_or, sym, subst, arith}
use Rattle.rules.specs.History.{standing}
use Rattle.book.proofs.Steps.{few_held}
use Rattle.reckoning.proofs.Places.{found, placed}
use Rattle.survival.specs.Held.{fraction_of, BoundsOf}
use Rattle.survival.proofs.Answered.{some_there, survives}
use Rattle.survival.proofs.survival.Goals as goal

pub bounds-all_bounds-place : goal.bounds-all_bounds-place
bounds-all_bounds-place c = omega (arith, c.in_ok-place.ensures.0, few_held c.args.book.now)

pub offset_bounds-all_bounds-place : goal.offset_bounds-all_bounds-place
offset_bounds-all_bounds-place c = omega (arith, c.in_ok-place.ensures.0, few_held c.args.book.now)

pub listed : goal.listed
listed c = omega (arith, c.in_ok-place.ensures.0, few_held c.args.book.now, c.all_bounds.ensures.long)

pub returns : goal.returns
returns c h k =
    let n = c.args.number.value in
    let f = c.in_ok-fractions.fractions in
    let i = c.in_ok-place.place in
    let places = c.all_bounds.result in
    let a = (c.in_ok-place.ensures.1 h k).0 in
    let s = c.in_ok-fractions.ensures in
    let on = some_there (standing h n) a.1.0 in
    let d = c.index-all_bounds-place.result in (
      (a.0, (a.1.0, s.0)),
      survives h k.lawful n on c.args.shares f s.1 (get_or places i d)
          (subst (λ (j : ℕ). BoundsOf (fraction_of f) h n (get_or places j d)) (sym (placed h k.lawful n i (found c.args.book.now n i c.in_ok-place.ensures h k)))
          (c.all_bounds.ensures.held h k n on d)),
    )
