use Rattle.std.proofs.Common.{◌≡◌, ◌^◌, ◌<◌, drop}
use Rattle.text.specs.Numbers.{decimal_after}
use Rattle.text.proofs.number.read_digits.Given as goal

-- the digits that are left give the same number, and those so far fit
abbrev pub invariant-loop-b : goal.invariant-loop-b
invariant-loop-b l = (decimal_after l.n (drop l.b-index l.word) ≡ decimal_after 0 l.word) × (l.n < 10 ^ l.b-index)
