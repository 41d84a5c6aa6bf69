-- Losses: those of one value are one, and they are a commutative semiring.
use Rattle.std.specs.Prelude.{◌≡◌, ℕ, ◌≤◌, min}
use mathlib.Core.HLevel.{is_prop→PathP}
use Rattle.std.proofs.Math.Bridge.{le_prop}
use Rattle.std.proofs.Common.{arith}
use Rattle.sums.specs.Semiring.{Semiring}
use Rattle.tally.specs.declared.loss.Loss.{Loss}
use Rattle.tally.specs.declared.prices.Prices.{Prices}
use Rattle.tally.specs.Pricing.{lost, prices}

pub same_loss : (x y : Loss) → x.value ≡ y.value → x ≡ y
same_loss x y e = λ i. record {
  value = e i;
  fits = is_prop→PathP (λ k. e k ≤ 4294967295) (λ k. le_prop) x.fits y.fits i;
}

pub lost_capped : (n : ℕ) → lost (min n 4294967295) ≡ lost n
lost_capped n = same_loss _ _ (omega arith)

smaller : (m n : ℕ) → m ≤ 4294967295 → min (min m n) 4294967295 ≡ min m n
smaller m n h = omega arith

pub prices_lawful : (p : Prices) → Semiring (prices p)
prices_lawful p = record {
  plus_comm = λ x y. same_loss _ _ (omega arith);
  plus_assoc = λ x y z. same_loss _ _ (rw (smaller x.value y.value x.fits, smaller y.value z.value y.fits) (omega arith));
  plus_none = λ x. same_loss _ _ (omega arith);
  times_comm = λ x y. same_loss _ _ (omega arith);
  times_assoc = λ x y z. same_loss _ _ (omega arith);
  times_unit = λ x. same_loss _ _ (omega arith);
  times_plus = λ x y z. same_loss _ _ (rw (smaller y.value z.value y.fits) (omega arith));
  times_none = λ x. same_loss _ _ (omega arith);
}
