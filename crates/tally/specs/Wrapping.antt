-- Counts modulo 2^32: those of one value are one, and they are a commutative semiring.
use Rattle.std.specs.Prelude.{◌≡◌, ℕ, ◌+◌, ◌*◌, ◌/◌, ◌%◌, ◌<◌}
use Rattle.std.proofs.Common.{ap, sym, ◌∙◌, mod-eq_of_lt, add_comm, add_assoc, add-zero, mul_comm, mul_assoc, mul-add, mul-one, mul-zero, arith}
use mathlib.Core.HLevel.{is_prop→PathP}
use Rattle.std.proofs.Math.Nat.{mod-add-div, mod-mod, mod-add-mod, add-mod-mod, add-mul-mod_self_left}
use Rattle.std.proofs.Math.Bridge.{le_prop}
use Rattle.sums.specs.Semiring.{Semiring}
use Rattle.tally.specs.declared.state_count.StateCount.{StateCount}
use Rattle.tally.specs.Counts.{counted, counts}

pub same_count : (x y : StateCount) → x.value ≡ y.value → x ≡ y
same_count x y e = λ i. record {
  value = e i;
  fits = is_prop→PathP (λ k. e k < 4294967296) (λ k. le_prop) x.fits y.fits i;
}

pub counted_mod : (n : ℕ) → counted (n % 4294967296) ≡ counted n
counted_mod n = same_count _ _ (mod-mod n 4294967296)

module _ (m : ℕ) where
  mul_mod_left : (x y : ℕ) → x % m * y % m ≡ x * y % m
  mul_mod_left x y =
      let split : x * y ≡ x % m * y + m * (x / m * y) = omega (arith, ap (λ n. n * y) (mod-add-div x m)) in
      sym (ap (λ n. n % m) split ∙ add-mul-mod_self_left (x % m * y) m (x / m * y))

  mul_mod_right : (x y : ℕ) → x * (y % m) % m ≡ x * y % m
  mul_mod_right x y = ap (λ n. n % m) (mul_comm x (y % m)) ∙ mul_mod_left y x ∙ ap (λ n. n % m) (mul_comm y x)

pub counts_lawful : Semiring counts
counts_lawful =
    let m : ℕ = 4294967296 in
    let by : (x y : ℕ) → x % m ≡ y % m → counted x ≡ counted y = λ x y. same_count (counted x) (counted y) in
    record {
      plus_comm = λ x y. ap counted (add_comm x.value y.value);
      plus_assoc = λ x y z. by _ _ (mod-add-mod (x.value + y.value) m z.value ∙ ap (λ n. n % m) (add_assoc x.value y.value z.value) ∙ sym (add-mod-mod x.value (y.value + z.value) m));
      plus_none = λ x. same_count _ _ (ap (λ n. n % m) (add-zero x.value) ∙ mod-eq_of_lt x.fits);
      times_comm = λ x y. ap counted (mul_comm x.value y.value);
      times_assoc = λ x y z. by _ _ (mul_mod_left m (x.value * y.value) z.value ∙ ap (λ n. n % m) (mul_assoc x.value y.value z.value) ∙ sym (mul_mod_right m x.value (y.value * z.value)));
      times_unit = λ x. same_count _ _ (ap (λ n. n % m) (mul-one x.value) ∙ mod-eq_of_lt x.fits);
      times_plus = λ x y z. by _ _ (mul_mod_right m x.value (y.value + z.value) ∙ ap (λ n. n % m) (mul-add x.value y.value z.value) ∙ sym (mod-add-mod (x.value * y.value) m (x.value * z.value % m) ∙ add-mod-mod (x.value * y.value) (x.value * z.value) m));
      times_none = λ x. ap counted (mul-zero x.value);
    }
