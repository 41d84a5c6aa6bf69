-- A number word is what is written of its number.
use Rattle.std.proofs.Common.{◌≡◌, ℕ, zero, suc, ◌+◌, ◌-◌, ◌*◌, ◌<◌, ◌≤◌, true, cond, ◌⊎◌, List, [], ◌∷◌, length, get_or, Some, None, decimal, sym, refl, ap, ◌∙◌, inl, inr, ⊎_elim, arith}
use Rattle.std.specs.Str.{all_ascii_digits}
use Rattle.std.specs.Char.{is_ascii_digit}
use Rattle.std.proofs.lemmas.Fmt.{decimal-digits_value, decimal_nonempty, decimal_digit, length-decimal-le, first_decimal, digits_decimal, digits_value-decimal}
use Rattle.std.proofs.lemmas.Str.Parse.{IsNumeralModel, numerals_by_fold, tells_all_ascii_digits, digits_value_short}
use Rattle.std.proofs.lemmas.Bool.{cases_Bool, and_parts, and_from}
use Rattle.std.proofs.lemmas.Bool.Decides.{nat_tests}
use Rattle.text.specs.Numbers.{is_digit, decimal_after, number_shaped, number_in}

abbrev value_after : ℕ → List ℕ → ℕ
value_after n [] = n
value_after n (c ∷ cs) = value_after (n * 10 + (c - 48)) cs

own : IsNumeralModel (λ ds. all_ascii_digits ds ≡ true) (value_after 0)
own = numerals_by_fold (λ ds. all_ascii_digits ds ≡ true) tells_all_ascii_digits value_after (record { empty = λ n. refl; more = λ n c cs h. refl })

digits_give : (n : ℕ) (w : List ℕ) → all_ascii_digits w ≡ true → decimal_after n w ≡ Some (value_after n w)
digits_give n [] e = refl
digits_give n (b ∷ w) e =
    let k = and_parts (is_ascii_digit b) (all_ascii_digits w) e in
    let d : is_digit b ≡ true = k.0 in
    rw d (digits_give (n * 10 + (b - 48)) w k.1)

digits_told : (n m : ℕ) (w : List ℕ) → decimal_after n w ≡ Some m → (all_ascii_digits w ≡ true) × (value_after n w ≡ m)
digits_told n m [] h = (refl, cc)
digits_told n m (b ∷ w) h =
    ⊎_elim
    (λ e. let h' : decimal_after (n * 10 + (b - 48)) w ≡ Some m = rw e at h in let k = digits_told (n * 10 + (b - 48)) m w h' in (and_from (is_ascii_digit b) (all_ascii_digits w) e k.0, k.1))
    (λ e. let h' : None ≡ Some m = rw e at h in absurd (let z : ◌≡◌ {A = ℕ} 0 1 = cc in omega arith))
    (cases_Bool (is_digit b))

pub record Shaped (w : List ℕ) : Type 0 where
  pub some : 0 < length w
  pub few : length w ≤ 5
  pub zero_alone : get_or w 0 0 ≡ 48 → length w ≡ 1

shape_told : (w : List ℕ) → number_shaped w ≡ true → Shaped w
shape_told [] h = absurd (let z : ◌≡◌ {A = ℕ} 0 1 = ap (λ b. cond b 1 0) h in omega arith)
shape_told (b ∷ w) h = record { some = omega arith; few = grind (arith, nat_tests); zero_alone = λ e. grind (arith, nat_tests) }

shape_from : (w : List ℕ) → Shaped w → number_shaped w ≡ true
shape_from [] s = absurd (omega (arith, s.some))
shape_from (b ∷ w) s = let few = s.few in let z = s.zero_alone in grind (arith, nat_tests)

pub number_written : (w : List ℕ) (n : ℕ) → number_in w ≡ Some n → (w ≡ decimal n) × (n < 100000)
number_written w n h =
    ⊎_elim
    (λ e.
    let h' : decimal_after 0 w ≡ Some n = rw e at h in
    let s = shape_told w e in
    let k = digits_told 0 n w h' in
    let small : value_after 0 w < 100000 = digits_value_short own w 5 k.0 s.few in
    let back = decimal-digits_value own w k.0 s.some s.zero_alone (omega arith) in
    (sym back ∙ ap decimal k.1, omega (arith, k.1)))
    (λ e. let h' : None ≡ Some n = rw e at h in absurd (let z : ◌≡◌ {A = ℕ} 0 1 = cc in omega arith))
    (cases_Bool (number_shaped w))

pub decimal_digits : (n : ℕ) → n < 100000 → all_ascii_digits (decimal n) ≡ true
decimal_digits n h = digits_decimal own n (omega arith)

zero_or : (n : ℕ) → (n ≡ 0) ⊎ (0 < n)
zero_or zero = inl refl
zero_or (suc n) = inr (omega arith)

decimal_shaped : (n : ℕ) → n < 100000 → Shaped (decimal n)
decimal_shaped n h = record {
  some = decimal_nonempty n (omega arith);
  few = length-decimal-le 5 n (omega arith) h (omega arith);
  zero_alone = λ e.
      ⊎_elim
      (λ z. let is : n ≡ 0 = z in ap (λ k. length (decimal k)) is ∙ ap length (decimal_digit 0 (omega arith)))
      (λ p. absurd (let f = first_decimal n p (omega arith) in omega arith))
      (zero_or n);
}

pub number_of_decimal : (n : ℕ) → n < 100000 → number_in (decimal n) ≡ Some n
number_of_decimal n h =
    let s = shape_from (decimal n) (decimal_shaped n h) in
    rw s (digits_give 0 (decimal n) (decimal_digits n h) ∙ ap Some (digits_value-decimal own n (omega arith)))
