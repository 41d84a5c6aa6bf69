-- Polynomials in three variables are a commutative semiring: series over series over series of numbers.
use Rattle.std.specs.Prelude.{◌≡◌, ℕ, zero, suc, ◌+◌, ◌-◌, false, ◌==◌, refl}
use Rattle.std.proofs.Common.{sym, ap, ap₂, subst, ◌∙◌, arith}
use Rattle.std.proofs.Math.Path.{fun_ext}
use Rattle.std.proofs.Math.Nat.{suc-sub-suc, sub-zero}
use Rattle.std.proofs.lemmas.Bool.{ne_eqb}
use Rattle.rules.specs.declared.item_type.ItemType.{ItemType}
use Rattle.sums.specs.Semiring.{Meaning, Semiring}
use Rattle.sums.proofs.Numbers.{numbers, numbers_semiring}
use Rattle.signature.specs.Polynomials.{Polynomial, sum_to, one_at, variable, sum_of, product_of, polynomials}
use Rattle.signature.specs.Series.{constant, convolution, series, series_semiring}

abbrev counting : Meaning ℕ
counting = numbers (λ t. 1) (λ t. 1)

counting_semiring : Semiring counting
counting_semiring = numbers_semiring (λ t. 1) (λ t. 1)

abbrev ones : {F : Type 0} → Meaning F → ItemType → ℕ → F
ones m t = constant m m.unit

abbrev one_variable : Meaning (ℕ → ℕ)
one_variable = series counting (ones counting) (ones counting)

abbrev two_variables : Meaning (ℕ → ℕ → ℕ)
two_variables = series one_variable (ones one_variable) (ones one_variable)

abbrev three_variables : Meaning Polynomial
three_variables = series two_variables variable (λ t. one_at 0 0 0)

one_semiring : Semiring one_variable
one_semiring = series_semiring counting counting_semiring _ _

two_semiring : Semiring two_variables
two_semiring = series_semiring one_variable one_semiring _ _

three_semiring : Semiring three_variables
three_semiring = series_semiring two_variables two_semiring _ _

-- a convolution, term by term
module _ {F : Type 0} (m : Meaning F) (laws : Semiring m) where
  abbrev sum_by : ℕ → (ℕ → F) → F
  sum_by zero f = f zero
  sum_by (suc n) f = m.plus (sum_by n f) (f (suc n))

  sum_front : (n : ℕ) (f : ℕ → F) → sum_by (suc n) f ≡ m.plus (f zero) (sum_by n (λ i. f (suc i)))
  sum_front zero f = refl
  sum_front (suc n) f = ap (λ x. m.plus x (f (suc (suc n)))) (sum_front n f) ∙ laws.plus_assoc _ _ _

  convolution_terms : (f g : ℕ → F) (n : ℕ) → convolution m f g n ≡ sum_by n (λ i. m.times (f i) (g (n - i)))
  convolution_terms f g zero = refl
  convolution_terms f g (suc n) =
      ap₂ m.plus (ap (λ k. m.times (f zero) (g k)) (sym (sub-zero (suc n))))
      (convolution_terms (λ i. f (suc i)) g n ∙ ap (sum_by n) (fun_ext (λ i. ap (λ k. m.times (f (suc i)) (g k)) (sym (suc-sub-suc n i)))))
      ∙ sym (sum_front n (λ i. m.times (f i) (g (suc n - i))))

sum_of_numbers : (n : ℕ) (f : ℕ → ℕ) → sum_by counting counting_semiring n f ≡ sum_to n f
sum_of_numbers zero f = refl
sum_of_numbers (suc n) f = ap (λ x. x + f (suc n)) (sum_of_numbers n f)

sum_in_one : (n : ℕ) (f : ℕ → ℕ → ℕ) (c : ℕ) → sum_by one_variable one_semiring n f c ≡ sum_to n (λ i. f i c)
sum_in_one zero f c = refl
sum_in_one (suc n) f c = ap (λ x. x + f (suc n) c) (sum_in_one n f c)

sum_in_two : (n : ℕ) (f : ℕ → ℕ → ℕ → ℕ) (b c : ℕ) → sum_by two_variables two_semiring n f b c ≡ sum_to n (λ i. f i b c)
sum_in_two zero f b c = refl
sum_in_two (suc n) f b c = ap (λ x. x + f (suc n) b c) (sum_in_two n f b c)

product_terms : (f g : Polynomial) (a b c : ℕ) → three_variables.times f g a b c ≡ product_of f g a b c
product_terms f g a b c =
    ap (λ h. h b c) (convolution_terms two_variables two_semiring f g a) ∙ sum_in_two a _ b c
    ∙ ap (sum_to a) (fun_ext (λ i.
    ap (λ h. h c) (convolution_terms one_variable one_semiring (f i) (g (a - i)) b) ∙ sum_in_one b _ c
    ∙ ap (sum_to b) (fun_ext (λ j.
    convolution_terms counting counting_semiring (f i j) (g (a - i) (b - j)) c ∙ sum_of_numbers c _))))

apart : (n : ℕ) → (0 == suc n) ≡ false
apart n = ne_eqb 0 (suc n) (λ e. omega arith)

unit_terms : (a b c : ℕ) → three_variables.unit a b c ≡ one_at 0 0 0 a b c
unit_terms zero zero zero = refl
unit_terms zero zero (suc c) = simp (apart c)
unit_terms zero (suc b) c = simp (apart b)
unit_terms (suc a) b c = simp (apart a)

pub polynomials_semiring : Semiring polynomials
polynomials_semiring = subst Semiring (ap₂ with-unit-times unit-is times-is) three_semiring
  where
    with-unit-times : Polynomial → (Polynomial → Polynomial → Polynomial) → Meaning Polynomial
    with-unit-times unit times = record { none = λ a b c. 0; unit = unit; plus = sum_of; times = times; working = variable; failed = λ t. one_at 0 0 0 }

    unit-is : three_variables.unit ≡ one_at 0 0 0
    unit-is = fun_ext (λ a. fun_ext (λ b. fun_ext (λ c. unit_terms a b c)))

    times-is : three_variables.times ≡ product_of
    times-is = fun_ext (λ f. fun_ext (λ g. fun_ext (λ a. fun_ext (λ b. fun_ext (λ c. product_terms f g a b c)))))
