-- Power series over a commutative semiring are one.
use Rattle.std.specs.Prelude.{◌≡◌, ℕ, zero, suc}
use Rattle.std.proofs.Common.{sym, ap, ap₂, ◌∙◌}
use Rattle.std.proofs.Math.Path.{fun_ext}
use Rattle.rules.specs.declared.item_type.ItemType.{ItemType}
use Rattle.sums.specs.Semiring.{Meaning, Semiring}

-- the series of a constant
abbrev pub constant : {F : Type 0} → Meaning F → F → ℕ → F
constant m x zero = x
constant m x (suc n) = m.none

-- f 0 · g n + f 1 · g (n - 1) + .. + f n · g 0
abbrev pub convolution : {F : Type 0} → Meaning F → (ℕ → F) → (ℕ → F) → ℕ → F
convolution m f g zero = m.times (f zero) (g zero)
convolution m f g (suc n) = m.plus (m.times (f zero) (g (suc n))) (convolution m (λ i. f (suc i)) g n)

-- power series by their coefficients, with given figures for the items
abbrev pub series : {F : Type 0} → Meaning F → (ItemType → ℕ → F) → (ItemType → ℕ → F) → Meaning (ℕ → F)
series m working failed = record {
  none = λ n. m.none;
  unit = constant m m.unit;
  plus = λ f g n. m.plus (f n) (g n);
  times = convolution m;
  working = working;
  failed = failed;
}

module _ {F : Type 0} (m : Meaning F) (laws : Semiring m) where
  abbrev conv : (ℕ → F) → (ℕ → F) → ℕ → F
  conv = convolution m

  abbrev rest : (ℕ → F) → ℕ → F
  rest f i = f (suc i)

  left_comm : (a b c : F) → m.plus a (m.plus b c) ≡ m.plus b (m.plus a c)
  left_comm a b c = sym (laws.plus_assoc a b c) ∙ ap (λ x. m.plus x c) (laws.plus_comm a b) ∙ laws.plus_assoc b a c

  medial : (a b c d : F) → m.plus (m.plus a b) (m.plus c d) ≡ m.plus (m.plus a c) (m.plus b d)
  medial a b c d = laws.plus_assoc a b _ ∙ ap (m.plus a) (left_comm b c d) ∙ sym (laws.plus_assoc a c _)

  conv_plus : (f g h : ℕ → F) (n : ℕ) → conv f (λ i. m.plus (g i) (h i)) n ≡ m.plus (conv f g n) (conv f h n)
  conv_plus f g h zero = laws.times_plus _ _ _
  conv_plus f g h (suc n) = ap₂ m.plus (laws.times_plus _ _ _) (conv_plus (rest f) g h n) ∙ medial _ _ _ _

  conv_none : (f : ℕ → F) (n : ℕ) → conv f (λ i. m.none) n ≡ m.none
  conv_none f zero = laws.times_none _
  conv_none f (suc n) = ap₂ m.plus (laws.times_none _) (conv_none (rest f) n) ∙ laws.plus_none _

  -- the last term first
  conv_last : (f g : ℕ → F) (n : ℕ) → conv f g (suc n) ≡ m.plus (m.times (f (suc n)) (g zero)) (conv f (rest g) n)
  conv_last f g zero = laws.plus_comm _ _
  conv_last f g (suc n) = ap (m.plus _) (conv_last (rest f) g n) ∙ left_comm _ _ _

  conv_comm : (f g : ℕ → F) (n : ℕ) → conv f g n ≡ conv g f n
  conv_comm f g zero = laws.times_comm _ _
  conv_comm f g (suc n) = ap₂ m.plus (laws.times_comm _ _) (conv_comm (rest f) g n) ∙ sym (conv_last g f n)

  conv_scale : (c : F) (f g : ℕ → F) (n : ℕ) → conv (λ i. m.times c (f i)) g n ≡ m.times c (conv f g n)
  conv_scale c f g zero = laws.times_assoc _ _ _
  conv_scale c f g (suc n) = ap₂ m.plus (laws.times_assoc _ _ _) (conv_scale c (rest f) g n) ∙ sym (laws.times_plus _ _ _)

  conv_plus_left : (f g h : ℕ → F) (n : ℕ) → conv (λ i. m.plus (f i) (g i)) h n ≡ m.plus (conv f h n) (conv g h n)
  conv_plus_left f g h n = conv_comm _ h n ∙ conv_plus h f g n ∙ ap₂ m.plus (conv_comm h f n) (conv_comm h g n)

  conv_assoc : (f g h : ℕ → F) (n : ℕ) → conv (conv f g) h n ≡ conv f (conv g h) n
  conv_assoc f g h zero = laws.times_assoc _ _ _
  conv_assoc f g h (suc n) =
      ap₂ m.plus (laws.times_assoc _ _ _)
      (conv_plus_left (λ i. m.times (f zero) (g (suc i))) (conv (rest f) g) h n ∙ ap₂ m.plus (conv_scale (f zero) (rest g) h n) (conv_assoc (rest f) g h n))
      ∙ sym (laws.plus_assoc _ _ _) ∙ ap (λ x. m.plus x (conv (rest f) (conv g h) n)) (sym (laws.times_plus _ _ _))

  conv_unit : (f : ℕ → F) (n : ℕ) → conv f (constant m m.unit) n ≡ f n
  conv_unit f zero = laws.times_unit _
  conv_unit f (suc n) = ap₂ m.plus (laws.times_none _) (conv_unit (rest f) n) ∙ laws.plus_comm _ _ ∙ laws.plus_none _

  pub series_semiring : (working failed : ItemType → ℕ → F) → Semiring (series m working failed)
  series_semiring working failed = record {
    plus_comm = λ f g. fun_ext (λ n. laws.plus_comm _ _);
    plus_assoc = λ f g h. fun_ext (λ n. laws.plus_assoc _ _ _);
    plus_none = λ f. fun_ext (λ n. laws.plus_none _);
    times_comm = λ f g. fun_ext (conv_comm f g);
    times_assoc = λ f g h. fun_ext (conv_assoc f g h);
    times_unit = λ f. fun_ext (conv_unit f);
    times_plus = λ f g h. fun_ext (conv_plus f g h);
    times_none = λ f. fun_ext (conv_none f);
  }
