-- Sums over states come apart where the items do.
use Rattle.std.proofs.Common.{◌≡◌, ℕ, Bool, true, false, cond, eqb, List, [], ◌∷◌, ◌++◌, sym, refl, ap, ◌∙◌, ap₂}
use mathlib.Core.Path.{fun_ext}
use mathlib.Core.List.Memᴰ
use Rattle.std.proofs.lemmas.Bool.{eqb-true, eq-eqb, ne_eqb, cond-true, cond-false}
use Rattle.rules.specs.Trees.{State}
use Rattle.sums.specs.Semiring.{Meaning, Semiring}
use Rattle.sums.specs.States.{put, states, total, keep}
use Rattle.sums.specs.Members.{◌∈◌, Apart}

pub put_same : (i : ℕ) (v : Bool) (s : State) → put i v s i ≡ v
put_same i v s = cond-true (eqb i i) v (s i) (eq-eqb i i refl)

pub put_other : (i j : ℕ) → (i ≡ j → ⊥) → (v : Bool) (s : State) → put i v s j ≡ s j
put_other i j ne v s = cond-false (eqb i j) v (s j) (ne_eqb i j ne)

pub put_swap : (i j : ℕ) → (i ≡ j → ⊥) → (v w : Bool) (s : State) → put i v (put j w s) ≡ put j w (put i v s)
put_swap i j ne v w s = fun_ext (λ k. at k (eqb i k) refl (eqb j k) refl)
  where
    at : (k : ℕ) (x : Bool) → eqb i k ≡ x → (y : Bool) → eqb j k ≡ y → cond x v (cond y w (s k)) ≡ cond y w (cond x v (s k))
    at k true ex true ey = absurd (ne (eqb-true i k ex ∙ sym (eqb-true j k ey)))
    at k true ex false ey = refl
    at k false ex true ey = refl
    at k false ex false ey = refl

-- the sum of f over the states of the items, with no list of states
abbrev pub over : {F : Type 0} → Meaning F → List ℕ → State → (State → F) → F
over m [] s f = f s
over m (i ∷ is) s f = m.plus (over m is (put i true s) f) (over m is (put i false s) f)

-- f does not depend on the items
abbrev pub Blind : {X : Type 0} → List ℕ → (State → X) → Type 0
Blind is f = (i : ℕ) → i ∈ is → (v : Bool) (s : State) → f (put i v s) ≡ f s

module _ {F : Type 0} {m : Meaning F} (laws : Semiring m) where
  pub none_plus : (x : F) → m.plus m.none x ≡ x
  none_plus x = laws.plus_comm _ x ∙ laws.plus_none x

  pub none_times : (x : F) → m.times m.none x ≡ m.none
  none_times x = laws.times_comm _ x ∙ laws.times_none x

  pub unit_times : (x : F) → m.times m.unit x ≡ x
  unit_times x = laws.times_comm _ x ∙ laws.times_unit x

  pub plus_left : (x y z : F) → m.plus x (m.plus y z) ≡ m.plus y (m.plus x z)
  plus_left x y z = sym (laws.plus_assoc x y z) ∙ ap (λ a. m.plus a z) (laws.plus_comm x y) ∙ laws.plus_assoc y x z

  pub times_left : (x y z : F) → m.times x (m.times y z) ≡ m.times y (m.times x z)
  times_left x y z = sym (laws.times_assoc x y z) ∙ ap (λ a. m.times a z) (laws.times_comm x y) ∙ laws.times_assoc y x z

  pub plus_medial : (x y z w : F) → m.plus (m.plus x y) (m.plus z w) ≡ m.plus (m.plus x z) (m.plus y w)
  plus_medial x y z w = simp (laws.plus_assoc, plus_left)

  pub plus_times : (x y z : F) → m.times (m.plus x y) z ≡ m.plus (m.times x z) (m.times y z)
  plus_times x y z = laws.times_comm _ z ∙ laws.times_plus z x y ∙ ap₂ m.plus (laws.times_comm z x) (laws.times_comm z y)

  pub total_append : {A : Type 0} (f : A → F) (xs ys : List A)
      → total m.none m.plus f (xs ++ ys) ≡ m.plus (total m.none m.plus f xs) (total m.none m.plus f ys)
  total_append f [] ys = sym (none_plus _)
  total_append f (x ∷ xs) ys = ap (m.plus (f x)) (total_append f xs ys) ∙ sym (laws.plus_assoc _ _ _)

  -- what fails the test adds none
  pub total_keep : {A : Type 0} (f : A → F) (p : A → Bool) (xs : List A)
      → total m.none m.plus f (keep p xs) ≡ total m.none m.plus (λ x. cond (p x) (f x) m.none) xs
  total_keep f p [] = refl
  total_keep f p (x ∷ xs) = at (p x) ∙ ap (m.plus (cond (p x) (f x) m.none)) (total_keep f p xs)
    where
      at : (b : Bool) → total m.none m.plus f (cond b (x ∷ keep p xs) (keep p xs)) ≡ m.plus (cond b (f x) m.none) (total m.none m.plus f (keep p xs))
      at true = refl
      at false = sym (none_plus _)

  pub total_states : (is : List ℕ) (s : State) (f : State → F) → total m.none m.plus f (states is s) ≡ over m is s f
  total_states [] s f = laws.plus_none (f s)
  total_states (i ∷ is) s f = total_append f (states is (put i true s)) (states is (put i false s)) ∙ ap₂ m.plus (total_states is _ f) (total_states is _ f)

  pub over_plus : (is : List ℕ) (s : State) (f g : State → F) → over m is s (λ t. m.plus (f t) (g t)) ≡ m.plus (over m is s f) (over m is s g)
  over_plus [] s f g = refl
  over_plus (i ∷ is) s f g = ap₂ m.plus (over_plus is _ f g) (over_plus is _ f g) ∙ plus_medial _ _ _ _

  -- the state of an item that neither the list has nor f depends on
  over_base : (is : List ℕ) (i : ℕ) → (i ∈ is → ⊥) → (v : Bool) (s : State) (f : State → F) → ((w : Bool) (t : State) → f (put i w t) ≡ f t) → over m is (put i v s) f ≡ over m is s f
  over_base [] i out v s f blind = blind v s
  over_base (j ∷ is) i out v s f blind =
      let side : (w : Bool) → over m is (put j w (put i v s)) f ≡ over m is (put j w s) f = λ w.
      ap (λ t. over m is t f) (put_swap j i (λ e. out (Memᴰ.head (sym e))) w v s) ∙ over_base is i (λ n. out (Memᴰ.tail n)) v (put j w s) f blind in
      ap₂ m.plus (side true) (side false)

  -- a factor that does not depend on the items
  over_scale : (is : List ℕ) (s : State) (f g : State → F) → Blind is f → over m is s (λ t. m.times (f t) (g t)) ≡ m.times (f s) (over m is s g)
  over_scale [] s f g blind = refl
  over_scale (i ∷ is) s f g blind =
      let side : (v : Bool) → over m is (put i v s) (λ t. m.times (f t) (g t)) ≡ m.times (f s) (over m is (put i v s) g) = λ v.
      over_scale is (put i v s) f g (λ j n. blind j (Memᴰ.tail n)) ∙ ap (λ x. m.times x (over m is (put i v s) g)) (blind i (Memᴰ.head refl) v s) in
      ap₂ m.plus (side true) (side false) ∙ sym (laws.times_plus _ _ _)

  -- over the states of items that are apart, a sum of products is the product of the sums
  pub over_times : (a b : List ℕ) (s : State) (f g : State → F) → Apart a b → Blind b f → Blind a g
      → over m (a ++ b) s (λ t. m.times (f t) (g t)) ≡ m.times (over m a s f) (over m b s g)
  over_times [] b s f g apart fb ga = over_scale b s f g fb
  over_times (i ∷ a) b s f g apart fb ga =
      let side : (v : Bool) → over m (a ++ b) (put i v s) (λ t. m.times (f t) (g t)) ≡ m.times (over m a (put i v s) f) (over m b s g) = λ v.
      over_times a b (put i v s) f g (λ j n. apart j (Memᴰ.tail n)) fb (λ j n. ga j (Memᴰ.tail n))
      ∙ ap (m.times (over m a (put i v s) f)) (over_base b i (apart i (Memᴰ.head refl)) v s g (ga i (Memᴰ.head refl))) in
      ap₂ m.plus (side true) (side false) ∙ sym (plus_times _ _ _)
