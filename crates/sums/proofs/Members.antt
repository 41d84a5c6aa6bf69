-- Lists of numbers by what they hold: one number taken out, two lists put together.
use Rattle.std.proofs.Common.{◌≡◌, ℕ, true, false, eqb, List, [], ◌∷◌, ◌++◌, sym, refl, ◌∙◌, ⊎_elim}
use mathlib.Core.List.Memᴰ
use Rattle.std.proofs.lemmas.Bool.{both_ways, eqb-true, eq-eqb, or_cases, or_left, or_right}
use Rattle.rules.specs.History.{has}
use Rattle.rules.specs.Trees.{Tree, item, block, items}
use Rattle.sums.specs.Members.{◌∈◌, Apart, Alike, Distinct, Once}

-- a list has a number if the test says so
pub has_from : (is : List ℕ) (i : ℕ) → has is i ≡ true → i ∈ is
has_from [] i e = absurd (both_ways false refl e)
has_from (j ∷ is) i e = ⊎_elim (λ y. Memᴰ.head (eqb-true i j y)) (λ y. Memᴰ.tail (has_from is i y)) (or_cases (eqb i j) (has is i) e)

pub has_to : (is : List ℕ) (i : ℕ) → i ∈ is → has is i ≡ true
has_to [] i m = elim m [ ]
has_to (j ∷ is) i (Memᴰ.head e) = or_left _ _ (eq-eqb i j e)
has_to (j ∷ is) i (Memᴰ.tail m) = or_right _ _ (has_to is i m)

pub distinct_append : (a b : List ℕ) → Distinct a → Distinct b → Apart a b → Distinct (a ++ b)
distinct_append [] b da db apart = db
distinct_append (i ∷ a) b da db apart = (
  λ m. ⊎_elim da.0 (apart i (Memᴰ.head refl)) (Memᴰ.append_cases a m),
  distinct_append a b da.1 db (λ j m. apart j (Memᴰ.tail m)),
)

pub once_distinct : (x : Tree) → Once x → Distinct (items x)
once_distinct (item n) once = ((λ m. elim m [ ]), tt)
once_distinct (block k x y) once = distinct_append (items x) (items y) (once_distinct x once.1) (once_distinct y once.2) once.0

-- the list without that occurrence of i
unfoldable pub without : {i : ℕ} {is : List ℕ} → i ∈ is → List ℕ
without (Memᴰ.head {xs = xs} e) = xs
without (Memᴰ.tail {x = x} m) = x ∷ without m

without_from : {i j : ℕ} {is : List ℕ} (m : i ∈ is) → j ∈ without m → j ∈ is
unfolding without
without_from (Memᴰ.head e) n = Memᴰ.tail n
without_from (Memᴰ.tail m) (Memᴰ.head e) = Memᴰ.head e
without_from (Memᴰ.tail m) (Memᴰ.tail n) = Memᴰ.tail (without_from m n)

without_to : {i j : ℕ} {is : List ℕ} (m : i ∈ is) → (j ≡ i → ⊥) → j ∈ is → j ∈ without m
unfolding without
without_to (Memᴰ.head e) ne (Memᴰ.head d) = absurd (ne (d ∙ sym e))
without_to (Memᴰ.head e) ne (Memᴰ.tail n) = n
without_to (Memᴰ.tail m) ne (Memᴰ.head d) = Memᴰ.head d
without_to (Memᴰ.tail m) ne (Memᴰ.tail n) = Memᴰ.tail (without_to m ne n)

pub without_distinct : {i : ℕ} {is : List ℕ} (m : i ∈ is) → Distinct is → Distinct (without m)
unfolding without
without_distinct (Memᴰ.head e) d = d.1
without_distinct (Memᴰ.tail m) d = (λ n. d.0 (without_from m n), without_distinct m d.1)

without_gone : {i : ℕ} {is : List ℕ} (m : i ∈ is) → Distinct is → i ∈ without m → ⊥
unfolding without
without_gone (Memᴰ.head e) d n = d.0 (Memᴰ.cast (sym e) n)
without_gone (Memᴰ.tail m) d (Memᴰ.head e) = d.0 (Memᴰ.cast (sym e) m)
without_gone (Memᴰ.tail m) d (Memᴰ.tail n) = without_gone m d.1 n

past_first : {j i : ℕ} {is : List ℕ} → (j ≡ i → ⊥) → j ∈ (i ∷ is) → j ∈ is
past_first ne (Memᴰ.head e) = absurd (ne e)
past_first ne (Memᴰ.tail n) = n

-- lists that are alike stay so without their common number
pub rest_alike : (i : ℕ) (a b : List ℕ) → Distinct (i ∷ a) → Distinct b → Alike (i ∷ a) b → (m : i ∈ b) → Alike a (without m)
rest_alike i a b da db same m j = (
  λ n. without_to m (λ e. da.0 (Memᴰ.cast (sym e) n)) ((same j).0 (Memᴰ.tail n)),
  λ n. past_first (λ e. without_gone m db (Memᴰ.cast (sym e) n)) ((same j).1 (without_from m n)),
)
