-- Every state of some items is listed, and a line depends on the items beneath it alone.
use Rattle.std.proofs.Common.{◌≡◌, ℕ, ◌+◌, ◌^◌, Bool, true, false, cond, ◌&&◌, ◌||◌, eqb, ◌⊎◌, List, [], ◌∷◌, length, sym, refl, ap, ◌∙◌, ap₂, inl, inr, ⊎_elim, arith, length-append}
use mathlib.Core.List.Memᴰ
use mathlib.Core.List.{Memᴰ}
use native.Mathlib.Nat.{pow-succ'}
use Rattle.std.proofs.lemmas.Bool.{eqb-true, eqb-false, and_parts, and_from, or_cases, or_left, or_right}
use Rattle.rules.specs.declared.kind.Kind.TheVariants.{Series, Parallel}
use Rattle.rules.specs.Kinds.{block_works}
use Rattle.rules.specs.Trees.{State, Tree, item, block, items, works}
use Rattle.sums.specs.States.{all_failed, put, states, total, keep, count}
use Rattle.sums.specs.Members.{◌∈◌}

-- two states agree on the items
abbrev pub Agree : List ℕ → State → State → Type 0
Agree is s t = (i : ℕ) → i ∈ is → s i ≡ t i

-- among the states of the items there is one that agrees on them with s
pub listed : (is : List ℕ) (base s : State) → (t : State) × Memᴰ t (states is base) × Agree is t s
listed is base s = let (t, m, same) = at is base in (t, m, λ i n. same i (inl n))
  where
    put-agrees : (base : State) (i j : ℕ) → (j ≡ i) ⊎ (base j ≡ s j) → put i (s i) base j ≡ s j
    put-agrees base i j h = by (eqb i j) refl h
      where
        by : (x : Bool) → eqb i j ≡ x → (j ≡ i) ⊎ (base j ≡ s j) → cond x (s i) (base j) ≡ s j
        by true e h = ap s (eqb-true i j e)
        by false e (inl d) = absurd (eqb-false i j e (sym d))
        by false e (inr d) = d

    side : (i : ℕ) (is : List ℕ) (base t : State) (v : Bool) → Memᴰ t (states is (put i v base)) → Memᴰ t (states (i ∷ is) base)
    side i is base t true m = Memᴰ.append_left (states is (put i false base)) m
    side i is base t false m = Memᴰ.append_right (states is (put i true base)) m

    at : (is : List ℕ) (base : State) → (t : State) × Memᴰ t (states is base) × ((i : ℕ) → (i ∈ is) ⊎ (base i ≡ s i) → t i ≡ s i)
    at [] base = (base, Memᴰ.head refl, λ i h. elim h [ inl m ↦ elim m [ ] | inr e ↦ e ])
    at (i ∷ is) base =
        let (t, m, same) = at is (put i (s i) base) in (
          t,
          side i is base t (s i) m,
          λ j h. same j (elim h [
            | inl n ↦ elim n [ Memᴰ.head e ↦ inr (put-agrees base i j (inl e)) | Memᴰ.tail o ↦ inl o ]
            | inr e ↦ inr (put-agrees base i j (inr e))
          ]),
        )

pub works_agree : (x : Tree) (s t : State) → Agree (items x) s t → works x s ≡ works x t
works_agree (item n) s t same = same n (Memᴰ.head refl)
works_agree (block k x y) s t same =
    ap₂ (block_works k)
    (works_agree x s t (λ i m. same i (Memᴰ.append_left (items y) m)))
    (works_agree y s t (λ i m. same i (Memᴰ.append_right (items x) m)))

-- one more working item never stops a line
pub works_more : (x : Tree) (s t : State) → ((i : ℕ) → s i ≡ true → t i ≡ true) → works x s ≡ true → works x t ≡ true
works_more (item n) s t more on = more n on
works_more (block Series x y) s t more on =
    let parts = and_parts (works x s) (works y s) on in
    and_from (works x t) (works y t) (works_more x s t more parts.0) (works_more y s t more parts.1)
works_more (block Parallel x y) s t more on =
    ⊎_elim
    (λ e. or_left (works x t) (works y t) (works_more x s t more e))
    (λ e. or_right (works x t) (works y t) (works_more y s t more e))
    (or_cases (works x s) (works y s) on)

-- no line works if no item does
pub nothing_works : (x : Tree) → works x all_failed ≡ false
nothing_works (item n) = refl
nothing_works (block Series x y) = ap₂ ◌&&◌ (nothing_works x) (nothing_works y)
nothing_works (block Parallel x y) = ap₂ ◌||◌ (nothing_works x) (nothing_works y)

pub total_same : {A F : Type 0} (start : F) (op : F → F → F) (f g : A → F) (xs : List A) → ((x : A) → Memᴰ x xs → f x ≡ g x)
    → total start op f xs ≡ total start op g xs
total_same start op f g [] same = refl
total_same start op f g (x ∷ xs) same = ap₂ op (same x (Memᴰ.head refl)) (total_same start op f g xs (λ y m. same y (Memᴰ.tail m)))

-- n items have 2^n states
pub count_keep : {A : Type 0} (p : A → Bool) (xs : List A) → count p xs ≡ length (keep p xs)
count_keep p [] = refl
count_keep p (x ∷ xs) = by (p x) (count_keep p xs)
  where
    by : (v : Bool) → count p xs ≡ length (keep p xs) → cond v 1 0 + count p xs ≡ length (cond v (x ∷ keep p xs) (keep p xs))
    by true e = omega arith
    by false e = omega arith

pub states_length : (is : List ℕ) (s : State) → length (states is s) ≡ 2 ^ length is
states_length [] s = refl
states_length (i ∷ is) s =
    length-append (states is (put i true s)) (states is (put i false s))
    ∙ omega (arith, states_length is (put i true s), states_length is (put i false s), pow-succ' 2 (length is))
