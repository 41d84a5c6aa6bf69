-- The numbers of a list in rising order.
use Rattle.std.proofs.Common.{◌≡◌, ℕ, zero, suc, ◌<◌, ◌≤◌, Bool, true, false, cond, List, [], ◌∷◌, ◌++◌, Some, None, Option, sym, refl, ap, ◌∙◌, subst, ⊎_elim, arith}
use mathlib.Core.List.Memᴰ
use Rattle.std.specs.Option.{option_to_list}
use Rattle.std.proofs.lemmas.Bool.{cases_eq, cond-true}
use Rattle.rules.specs.History.{has, listing}
use Rattle.sums.specs.Members.{◌∈◌, Distinct, Rising}
use Rattle.sums.specs.Order.{rising_upto, RisingStands}
use Rattle.sums.proofs.Members.{has_from, has_to}

pub rising_distinct : (is : List ℕ) → Rising is → Distinct is
rising_distinct [] up = tt
rising_distinct (i ∷ is) up = (λ m. absurd (omega (arith, up.0 i m)), rising_distinct is up.1)

-- a larger number at the end
rising_append : (is js : List ℕ) → Rising is → Rising js → ((i j : ℕ) → i ∈ is → j ∈ js → i < j) → Rising (is ++ js)
rising_append [] js up vp below = vp
rising_append (i ∷ is) js up vp below = (
  λ j m. ⊎_elim (up.0 j) (below i j (Memᴰ.head refl)) (Memᴰ.append_cases is m),
  rising_append is js up.1 vp (λ k j m. below k j (Memᴰ.tail m)),
)

-- the numbers from 1 to m that pass a test
module _ (q : ℕ → Bool) where
  abbrev pick : ℕ → Option ℕ
  pick i = cond (q i) (Some i) None

  one_picked : (v : Bool) (n i : ℕ) → i ∈ option_to_list (cond v (Some n) None) → (i ≡ n) × (v ≡ true)
  one_picked true n i m = (Memᴰ.eq_of_singleton m, refl)
  one_picked false n i m = elim m [ ]

  picked : (m i : ℕ) → i ∈ listing pick m → (0 < i) × (i ≤ m) × (q i ≡ true)
  picked zero i n = elim n [ ]
  picked (suc m) i n =
      ⊎_elim
      (λ l. let r = picked m i l in (r.0, omega (arith, r.1), r.2))
      (λ l. let r = one_picked (q (suc m)) (suc m) i l in (omega (arith, r.0), omega (arith, r.0), ap q r.0 ∙ r.1))
      (Memᴰ.append_cases (listing pick m) n)

  picks : (m i : ℕ) → 0 < i → i ≤ m → q i ≡ true → i ∈ listing pick m
  picks zero i pos le e = absurd (omega arith)
  picks (suc m) i pos le e =
      ⊎_elim
      (λ (z : i ≡ suc m). Memᴰ.append_right (listing pick m) (subst (λ (o : Option ℕ). i ∈ option_to_list o) (sym (cond-true _ _ _ (ap q (sym z) ∙ e))) (Memᴰ.head z)))
      (λ z. Memᴰ.append_left (option_to_list (pick (suc m))) (picks m i pos (omega arith) e))
      (cases_eq i (suc m))

  one_rises : (o : Option ℕ) → Rising (option_to_list o)
  one_rises None = tt
  one_rises (Some n) = ((λ j m. elim m [ ]), tt)

  picked_rises : (m : ℕ) → Rising (listing pick m)
  picked_rises zero = tt
  picked_rises (suc m) =
      rising_append (listing pick m) (option_to_list (pick (suc m))) (picked_rises m) (one_rises (pick (suc m)))
      (λ i j n o. omega (arith, (picked m i n).1, (one_picked (q (suc m)) (suc m) j o).0))

pub rising_stands_lem : (m : ℕ) (is : List ℕ) → RisingStands m is
rising_stands_lem m is = record {
  rising = picked_rises (has is) m;
  distinct = rising_distinct (rising_upto m is) (picked_rises (has is) m);
  alike = λ within i. (λ n. has_from is i (picked (has is) m i n).2, λ n. picks (has is) m i (within i n).0 (within i n).1 (has_to is i n));
}
