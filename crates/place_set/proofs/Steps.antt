-- The subsets of a set, one by one.
use Rattle.std.proofs.Common.{◌≡◌, ℕ, zero, suc, ◌^◌, ◌<◌, false, cond, ◌∷◌, Some, None, Option, sym, ap, ◌∙◌, ⊎_elim, arith, MatchOption}
use lib.Bits.{bit_and, and_le_r}
use Rattle.std.proofs.lemmas.Bool.{cases_eq, eq-eqb, ne_eqb}
use Rattle.sums.specs.States.{keep}
use Rattle.place_set.specs.declared.PlaceSet.{PlaceSet}
use Rattle.place_set.specs.Sets.{members, Within, NextBelow}
use Rattle.place_set.specs.Subsets.{sets_below, is_subset, subsets_of, subsets_from}
use Rattle.place_set.proofs.Masks.{within_and, and_within}

module _ (set : PlaceSet) where
  -- no subset between the masks n and s
  gap : (n s : ℕ) → n < s → ((t : ℕ) → n < t → t < s → bit_and t set.mask ≡ t → ⊥) → keep (is_subset set) (sets_below s) ≡ keep (is_subset set) (sets_below (suc n))
  gap n zero lt none = absurd (omega arith)
  gap n (suc s) lt none =
      ⊎_elim
      (λ same. ap (λ m. keep (is_subset set) (sets_below (suc m))) (sym same))
      (λ other.
      let out : is_subset set (record { mask = s }) ≡ false = ne_eqb (bit_and s set.mask) s (none s (omega arith) (omega arith)) in
      ap (λ b. cond b (record { mask = s } ∷ keep (is_subset set) (sets_below s)) (keep (is_subset set) (sets_below s))) out
      ∙ gap n s (omega arith) (λ t a b. none t a (omega arith)))
      (cases_eq n s)

  -- a mask above the set's is no subset
  pub first_subset : set.mask < 2 ^ 16 → subsets_from set (Some set) ≡ subsets_of set
  unfolding subsets_of
  first_subset small = sym (gap set.mask 65536 small (λ t above below part. let le = and_le_r t set.mask in omega arith))

  pub subsets_step : (s : PlaceSet) (o : Option PlaceSet) → s.mask < 2 ^ 16 → Within (members s) (members set) → MatchOption o (s.mask ≡ 0) (λ t. NextBelow set s t) → subsets_from set (Some s) ≡ s ∷ subsets_from set o
  subsets_step s o small within next =
      ap (λ b. cond b (s ∷ keep (is_subset set) (sets_below s.mask)) (keep (is_subset set) (sets_below s.mask))) (eq-eqb (bit_and s.mask set.mask) s.mask (within_and 16 s.mask set.mask small within))
      ∙ ap (λ rest. s ∷ rest) (before o next)
    where
      before : (o : Option PlaceSet) → MatchOption o (s.mask ≡ 0) (λ t. NextBelow set s t) → keep (is_subset set) (sets_below s.mask) ≡ subsets_from set o
      before None none = ap (λ n. keep (is_subset set) (sets_below n)) none
      before (Some t) next =
          gap t.mask s.mask next.lower (λ u above below part. let most = next.highest (record { mask = u }) (and_within u set.mask part) below in omega arith)
