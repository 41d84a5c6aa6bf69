-- The loop of the long count, state by state.
use Rattle.std.proofs.Common.{◌≡◌, ℕ, ◌+◌, ◌*◌, ◌^◌, ◌<◌, ◌≤◌, Bool, true, false, cond, ◌&&◌, ◌||◌, eqb, List, [], ◌∷◌, length, get_or, set, replicate, is_some, Some, None, Option, sym, refl, ap, ◌∙◌, ⊎_elim, add-zero, zero-add, arith, get_or-set_other, get_or-set_same}
use mathlib.Core.Path.{fun_ext}
use lib.ListN.{get_or-replicate}
use Rattle.std.proofs.lemmas.Bool.{cases_eq, cases_lt, cases_Bool, eqb-true, eq-eqb, and_from, and_parts}
use Rattle.rules.specs.declared.item_type.ItemType.{ItemType}
use Rattle.rules.specs.declared.item_type.ItemType.TheVariants.{One, Two, Three}
use Rattle.rules.specs.Rules.{Allowed}
use Rattle.rules.specs.Trees.{State}
use Rattle.sums.specs.States.{all_failed, keep, range, count}
use Rattle.place_set.specs.declared.PlaceSet.{PlaceSet}
use Rattle.plan.specs.Plans.{Structure}
use Rattle.place_set.specs.Sets.{members, size, both}
use Rattle.cells.specs.Cells.{cell}
use Rattle.rules.specs.declared.by_type.ByType.{ByType}
use Rattle.place_set.specs.Subsets.{subsets_of}
use Rattle.count.specs.ByType.{Sorted, some_type}
use Rattle.sums.specs.ByType.{is_type}
use Rattle.count.specs.Counts.{is_of_type, places, places_of, working_in, in_cell, working_states, count_rules}
use Rattle.count.proofs.Over.{over, count_states}
use Rattle.count.proofs.Lists.{size_working}
use Rattle.count.proofs.Subsets.{sum_over, sum_over_subsets}
use Rattle.count.proofs.Choosing.{working_bounded}

pub few_from : (p : Structure) → Allowed (count_rules p) → (t : ItemType) → places_of p t ≤ 7
few_from p a t = ⊎_elim (λ lt. absurd (a.0 (t, lt))) (λ le. le) (cases_lt 7 (places_of p t))

-- 1 for a state of the cell (a, b, c) in which the plan works
abbrev pub counted : Structure → ℕ → ℕ → ℕ → State → ℕ
counted p a b c s = cond (p.works s && in_cell p a b c s) 1 0

-- the places of some type are the non-empty ones
any_type : (o : Option ItemType) → ((is_type One o || is_type Two o) || is_type Three o) ≡ is_some o
any_type None = refl
any_type (Some One) = refl
any_type (Some Two) = refl
any_type (Some Three) = refl

-- where a state's cell stands
abbrev pub index : Structure → State → ℕ
index p s = working_in p One s + 8 * working_in p Two s + 64 * working_in p Three s

module _ (p : Structure) (places_of_types : ByType PlaceSet) (sorted : Sorted p places_of_types) where
  pub all_counted : (whole : PlaceSet) → whole.mask < 2 ^ 16 → members whole ≡ some_type places_of_types → (a b c : ℕ) → sum_over (counted p a b c) (subsets_of whole) ≡ working_states p a b c
  unfolding places
  all_counted whole small e a b c =
      let full : members whole ≡ (λ i. is_some (p.types i)) =
      e ∙ fun_ext (λ i j. (sorted One j i || sorted Two j i) || sorted Three j i) ∙ fun_ext (λ i. any_type (p.types i)) in
      sum_over_subsets whole small (counted p a b c)
      ∙ ap (λ q. over (keep q (range 0 16)) all_failed (counted p a b c)) full
      ∙ sym (count_states (λ s. p.works s && in_cell p a b c s) (keep (λ i. is_some (p.types i)) (range 0 16)) all_failed)

  pub cell_is : (s : State) (i : ℕ) → i ≡ size (both s (members places_of_types.one)) + 8 * size (both s (members places_of_types.two)) + 64 * size (both s (members places_of_types.three)) → i ≡ index p s
  cell_is s i e =
      let one = ap (λ t. size (both s t)) (sorted One) ∙ size_working p One s in
      let two = ap (λ t. size (both s t)) (sorted Two) ∙ size_working p Two s in
      let three = ap (λ t. size (both s t)) (sorted Three) ∙ size_working p Three s in
      omega arith

count_part : {A : Type 0} (q f : A → Bool) (xs : List A) → count (λ x. q x && f x) xs ≤ count q xs
count_part q f [] = omega arith
count_part q f (x ∷ xs) = at (q x) (f x) (count_part q f xs)
  where
    at : (v w : Bool) → count (λ x. q x && f x) xs ≤ count q xs → cond (v && w) 1 0 + count (λ x. q x && f x) xs ≤ cond v 1 0 + count q xs
    at true true h = omega arith
    at true false h = omega arith
    at false w h = omega arith

module _ (p : Structure) (few : (t : ItemType) → places_of p t ≤ 7) where
  pub working_few : (t : ItemType) (s : State) → working_in p t s ≤ 7
  working_few t s = let le = count_part (is_of_type p t) s (places p) in let most = few t in omega arith

  pub index_below : (s : State) → index p s < 512
  index_below s = let one = working_few One s in let two = working_few Two s in let three = working_few Three s in omega arith

  has_here : (s : State) (a b c : ℕ) → a < 8 → b < 8 → c < 8 → a + 8 * b + 64 * c ≡ index p s → in_cell p a b c s ≡ true
  has_here s a b c la lb lc e =
      let one = working_few One s in
      let two = working_few Two s in
      let three = working_few Three s in
      and_from (eqb (working_in p One s) a) (eqb (working_in p Two s) b && eqb (working_in p Three s) c) (eq-eqb (working_in p One s) a (omega arith))
      (and_from (eqb (working_in p Two s) b) (eqb (working_in p Three s) c) (eq-eqb (working_in p Two s) b (omega arith)) (eq-eqb (working_in p Three s) c (omega arith)))

  has_elsewhere : (s : State) (a b c : ℕ) → (a + 8 * b + 64 * c ≡ index p s → ⊥) → in_cell p a b c s ≡ false
  has_elsewhere s a b c ne = ⊎_elim (λ on. absurd (ne (same on))) (λ off. off) (cases_Bool (in_cell p a b c s))
    where
      same : in_cell p a b c s ≡ true → a + 8 * b + 64 * c ≡ index p s
      same on =
          let one = and_parts (eqb (working_in p One s) a) (eqb (working_in p Two s) b && eqb (working_in p Three s) c) on in
          let two = and_parts (eqb (working_in p Two s) b) (eqb (working_in p Three s) c) one.1 in
          omega (arith, eqb-true (working_in p One s) a one.0, eqb-true (working_in p Two s) b two.0, eqb-true (working_in p Three s) c two.1)

  -- one more state in its cell, and nothing elsewhere
  pub counts_one : (cells : List ℕ) (s : State) → length cells ≡ 512 → p.works s ≡ true → (i : ℕ) → i ≡ index p s → (a b c : ℕ) → a < 8 → b < 8 → c < 8
      → cell (set cells i (get_or cells i 0 + 1)) a b c ≡ cell cells a b c + counted p a b c s
  counts_one cells s long on i is a b c la lb lc =
      let k = a + 8 * b + 64 * c in
      let below = index_below s in
      ⊎_elim
      (λ same.
      let lt : i < length cells = omega arith in
      let h = has_here s a b c la lb lc (omega arith) in
      rw (on, h) (ap (λ j. get_or (set cells i (get_or cells i 0 + 1)) j 0) same ∙ get_or-set_same cells i (get_or cells i 0 + 1) 0 lt ∙ ap (λ j. get_or cells j 0 + 1) (sym same)))
      (λ other.
      let h = has_elsewhere s a b c (λ e. other (omega arith)) in
      rw (on, h) (get_or-set_other cells i k (get_or cells i 0 + 1) 0 other ∙ sym (add-zero _)))
      (cases_eq k i)

  -- what a cell holds so far is far from the limit of 16 bits
  pub cell_room : (cells : List ℕ) (s : State) (i rest : ℕ) → i ≡ index p s → cell cells (working_in p One s) (working_in p Two s) (working_in p Three s) + rest ≡ working_states p (working_in p One s) (working_in p Two s) (working_in p Three s)
      → get_or cells i 0 + 1 < 65536
  cell_room cells s i rest is so_far =
      let most = working_bounded p few (working_in p One s) (working_in p Two s) (working_in p Three s) in
      let here = ap (λ j. get_or cells j 0) is in
      omega arith

pub start : (a b c rest : ℕ) → a < 8 → b < 8 → c < 8 → cell (replicate 512 0) a b c + rest ≡ rest
start a b c rest la lb lc = ap (λ n. n + rest) (get_or-replicate 512 (a + 8 * b + 64 * c) 0 0 (omega arith)) ∙ zero-add rest
