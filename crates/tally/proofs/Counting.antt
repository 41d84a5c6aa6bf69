-- Under count, a sum over states is their number.
use Rattle.std.proofs.Common.{◌≡◌, ℕ, ◌≤◌, Bool, true, false, cond, not, List, [], ◌∷◌, length, Some, None, Option, sym, refl, ap, ◌∙◌, ap₂, mod-eq_of_lt, arith, pow_mono}
use Rattle.rules.specs.declared.item_type.ItemType.{ItemType}
use Rattle.rules.specs.Trees.{State, items, works}
use Rattle.sums.specs.States.{all_failed, states, total, keep, states_passing}
use Rattle.sums.specs.Sums.{figure, weight, sum_over}
use Rattle.sums.proofs.Listed.{count_keep, states_length}
use Rattle.tally.specs.Counts.{counted, counts, CountsStand}
use Rattle.tally.specs.Wrapping.{same_count}

module _ (types : ℕ → Option ItemType) where
  figure_one : (o : Option ItemType) (v : Bool) → figure counts o v ≡ counted 1
  figure_one None v = refl
  figure_one (Some t) true = refl
  figure_one (Some t) false = refl

  weight_one : (is : List ℕ) (s : State) → weight counts types is s ≡ counted 1
  weight_one [] s = refl
  weight_one (i ∷ is) s = ap₂ counts.times (figure_one (types i) (s i)) (weight_one is s)

  total_length : (is : List ℕ) (ss : List State) → total counts.none counts.plus (weight counts types is) ss ≡ counted (length ss)
  total_length is [] = refl
  total_length is (s ∷ ss) = ap₂ counts.plus (weight_one is s) (total_length is ss) ∙ same_count _ _ (omega arith)

keep_length : {A : Type 0} (p : A → Bool) (xs : List A) → length (keep p xs) ≤ length xs
keep_length p [] = omega arith
keep_length p (x ∷ xs) = by (p x) (keep_length p xs)
  where
    by : (v : Bool) → length (keep p xs) ≤ length xs → length (cond v (x ∷ keep p xs) (keep p xs)) ≤ length (x ∷ xs)
    by true h = omega arith
    by false h = omega arith

sum_counts : (types : ℕ → Option ItemType) (is : List ℕ) → length is ≤ 16 → (p : State → Bool) → (sum_over counts types is p).value ≡ states_passing is p
sum_counts types is few p =
    let passing = count_keep p (states is all_failed) in
    let kept : length (keep p (states is all_failed)) ≤ 65536 = omega (arith, keep_length p (states is all_failed), states_length is all_failed, pow_mono few) in
    ap (λ x. x.value) (total_length types is (keep p (states is all_failed))) ∙ mod-eq_of_lt (omega arith) ∙ sym passing

pub counts_stand_lem : CountsStand
counts_stand_lem types x few = (sum_counts types (items x) few (works x), sum_counts types (items x) few (λ s. not (works x s)))
