-- A standing line by places: the items beneath it, in rising number, stand at the places from 0 on.
use Rattle.std.specs.Prelude.{◌≡◌, ℕ, true, not, List, length, is_some}
use Rattle.rules.specs.History.{History, given, standing}
use Rattle.rules.specs.Ruled.{Lawful}
use Rattle.rules.specs.Trees.{items, works, tree_of, type_in}
use Rattle.sums.specs.Semiring.{Meaning}
use Rattle.sums.specs.Sums.{sum_over, working_sum, failing_sum}
use Rattle.sums.specs.Members.{Alike, Rising}
use Rattle.sums.specs.States.{range}
use Rattle.sums.specs.Order.{rising_upto, placed, types_at}

-- the items beneath the line n, in rising number
abbrev pub rising_in : History → ℕ → List ℕ
rising_in h n = rising_upto (given h) (items (tree_of h n))

-- these are the items of its tree, and its sums are those over the states of their places
pub record LinePlaced {F : Type 0} (m : Meaning F) (h : History) (n : ℕ) : Type 0 where
  pub rising : Rising (rising_in h n)
  pub alike : Alike (rising_in h n) (items (tree_of h n))
  pub working : sum_over m (types_at (type_in h) (rising_in h n)) (range 0 (length (rising_in h n))) (λ q. works (tree_of h n) (placed (rising_in h n) q))
      ≡ working_sum m (type_in h) (tree_of h n)
  pub failing : sum_over m (types_at (type_in h) (rising_in h n)) (range 0 (length (rising_in h n))) (λ q. not (works (tree_of h n) (placed (rising_in h n) q)))
      ≡ failing_sum m (type_in h) (tree_of h n)

abbrev pub PlacesStand : {F : Type 0} → Meaning F → Type 0
PlacesStand m = (h : History) → Lawful h → (n : ℕ) → is_some (standing h n) ≡ true → LinePlaced m h n
