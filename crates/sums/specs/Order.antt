-- A sum over the states of items depends neither on the order in which they are listed, nor on whether they go by number or by place.
use Rattle.std.specs.Prelude.{◌≡◌, ℕ, zero, suc, ◌<◌, ◌≤◌, Bool, cond, not, List, [], ◌∷◌, length, Some, None, Option, ◌==◌, slice_index}
use Rattle.rules.specs.declared.item_type.ItemType.{ItemType}
use Rattle.rules.specs.History.{has, listing}
use Rattle.rules.specs.Trees.{State, Tree, items, works}
use Rattle.sums.specs.Semiring.{Meaning}
use Rattle.sums.specs.States.{all_failed, states, total, range}
use Rattle.sums.specs.Sums.{sum_over, working_sum, failing_sum}
use Rattle.sums.specs.Members.{◌∈◌, Alike, Distinct, Rising, Once}

-- the numbers from 1 to m that the list has, in rising order
abbrev pub rising_upto : ℕ → List ℕ → List ℕ
rising_upto m is = listing (λ i. cond (has is i) (Some i) None) m

-- these rise, and they are the list's numbers, if none of those is 0 or above m
pub record RisingStands (m : ℕ) (is : List ℕ) : Type 0 where
  pub rising : Rising (rising_upto m is)
  pub distinct : Distinct (rising_upto m is)
  pub alike : ((i : ℕ) → i ∈ is → (0 < i) × (i ≤ m)) → Alike (rising_upto m is) is

-- the place, from 0, at which a number stands in a list; one that does not comes after those that do
abbrev pub place_of : List ℕ → ℕ → ℕ
place_of [] i = i
place_of (n ∷ ns) i = cond (n == i) zero (suc (place_of ns i))

-- the state of the items ns in which each is as q has it at its place
abbrev pub placed : List ℕ → State → State
placed ns q i = q (place_of ns i)

-- the type of the item at each place
abbrev pub types_at : (ℕ → Option ItemType) → List ℕ → ℕ → Option ItemType
types_at types ns p = types (slice_index ns p)

pub record OrderStands {F : Type 0} (m : Meaning F) : Type 0 where
  -- the sum of any f over all states
  pub states_order : (a b : List ℕ) → Distinct a → Distinct b → Alike a b → (f : State → F)
      → total m.none m.plus f (states a all_failed) ≡ total m.none m.plus f (states b all_failed)
  pub states_placed : (ns : List ℕ) → Distinct ns → (f : State → F)
      → total m.none m.plus (λ q. f (placed ns q)) (states (range 0 (length ns)) all_failed)
      ≡ total m.none m.plus f (states ns all_failed)
  -- the sum over the states that pass any test
  pub order : (types : ℕ → Option ItemType) (a b : List ℕ) → Distinct a → Distinct b → Alike a b → (p : State → Bool)
      → sum_over m types a p ≡ sum_over m types b p
  pub by_place : (types : ℕ → Option ItemType) (ns : List ℕ) → Distinct ns → (p : State → Bool)
      → sum_over m (types_at types ns) (range 0 (length ns)) (λ q. p (placed ns q)) ≡ sum_over m types ns p
  -- the sums of a line, over the states of the places of the items beneath it
  pub working : (types : ℕ → Option ItemType) (x : Tree) → Once x → (ns : List ℕ) → Distinct ns → Alike ns (items x)
      → sum_over m (types_at types ns) (range 0 (length ns)) (λ q. works x (placed ns q)) ≡ working_sum m types x
  pub failing : (types : ℕ → Option ItemType) (x : Tree) → Once x → (ns : List ℕ) → Distinct ns → Alike ns (items x)
      → sum_over m (types_at types ns) (range 0 (length ns)) (λ q. not (works x (placed ns q))) ≡ failing_sum m types x
