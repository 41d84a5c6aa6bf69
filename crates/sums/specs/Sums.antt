-- The two sums of a line, over all states of the items beneath it.
use Rattle.std.specs.Prelude.{ℕ, Bool, true, false, not, List, Some, None, Option}
use Rattle.rules.specs.declared.item_type.ItemType.{ItemType}
use Rattle.rules.specs.Trees.{State, Tree, items, works}
use Rattle.sums.specs.Semiring.{Meaning}
use Rattle.sums.specs.States.{all_failed, states, total, keep}

-- the figure of an item of a type that works, or does not; what is no item counts for nothing
abbrev pub figure : {F : Type 0} → Meaning F → Option ItemType → Bool → F
figure m None v = m.unit
figure m (Some t) true = m.working t
figure m (Some t) false = m.failed t

-- the product of the items' figures in the state s
abbrev pub weight : {F : Type 0} → Meaning F → (ℕ → Option ItemType) → List ℕ → State → F
weight m types is s = total m.unit m.times (λ i. figure m (types i) (s i)) is

-- the sum of these products over all states of the items that pass the test
abbrev pub sum_over : {F : Type 0} → Meaning F → (ℕ → Option ItemType) → List ℕ → (State → Bool) → F
sum_over m types is p = total m.none m.plus (weight m types is) (keep p (states is all_failed))

-- over the states in which the line works, and over those in which it does not
abbrev pub working_sum : {F : Type 0} → Meaning F → (ℕ → Option ItemType) → Tree → F
working_sum m types x = sum_over m types (items x) (works x)

abbrev pub failing_sum : {F : Type 0} → Meaning F → (ℕ → Option ItemType) → Tree → F
failing_sum m types x = sum_over m types (items x) (λ s. not (works x s))
