-- How many states of a plan come to each cell.
use Rattle.std.specs.Prelude.{ℕ, ◌<◌, Bool, ◌&&◌, List, [], ◌∷◌, is_some}
use Rattle.rules.specs.declared.item_type.ItemType.{ItemType}
use Rattle.rules.specs.declared.refusal.Refusal.TheVariants.{TooManyPlaces}
use Rattle.rules.specs.Rules.{Rule, ◌when◌}
use Rattle.rules.specs.Trees.{State}
use Rattle.sums.specs.States.{range, keep, count, states_passing}
use Rattle.sums.specs.ByType.{is_type, working_of, numbers_work}
use Rattle.plan.specs.Plans.{Structure}

-- whether the place i is of the type t
abbrev pub is_of_type : Structure → ItemType → ℕ → Bool
is_of_type p t i = is_type t (p.types i)

-- the non-empty places, in rising order
unfoldable pub places : Structure → List ℕ
places p = keep (λ i. is_some (p.types i)) (range 0 16)

-- how many places are of the type t, and how many of these work in s
abbrev pub places_of : Structure → ItemType → ℕ
places_of p t = count (is_of_type p t) (places p)

abbrev pub working_in : Structure → ItemType → State → ℕ
working_in p t s = working_of p.types (places p) t s

-- whether s belongs to the cell (a, b, c): a, b and c places of types 1, 2 and 3 work in it
abbrev pub in_cell : Structure → ℕ → ℕ → ℕ → State → Bool
in_cell p a b c s = numbers_work p.types (places p) a b c s

-- Of the states of the non-empty places, those with a, b and c of types 1, 2 and 3 working, and those
-- of them in which the plan works. The second number over the first is the survival signature: the
-- share of the states with those numbers working in which the system works.
abbrev pub total_states : Structure → ℕ → ℕ → ℕ → ℕ
total_states p a b c = states_passing (places p) (in_cell p a b c)

abbrev pub working_states : Structure → ℕ → ℕ → ℕ → ℕ
working_states p a b c = states_passing (places p) (λ s. p.works s && in_cell p a b c s)

-- why a plan is not counted
abbrev pub count_rules : Structure → List Rule
count_rules p = TooManyPlaces when ((t : ItemType) × (7 < places_of p t)) ∷ []
