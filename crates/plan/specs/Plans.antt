-- What a plan means, and the laws that every plan keeps.
use Rattle.std.specs.Prelude.{◌≡◌, ℕ, ◌≤◌, Bool, true, false, not, None, Option, ◌≢◌}
use Rattle.rules.specs.declared.item_type.ItemType.{ItemType}
use Rattle.rules.specs.Trees.{State}
use Rattle.sums.specs.States.{put}
use Rattle.place_set.specs.Sets.{Within}

-- a plan: the type of each place, or none for an empty one, and the structure function, which says
-- of each state whether the plan works in it
pub record Structure : Type 0 where
  pub types : ℕ → Option ItemType
  pub works : State → Bool

-- s and t agree at each place that has a type
abbrev pub Agree : (ℕ → Option ItemType) → State → State → Type 0
Agree types s t = (i : ℕ) → (types i ≢ None) → s i ≡ t i

-- one more working place never stops the plan, empty places do not matter, and a place above 15 is empty
pub record LawfulPlan (p : Structure) : Type 0 where
  pub monotone : (s t : State) → Within s t → p.works s ≡ true → p.works t ≡ true
  pub empty : (s t : State) → Agree p.types s t → p.works s ≡ p.works t
  pub above : (i : ℕ) → 16 ≤ i → p.types i ≡ None

-- the plan p with the place i failed
abbrev pub locked_out : ℕ → Structure → Structure
locked_out i p = record { types = p.types; works = λ s. p.works (put i false s) }

-- every place turned over
abbrev pub turned_over : State → State
turned_over s i = not (s i)

-- works where p does not work with every place turned over
abbrev pub mirrored : Structure → Structure
mirrored p = record { types = p.types; works = λ s. not (p.works (turned_over s)) }
