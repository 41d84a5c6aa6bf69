-- How many items of each type work.
use Rattle.std.specs.Prelude.{ℕ, Bool, false, ◌&&◌, List, Some, None, Option, ◌==◌}
use Rattle.rules.specs.declared.item_type.ItemType.{ItemType}
use Rattle.rules.specs.declared.item_type.ItemType.TheVariants.{One, Two, Three}
use Rattle.rules.specs.Trees.{State}
use Rattle.rules.specs.Types.{type_number}
use Rattle.sums.specs.States.{count}

abbrev pub is_type : ItemType → Option ItemType → Bool
is_type t None = false
is_type t (Some u) = type_number u == type_number t

-- how many of the items are of the type t and work in the state s
abbrev pub working_of : (ℕ → Option ItemType) → List ℕ → ItemType → State → ℕ
working_of types is t s = count (λ i. is_type t (types i) && s i) is

-- whether a, b and c of the items of types 1, 2 and 3 work in the state s
abbrev pub numbers_work : (ℕ → Option ItemType) → List ℕ → ℕ → ℕ → ℕ → State → Bool
numbers_work types is a b c s = working_of types is One s == a && (working_of types is Two s == b && working_of types is Three s == c)
