-- Items by places.
use Rattle.std.specs.Prelude.{ℕ, ◌&&◌, List, map, take, Option}
use Rattle.std.specs.Option.{option_map}
use Rattle.std.specs.List.{slice_get}
use Rattle.rules.specs.declared.item_type.ItemType.{ItemType}
use Rattle.rules.specs.History.{has}
use Rattle.rules.specs.Trees.{State}
use Rattle.sums.specs.Order.{placed}
use Rattle.line_plan.specs.declared.item_list.ItemList.{ItemList}
use Rattle.line_plan.specs.declared.item_list.TypedItem.{TypedItem}

-- the items of the list, in the order of their places
abbrev pub listed : ItemList → List TypedItem
listed l = take l.count l.items

-- their numbers
abbrev pub numbers : List TypedItem → List ℕ
numbers is = map (λ (i : TypedItem). i.number.value) is

-- the type of the item at each place, if there is one
abbrev pub types_of : List TypedItem → ℕ → Option ItemType
types_of is p = option_map (λ (i : TypedItem). i.item_type) (slice_get is p)

-- the state in which each of the items is as q has it at its place, and no other item works
abbrev pub state_of : List TypedItem → State → State
state_of is q n = has (numbers is) n && placed (numbers is) q n
