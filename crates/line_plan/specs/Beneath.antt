-- A standing line by its tree.
use Rattle.std.specs.Prelude.{◌≡◌, ℕ, Bool, ◌&&◌, List, is_some}
use Rattle.rules.specs.Tables.{At}
use Rattle.rules.specs.History.{History, standing, lines_of}
use Rattle.rules.specs.Trees.{Tree, tree_of, type_in}
use Rattle.sums.specs.Order.{types_at}
use Rattle.sums.specs.Places.{rising_in}
use Rattle.place_set.specs.Sets.{bit}
use Rattle.line_plan.specs.declared.item_list.TypedItem.{TypedItem}
use Rattle.line_plan.specs.Items.{numbers, types_of}

-- whether the line n stands and its tree passes the test
abbrev pub stands_and : History → ℕ → (Tree → Bool) → Bool
stands_and h n test = is_some (standing h n) && test (tree_of h n)

-- bit i of the mask says of the line at the place i whether its number passes the test
abbrev pub Marks : History → ℕ → (ℕ → Bool) → Type 0
Marks h mask test = (i n : ℕ) → At (lines_of h) n i → bit mask i ≡ test n

-- these are the items beneath the line n, in rising number, each with its type
pub record ItemsBeneath (h : History) (n : ℕ) (is : List TypedItem) : Type 0 where
  pub rising : numbers is ≡ rising_in h n
  pub types : types_of is ≡ types_at (type_in h) (rising_in h n)
