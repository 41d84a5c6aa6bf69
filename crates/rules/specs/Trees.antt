-- The tree of items and blocks beneath a standing line.
use Rattle.std.specs.Prelude.{◌≡◌, ℕ, suc, Bool, cond, List, [], ◌∷◌, ◌++◌, Some, None, Option, ◌==◌}
use Rattle.rules.specs.declared.change.Change.TheVariants.{Issue, Join, Withdraw}
use Rattle.rules.specs.declared.item_type.ItemType.{ItemType}
use Rattle.rules.specs.declared.kind.Kind.{Kind}
use Rattle.rules.specs.declared.line.Part.{Part}
use Rattle.rules.specs.declared.line.Part.TheVariants.{Item, Block}
use Rattle.rules.specs.declared.part_number.PartNumber.{PartNumber}
use Rattle.rules.specs.Kinds.{block_works}
use Rattle.rules.specs.Lines.{type_of_part}
use Rattle.rules.specs.History.{History, given, standing}

-- an item by its number, or a block over two trees
pub data Tree : Type 0 where
  item : ℕ → Tree
  block : Kind → Tree → Tree → Tree

-- a state says of each item, by its number, whether it works
abbrev pub State : Type 0
State = ℕ → Bool

-- the items beneath an item are itself, and beneath a block those beneath its two lines
abbrev pub items : Tree → List ℕ
items (item n) = n ∷ []
items (block k x y) = items x ++ items y

-- an item works if the state says so, a block as its kind makes of its two lines
abbrev pub works : Tree → State → Bool
works (item n) s = s n
works (block k x y) s = block_works k (works x s) (works y s)

-- x is the tree beneath the standing line n
abbrev pub IsTree : History → ℕ → Tree → Type 0
IsTree h n (item m) = (t : ItemType) × (standing h n ≡ Some (Item t)) × (m ≡ n)
IsTree h n (block k x y) = (a b : PartNumber) × (standing h n ≡ Some (Block k a b)) × IsTree h a.value x × IsTree h b.value y

-- the tree beneath the line n, as the changes made it
abbrev pub tree_of : History → ℕ → Tree
tree_of [] n = item n
tree_of (Issue t ∷ h) n = cond (n == suc (given h)) (item n) (tree_of h n)
tree_of (Join k a b ∷ h) n = cond (n == suc (given h)) (block k (tree_of h a.value) (tree_of h b.value)) (tree_of h n)
tree_of (Withdraw m ∷ h) n = tree_of h n

-- the type of the item n; anything else has none
abbrev pub type_at : Option Part → Option ItemType
type_at None = None
type_at (Some p) = type_of_part p

abbrev pub type_in : History → ℕ → Option ItemType
type_in h n = type_at (standing h n)
