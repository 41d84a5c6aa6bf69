-- The tree beneath each standing line.
use Rattle.std.specs.Prelude.{◌≡◌, ℕ, true, is_some, Some}
use Rattle.rules.specs.declared.item_type.ItemType.{ItemType}
use Rattle.rules.specs.History.{History, standing}
use Rattle.rules.specs.Ruled.{Lawful}
use Rattle.rules.specs.Trees.{Tree, items, IsTree, tree_of, type_in}
use Rattle.sums.specs.Members.{◌∈◌, Once}

-- what holds of the tree beneath the standing line n
pub record TreeStands (h : History) (n : ℕ) : Type 0 where
  -- it is the line's tree, and no other is
  pub is_tree : IsTree h n (tree_of h n)
  pub only : (x : Tree) → IsTree h n x → x ≡ tree_of h n
  -- no item stands twice in it, and each of its items has a type
  pub once : Once (tree_of h n)
  pub typed : (i : ℕ) → i ∈ items (tree_of h n) → (t : ItemType) × (type_in h i ≡ Some t)

abbrev pub TreesStand : Type 0
TreesStand = (h : History) → Lawful h → (n : ℕ) → is_some (standing h n) ≡ true → TreeStands h n
