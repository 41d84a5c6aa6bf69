-- Answers that are found by going down the tree beneath a line.
use Rattle.std.specs.Prelude.{◌≡◌, ℕ, Some, Option, Result}
use Rattle.rules.specs.declared.item_type.ItemType.{ItemType}
use Rattle.rules.specs.declared.kind.Kind.{Kind}
use Rattle.rules.specs.declared.part_number.PartNumber.{PartNumber}
use Rattle.rules.specs.declared.refusal.Refusal.{Refusal}
use Rattle.rules.specs.History.{History}
use Rattle.rules.specs.Rules.{Decided}
use Rattle.rules.specs.Ruled.{naming}
use Rattle.rules.specs.Trees.{Tree, item, block, tree_of, type_in}

-- what may be answered for a tree: for an item, of its type, what `gives` allows, and for a block what
-- `joins` allows by the answers for its two lines
pub data Folds {A : Type 0} (gives : PartNumber → ItemType → A → Type 0) (joins : A → A → A → Type 0) (types : ℕ → Option ItemType) : Tree → A → Type 0 where
  at_item : (n : ℕ) (t : ItemType) (a : A) → types n ≡ Some t → gives (record { value = n }) t a → Folds gives joins types (item n) a
  at_block : (k : Kind) (x y : Tree) (a b c : A) → Folds gives joins types x a → Folds gives joins types y b → joins a b c → Folds gives joins types (block k x y) c

-- the answer to a question for what such a going down gives at the line n
abbrev pub FoldRuled : {A : Type 0} → History → ℕ → (PartNumber → ItemType → A → Type 0) → (A → A → A → Type 0) → Result A Refusal → Type 0
FoldRuled h n gives joins r = Decided (naming h n) (Folds gives joins (type_in h) (tree_of h n)) r
