-- Figures of standing lines, each made from an item's type, or from the figures of a block's two lines.
use Rattle.std.specs.Prelude.{◌≡◌, ℕ, ◌<◌, true, List, drop, is_some, Some, Option, slice_index_or}
use Rattle.rules.specs.declared.item_type.ItemType.{ItemType}
use Rattle.rules.specs.declared.kind.Kind.{Kind}
use Rattle.rules.specs.History.{History, standing, lines_standing, place_in}
use Rattle.rules.specs.Trees.{Tree, item, block, tree_of, type_in}

-- v is the figure of a tree, where ItemGives tells an item's by its type, and BlockGives a block's by
-- its kind and its two lines' figures
abbrev pub IsFigure : {F : Type 0} → (ItemType → F → Type 0) → (Kind → F → F → F → Type 0) → (ℕ → Option ItemType) → Tree → F → Type 0
IsFigure ItemGives BlockGives types (item n) v = (t : ItemType) × (types n ≡ Some t) × ItemGives t v
IsFigure {F} ItemGives BlockGives types (block k x y) v = (a b : F) × IsFigure ItemGives BlockGives types x a × IsFigure ItemGives BlockGives types y b × BlockGives k a b v

-- each standing line whose place is before i has its figure there
abbrev pub FiguredBefore : {F : Type 0} → (ItemType → F → Type 0) → (Kind → F → F → F → Type 0) → History → ℕ → List F → Type 0
FiguredBefore {F} ItemGives BlockGives h i figures = (n : ℕ) → is_some (standing h n) ≡ true → place_in h n < i
    → (d : F) → IsFigure ItemGives BlockGives (type_in h) (tree_of h n) (slice_index_or figures (place_in h n) d)

-- each standing line has its figure at its place, and behind them all is what was there
pub record Reckoned {F : Type 0} (ItemGives : ItemType → F → Type 0) (BlockGives : Kind → F → F → F → Type 0) (h : History) (old new : List F) : Type 0 where
  pub figured : FiguredBefore ItemGives BlockGives h (lines_standing h) new
  pub behind : drop (lines_standing h) new ≡ drop (lines_standing h) old
