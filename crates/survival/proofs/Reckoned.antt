-- The figures that survival reckons are the bounds of their lines.
use Rattle.std.proofs.Common.{◌≡◌, ℕ, List, Option, sym, ap, ◌∙◌, ap₂, arith}
use Rattle.rules.specs.declared.item_type.ItemType.{ItemType}
use Rattle.rules.specs.History.{History}
use Rattle.rules.specs.Ruled.{Lawful}
use Rattle.rules.specs.Trees.{Tree, item, block, tree_of, type_in}
use Rattle.rules.proofs.Limits.{lines_length}
use Rattle.reckoning.specs.Figures.{IsFigure, Reckoned}
use Rattle.reckoning.proofs.Places.{stands_at}
use Rattle.survival.specs.declared.bounds.Bounds.{Bounds}
use Rattle.survival.specs.LowHigh.{block_low, block_high, item_share, low, high}
use Rattle.survival.specs.Held.{ItemBounds, BlockBounds, Held}

module _ (share : ItemType → ℕ) where
  figure_bounds : (types : ℕ → Option ItemType) (x : Tree) (v : Bounds) → IsFigure (ItemBounds share) BlockBounds types x v → (v.low.units ≡ low share types x) × (v.high.units ≡ high share types x)
  figure_bounds types (item n) v is =
      let e = is.2 in
      let s = sym (ap (item_share share) is.1) in
      (e.0 ∙ s, e.1 ∙ s)
  figure_bounds types (block k x y) v is =
      let e = is.4 in
      let ex = figure_bounds types x is.0 is.2 in
      let ey = figure_bounds types y is.1 is.3 in
      (e.0 ∙ ap₂ (block_low k) ex.0 ey.0, e.1 ∙ ap₂ (block_high k) ex.1 ey.1)

  pub held : (h : History) → Lawful h → (old new : List Bounds) → Reckoned (ItemBounds share) BlockBounds h old new → Held share h new
  held h l old new r n on d = figure_bounds (type_in h) (tree_of h n) _ (r.figured n on (omega (arith, (stands_at h l n on).0, lines_length h)) d)
