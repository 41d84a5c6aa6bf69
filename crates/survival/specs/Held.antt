-- Shares as fractions, and the low and the high of each standing line, held at the line's place.
use Rattle.std.specs.Prelude.{◌≡◌, ℕ, ◌<◌, true, List, [], ◌∷◌, is_some, Result, slice_index_or}
use Rattle.rules.specs.declared.by_type.ByType.{ByType}
use Rattle.rules.specs.declared.item_type.ItemType.{ItemType}
use Rattle.rules.specs.declared.kind.Kind.{Kind}
use Rattle.rules.specs.declared.refusal.Refusal.{Refusal}
use Rattle.rules.specs.declared.refusal.Refusal.TheVariants.{ShareTooHigh}
use Rattle.rules.specs.ByType.{of_type}
use Rattle.rules.specs.History.{History, standing, place_in}
use Rattle.rules.specs.Rules.{◌when◌, Decided}
use Rattle.rules.specs.Trees.{tree_of, type_in}
use Rattle.survival.specs.declared.bounds.Bounds.{Bounds}
use Rattle.survival.specs.declared.fixed_point.FixedPoint.{FixedPoint}
use Rattle.survival.specs.declared.fractions.Fractions.{Fractions}
use Rattle.survival.specs.LowHigh.{S, block_low, block_high, low, high}
use Rattle.survival.specs.Ruled.{share_rules}

-- the number that a share of n units stands for
abbrev pub ShareRuled : ℕ → Result FixedPoint Refusal → Type 0
ShareRuled n r = Decided (ShareTooHigh when (S < n) ∷ []) (λ x. x.units ≡ n) r

-- the fraction of a type, in units
abbrev pub fraction_of : Fractions → ItemType → ℕ
fraction_of f t = (of_type f.by_type t).units

-- the fractions that the shares stand for
abbrev pub FractionsRuled : ByType ℕ → Result Fractions Refusal → Type 0
FractionsRuled s r = Decided (share_rules s) (λ f. (t : ItemType) → fraction_of f t ≡ of_type s t) r

-- b has the low and the high of the standing line n
abbrev pub BoundsOf : (ItemType → ℕ) → History → ℕ → Bounds → Type 0
BoundsOf share h n b =
    (b.low.units ≡ low share (type_in h) (tree_of h n))
    × (b.high.units ≡ high share (type_in h) (tree_of h n))

-- b has the bounds of an item of the type t, whose share is known exactly
abbrev pub ItemBounds : (ItemType → ℕ) → ItemType → Bounds → Type 0
ItemBounds share t b = (b.low.units ≡ share t) × (b.high.units ≡ share t)

-- and those of a block over two lines with the bounds x and y
abbrev pub BlockBounds : Kind → Bounds → Bounds → Bounds → Type 0
BlockBounds k x y b =
    (b.low.units ≡ block_low k x.low.units y.low.units)
    × (b.high.units ≡ block_high k x.high.units y.high.units)

-- each standing line has its bounds at its place
abbrev pub Held : (ItemType → ℕ) → History → List Bounds → Type 0
Held share h places = (n : ℕ) → is_some (standing h n) ≡ true → (d : Bounds) → BoundsOf share h n (slice_index_or places (place_in h n) d)
