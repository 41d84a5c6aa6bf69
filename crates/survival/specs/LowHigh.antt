-- The low and the high of a line's survival, in units of 1 / S, and the exact sum that they enclose.
use Rattle.std.specs.Prelude.{ℕ, ◌+◌, ◌-◌, ◌*◌, ◌/◌, ◌^◌, ◌≤◌, length, Some, None, Option}
use Rattle.rules.specs.declared.item_type.ItemType.{ItemType}
use Rattle.rules.specs.declared.kind.Kind.{Kind}
use Rattle.rules.specs.declared.kind.Kind.TheVariants.{Series, Parallel}
use Rattle.rules.specs.Trees.{Tree, item, block, items}
use Rattle.sums.specs.Semiring.{Meaning}
use Rattle.sums.specs.Sums.{working_sum}

-- 1, in units: 2 ^ 30
abbrev pub S : ℕ
S = 1073741824

-- x / S, rounded down
abbrev pub down : ℕ → ℕ
down x = x / S

-- x / S, rounded up
abbrev pub up : ℕ → ℕ
up x = (x + (S - 1)) / S

-- the low of a block over two lines whose lows are a and b
abbrev pub block_low : Kind → ℕ → ℕ → ℕ
block_low Series a b = down (a * b)
block_low Parallel a b = S - up ((S - a) * (S - b))

-- the high of a block over two lines whose highs are a and b
abbrev pub block_high : Kind → ℕ → ℕ → ℕ
block_high Series a b = up (a * b)
block_high Parallel a b = S - down ((S - a) * (S - b))

-- the share of an item: its type's; what is no item has none
abbrev pub item_share : (ItemType → ℕ) → Option ItemType → ℕ
item_share share None = 0
item_share share (Some t) = share t

-- the low of a line: of an item its share, of a block what its kind makes of its two lines' lows
abbrev pub low : (ItemType → ℕ) → (ℕ → Option ItemType) → Tree → ℕ
low share types (item n) = item_share share (types n)
low share types (block k x y) = block_low k (low share types x) (low share types y)

-- the high of a line
abbrev pub high : (ItemType → ℕ) → (ℕ → Option ItemType) → Tree → ℕ
high share types (item n) = item_share share (types n)
high share types (block k x y) = block_high k (high share types x) (high share types y)

-- whole numbers, where an item that works counts its type's share, and one that failed the rest of S
abbrev pub by_shares : (ItemType → ℕ) → Meaning ℕ
by_shares share = record { none = 0; unit = 1; plus = ◌+◌; times = ◌*◌; working = share; failed = λ t. S - share t }

-- over all states in which the line works, the sum of the products of these numbers
abbrev pub exact_sum : (ItemType → ℕ) → (ℕ → Option ItemType) → Tree → ℕ
exact_sum share types x = working_sum (by_shares share) types x

-- with m items beneath the line, l and u times S ^ (m - 1) enclose its exact sum, and are at most m - 1 apart
pub record Encloses (share : ItemType → ℕ) (types : ℕ → Option ItemType) (x : Tree) (l u : ℕ) : Type 0 where
  pub below : l * S ^ (length (items x) - 1) ≤ exact_sum share types x
  pub above : exact_sum share types x ≤ u * S ^ (length (items x) - 1)
  pub order : l ≤ u
  pub gap : u - l ≤ length (items x) - 1
