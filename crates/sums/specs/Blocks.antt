-- The two sums of a line, from those of the lines right beneath it.
use Rattle.std.specs.Prelude.{◌≡◌, ℕ, Some, Option}
use Rattle.rules.specs.declared.item_type.ItemType.{ItemType}
use Rattle.rules.specs.declared.kind.Kind.{Kind}
use Rattle.rules.specs.declared.kind.Kind.TheVariants.{Series, Parallel}
use Rattle.rules.specs.Trees.{Tree, item, block}
use Rattle.sums.specs.Semiring.{Meaning}
use Rattle.sums.specs.Sums.{working_sum, failing_sum}
use Rattle.sums.specs.Members.{Once}

-- the working sum of a block over two lines, whose working and failing sums are x and y, and z and w
abbrev pub block_working : {F : Type 0} → Meaning F → Kind → F → F → F → F → F
block_working m Series x y z w = m.times x z
block_working m Parallel x y z w = m.plus (m.times x (m.plus z w)) (m.times y z)

-- its failing sum
abbrev pub block_failing : {F : Type 0} → Meaning F → Kind → F → F → F → F → F
block_failing m Series x y z w = m.plus (m.times x w) (m.times y (m.plus z w))
block_failing m Parallel x y z w = m.times y w

-- the sums of an item are its type's figures, and those of a block come from its lines' sums alone
pub record BlockSumsStand {F : Type 0} (m : Meaning F) : Type 0 where
  pub item_working : (types : ℕ → Option ItemType) (n : ℕ) (t : ItemType) → types n ≡ Some t
      → working_sum m types (item n) ≡ m.working t
  pub item_failing : (types : ℕ → Option ItemType) (n : ℕ) (t : ItemType) → types n ≡ Some t
      → failing_sum m types (item n) ≡ m.failed t
  pub working : (types : ℕ → Option ItemType) (k : Kind) (x y : Tree) → Once (block k x y)
      → working_sum m types (block k x y)
      ≡ block_working m k (working_sum m types x) (failing_sum m types x) (working_sum m types y) (failing_sum m types y)
  pub failing : (types : ℕ → Option ItemType) (k : Kind) (x y : Tree) → Once (block k x y)
      → failing_sum m types (block k x y)
      ≡ block_failing m k (working_sum m types x) (failing_sum m types x) (working_sum m types y) (failing_sum m types y)
