-- The whole numbers are a commutative semiring, whatever the figures of the items.
use Rattle.std.proofs.Common.{ℕ, ◌+◌, ◌*◌, add-zero, add_assoc, mul_assoc, mul_comm, add_comm, mul-zero, mul-one, mul-add}
use Rattle.rules.specs.declared.item_type.ItemType.{ItemType}
use Rattle.sums.specs.Semiring.{Meaning, Semiring}

abbrev pub numbers : (ItemType → ℕ) → (ItemType → ℕ) → Meaning ℕ
numbers working failed = record { none = 0; unit = 1; plus = ◌+◌; times = ◌*◌; working = working; failed = failed }

pub numbers_semiring : (working failed : ItemType → ℕ) → Semiring (numbers working failed)
numbers_semiring working failed = record {
  plus_comm = add_comm;
  plus_assoc = add_assoc;
  plus_none = add-zero;
  times_comm = mul_comm;
  times_assoc = mul_assoc;
  times_unit = mul-one;
  times_plus = mul-add;
  times_none = mul-zero;
}
