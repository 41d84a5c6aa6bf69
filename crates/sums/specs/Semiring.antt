-- What a tally means, and the laws that every tally keeps.
use Rattle.std.specs.Prelude.{◌≡◌}
use Rattle.rules.specs.declared.item_type.ItemType.{ItemType}

-- a tally: its two figures none and unit, its operations plus and times, and for each type the
-- figure of a working item and that of a failed one
pub record Meaning (F : Type 0) : Type 0 where
  pub none : F
  pub unit : F
  pub plus : F → F → F
  pub times : F → F → F
  pub working : ItemType → F
  pub failed : ItemType → F

-- the figures are a commutative semiring
pub record Semiring {F : Type 0} (m : Meaning F) : Type 0 where
  pub plus_comm : (x y : F) → m.plus x y ≡ m.plus y x
  pub plus_assoc : (x y z : F) → m.plus (m.plus x y) z ≡ m.plus x (m.plus y z)
  pub plus_none : (x : F) → m.plus x m.none ≡ x
  pub times_comm : (x y : F) → m.times x y ≡ m.times y x
  pub times_assoc : (x y z : F) → m.times (m.times x y) z ≡ m.times x (m.times y z)
  pub times_unit : (x : F) → m.times x m.unit ≡ x
  pub times_plus : (x y z : F) → m.times x (m.plus y z) ≡ m.plus (m.times x y) (m.times x z)
  pub times_none : (x : F) → m.times x m.none ≡ m.none
