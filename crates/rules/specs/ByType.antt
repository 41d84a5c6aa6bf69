-- Values by type.
use Rattle.rules.specs.declared.by_type.ByType.{ByType}
use Rattle.rules.specs.declared.item_type.ItemType.{ItemType}
use Rattle.rules.specs.declared.item_type.ItemType.TheVariants.{One, Two, Three}

-- the value for a type
abbrev pub of_type : {T : Type 0} → ByType T → ItemType → T
of_type v One = v.one
of_type v Two = v.two
of_type v Three = v.three
