-- What a line is.
use Rattle.std.specs.Prelude.{ℕ, List, [], ◌∷◌, Some, None, Option}
use Rattle.rules.specs.declared.item_type.ItemType.{ItemType}
use Rattle.rules.specs.declared.line.Part.{Part}
use Rattle.rules.specs.declared.line.Part.TheVariants.{Item, Block}

-- the type of an item; a block has none
abbrev pub type_of_part : Part → Option ItemType
type_of_part (Item t) = Some t
type_of_part (Block k a b) = None

-- the lines right beneath a line: none beneath an item, two beneath a block
abbrev pub beneath : Part → List ℕ
beneath (Item t) = []
beneath (Block k a b) = a.value ∷ b.value ∷ []
