-- The types of items, and their numbers.
use Rattle.std.specs.Prelude.{◌≡◌, ℕ, cond, Some, None, Option, Result, MatchResult, ◌==◌}
use Rattle.rules.specs.declared.item_type.ItemType.{ItemType}
use Rattle.rules.specs.declared.item_type.ItemType.TheVariants.{One, Two, Three}
use Rattle.rules.specs.declared.refusal.Refusal.{Refusal}
use Rattle.rules.specs.declared.refusal.Refusal.TheVariants.{UnknownType}

abbrev pub type_number : ItemType → ℕ
type_number One = 1
type_number Two = 2
type_number Three = 3

-- the type with the number, if there is one
abbrev pub type_numbered : ℕ → Option ItemType
type_numbered n = cond (n == 1) (Some One) (cond (n == 2) (Some Two) (cond (n == 3) (Some Three) None))

-- the answer where a number is to be a type's
abbrev pub TypeRuled : ℕ → Result ItemType Refusal → Type 0
TypeRuled n r = MatchResult r (λ t. type_numbered n ≡ Some t) (λ e. (type_numbered n ≡ None) × (e ≡ UnknownType))
