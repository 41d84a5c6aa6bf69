-- Changes of a table of lines.
use Rattle.std.specs.Prelude.{◌≡◌, ℕ, ◌<◌, Bool, false, ◌⊎◌, List, length, get_or, ◌≢◌, slice_index_or, slice_set}
use Rattle.rules.specs.declared.item_type.ItemType.TheVariants.{One}
use Rattle.rules.specs.declared.line.Line.{Line}
use Rattle.rules.specs.declared.line.Part.TheVariants.{Item}

-- what a reading past the end of a table gives
abbrev pub no_line : Line
no_line = record { number = record { value = 0 }; part = Item One; built_in = false }

-- the line with another mark
abbrev pub with_mark : Bool → Line → Line
with_mark v l = record { number = l.number; part = l.part; built_in = v }

-- the lines with another mark at the place i, and no other change
abbrev pub marked : List Line → ℕ → Bool → List Line
marked xs i v = slice_set xs i (with_mark v (slice_index_or xs i no_line))

-- the line with the number n stands at the place i
abbrev pub At : List Line → ℕ → ℕ → Type 0
At xs n i = (i < length xs) × ((get_or xs i no_line).number.value ≡ n)

-- no line has the number n
abbrev pub Missing : List Line → ℕ → Type 0
Missing xs n = (i : ℕ) → i < length xs → (get_or xs i no_line).number.value ≢ n

-- ys is xs with the line n made free, where there is one
abbrev pub Released : ℕ → List Line → List Line → Type 0
Released n xs ys = (Missing xs n × (ys ≡ xs)) ⊎ ((i : ℕ) × At xs n i × (ys ≡ marked xs i false))
