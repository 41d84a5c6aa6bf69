-- How each line is written. Numbers have no leading zeros, so a change has one text and no other.
use Rattle.std.specs.Prelude.{◌≡◌, ℕ, ◌<◌, List, ◌∷◌, ◌++◌, Some, decimal}
use Rattle.rules.specs.declared.change.Change.{Change}
use Rattle.rules.specs.declared.change.Change.TheVariants.{Issue, Join, Withdraw}
use Rattle.rules.specs.declared.kind.Kind.TheVariants.{Series, Parallel}
use Rattle.text.specs.Texts.{Line}
use Rattle.text.specs.Readings.{change_of, closing_of}

-- a letter and a number, or a letter and two numbers, with one space between
abbrev pub with_one : ℕ → ℕ → List ℕ
with_one letter a = letter ∷ 32 ∷ decimal a

abbrev pub with_two : ℕ → ℕ → ℕ → List ℕ
with_two letter a b = letter ∷ 32 ∷ (decimal a ++ 32 ∷ decimal b)

-- `I t`, `S a b`, `P a b` and `W n`
abbrev pub written : Change → List ℕ
written (Issue t) = with_one 73 t
written (Join Series a b) = with_two 83 a.value b.value
written (Join Parallel a b) = with_two 80 a.value b.value
written (Withdraw n) = with_one 87 n.value

-- its numbers have at most five digits
abbrev pub Short : Change → Type 0
Short (Issue t) = t < 100000
Short (Join k a b) = (a.value < 100000) × (b.value < 100000)
Short (Withdraw n) = n.value < 100000

-- a line asks for a change if it is that change's text, and for none otherwise; so too a closing line `E c f`
pub record LinesWritten : Type 0 where
  pub asks : (line : Line) (d : Change) → change_of line ≡ Some d → (line.bytes ≡ written d) × Short d
  pub asked : (line : Line) (d : Change) → line.bytes ≡ written d → Short d → change_of line ≡ Some d
  pub closes : (line : Line) (c f : ℕ) → closing_of line ≡ Some (c, f) → (line.bytes ≡ with_two 69 c f) × (c < 100000) × (f < 100000)
  pub closed : (line : Line) (c f : ℕ) → line.bytes ≡ with_two 69 c f → c < 100000 → f < 100000 → closing_of line ≡ Some (c, f)
