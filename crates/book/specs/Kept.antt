-- What every book keeps.
use Rattle.std.specs.Prelude.{◌≡◌, ℕ, List}
use Rattle.rules.specs.declared.line.Line.{Line}
use Rattle.rules.specs.History.{History, given, lines_of}
use Rattle.rules.specs.Ruled.{Lawful}

-- the lawful history h has these standing lines and this last number
pub record Holds (h : History) (xs : List Line) (n : ℕ) : Type 0 where
  pub lawful : Lawful h
  pub lines : xs ≡ lines_of h
  pub last : n ≡ given h

-- some lawful history has
abbrev pub Kept : List Line → ℕ → Type 0
Kept xs n = ∥ ((h : History) × Holds h xs n) ∥₁
