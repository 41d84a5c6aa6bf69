-- What the steps of a product's computation do to the cells.
use Rattle.std.specs.Prelude.{◌≡◌, ℕ, zero, suc, ◌+◌, ◌-◌, ◌*◌, ◌%◌, ◌<◌, cond, ◌&&◌, List, length, ◌==◌, nat_le, slice_index}
use Rattle.cells.specs.Cells.{cell}
use Rattle.signature.specs.Polynomials.{Polynomial}

-- f 0 + f 1 + .. + f (n - 1)
unfoldable pub sum_below : ℕ → (ℕ → ℕ) → ℕ
sum_below zero f = 0
sum_below (suc n) f = sum_below n f + f n

-- the same modulo 65,536
abbrev pub Same : ℕ → ℕ → Type 0
Same x y = x % 65536 ≡ y % 65536

-- the cells are the coefficients of f, modulo 65,536
abbrev pub Holds : List ℕ → Polynomial → Type 0
Holds cells f = (a b c : ℕ) → a < 8 → b < 8 → c < 8 → Same (cell cells a b c) (f a b c)

-- the cells after are those before with f added, modulo 65,536
pub record Adds (before : List ℕ) (f : Polynomial) (after : List ℕ) : Type 0 where
  pub long : length after ≡ 512
  pub each : (a b c : ℕ) → a < 8 → b < 8 → c < 8 → Same (cell after a b c) (cell before a b c + f a b c)

-- the numbers g 0, g 1, .. in the row of the cells (0, b, c), (1, b, c), ..
abbrev pub in_row : ℕ → ℕ → (ℕ → ℕ) → Polynomial
in_row b c g a' b' c' = cond (b == b' && c == c') (g a') 0

-- f times the powers i, j and k of the three variables
abbrev pub moved : Polynomial → ℕ → ℕ → ℕ → Polynomial
moved f i j k a b c = cond (nat_le i a && (nat_le j b && nat_le k c)) (f (a - i) (b - j) (c - k)) 0

-- the polynomial whose rows stand in rows of 16, the first eight of each being padding
abbrev pub unpadded : List ℕ → Polynomial
unpadded rows a b c = slice_index rows (16 * (b + 8 * c) + 8 + a)
