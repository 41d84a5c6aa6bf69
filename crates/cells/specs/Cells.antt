-- The cells of a table.
use Rattle.std.specs.Prelude.{ℕ, ◌+◌, ◌*◌, cond, ◌&&◌, List, Some, None, Option, nat_lt, slice_index}

-- the cell (a, b, c)
abbrev pub cell : List ℕ → ℕ → ℕ → ℕ → ℕ
cell cells a b c = slice_index cells (a + 8 * b + 64 * c)

-- the cell (a, b, c), if there is one
abbrev pub answered_cell : List ℕ → ℕ → ℕ → ℕ → Option ℕ
answered_cell cells a b c = cond (nat_lt a 8 && (nat_lt b 8 && nat_lt c 8)) (Some (cell cells a b c)) None
