use Rattle.std.proofs.Common.{◌≡◌, ℕ, ◌+◌, ◌*◌, ◌/◌, ◌%◌, ◌<◌, List, length, get_or}
use Rattle.signature.proofs.padded.padded_rows.Given as goal

-- the first n cells of y stand in their padded rows, and all padding is 0
abbrev pub PaddedTo : ℕ → List ℕ → List ℕ → Type 0
PaddedTo n y rows =
    (length rows ≡ 1024)
    × ((q : ℕ) → q % 16 < 8 → get_or rows q 0 ≡ 0)
    × ((p : ℕ) → p < n → get_or rows (16 * (p / 8) + 8 + p % 8) 0 ≡ get_or y p 0)

abbrev pub invariant-loop-row : goal.invariant-loop-row
invariant-loop-row l = PaddedTo (8 * l.row) l.y l.rows

abbrev pub invariant-loop-i : goal.invariant-loop-i
invariant-loop-i l = PaddedTo (8 * l.row + l.i) l.y l.rows
