use Rattle.std.proofs.Common.{◌≡◌, ℕ, ◌*◌, ◌/◌, ◌%◌, ◌<◌, ◌≤◌, get_or}
use Rattle.signature.proofs.padded.degrees.Given as goal

-- in the rows so far, what lies past the ends is 0
abbrev pub invariant-loop-row : goal.invariant-loop-row
invariant-loop-row l =
    ((p : ℕ) → p < 8 * l.row → l.b_end ≤ p / 8 % 8 → get_or l.y p 0 ≡ 0)
    × ((p : ℕ) → p < 8 * l.row → l.c_end ≤ p / 64 → get_or l.y p 0 ≡ 0)
