use Rattle.std.proofs.Common.{◌≡◌, ℕ, ◌+◌, ◌-◌, ◌*◌, ◌/◌, ◌%◌, ◌<◌, ◌≤◌, List, [], get_or, sym, ap, ◌∙◌, inl, inr, arith}
use Rattle.std.proofs.lemmas.Bool.{cases_lt}
use Rattle.signature.proofs.Rows.{in_chunk}
use Rattle.signature.proofs.padded.degrees.Goals as goal
use Rattle.signature.proofs.padded.degrees.Goals.{then-any_nonzero, else-any_nonzero}

-- one row more, of zeros
zero_row : (y : List ℕ) (row : ℕ) (Past : ℕ → Type 0) → ((p : ℕ) → p < 8 * row → Past p → get_or y p 0 ≡ 0)
    → ((m : ℕ) → m < 8 → get_or y (8 * row + m) 0 ≡ 0) → (p : ℕ) → p < 8 * (row + 1) → Past p → get_or y p 0 ≡ 0
zero_row y row Past before here p h past = elim (cases_lt p (8 * row)) [
  | inl lt ↦ before p lt past
  | inr ge ↦
      let place : p ≡ 8 * row + (p - 8 * row) = omega arith in
      ap (λ n. get_or y n 0) place ∙ here (p - 8 * row) (omega arith)
]

pub loop-row-preserved : goal.loop-row-preserved
loop-row-preserved c =
    let row = c.loop-row.row in
    let inv = c.loop-row.invariant in
    elim c.if-any_nonzero.branch [
      | then-any_nonzero w ↦
          let b = w.b_end-is ∙ w.max-b_end.ensures in
          let c = w.c_end-is ∙ w.max-c_end.ensures in
          (λ p h past. inv.0 p (omega arith) (omega arith), λ p h past. inv.1 p (omega arith) (omega arith))
      | else-any_nonzero w ↦
          let zeros : (m : ℕ) → m < 8 → get_or c.args.y.now (8 * row + m) 0 ≡ 0 = λ m ml.
          sym (in_chunk 8 _ c.args.y.now row m (omega arith) ml) ∙ ap (λ rows. get_or (get_or rows row []) m 0) (sym c.as_chunks.ensures.front)
          ∙ (c.any_nonzero.ensures.0 w.if-any_nonzero.false) m 0 (omega arith) in (
            zero_row c.args.y.now row (λ p. c.if-any_nonzero.b_end ≤ p / 8 % 8) (λ p h past. inv.0 p h (omega arith)) zeros,
            zero_row c.args.y.now row (λ p. c.if-any_nonzero.c_end ≤ p / 64) (λ p h past. inv.1 p h (omega arith)) zeros,
          )
    ]
