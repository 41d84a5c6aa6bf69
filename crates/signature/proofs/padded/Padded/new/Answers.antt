use Rattle.std.proofs.Common.{◌≡◌, ℕ, ◌+◌, ◌-◌, ◌*◌, ◌/◌, ◌%◌, ◌<◌, List, get_or, ap, ◌∙◌, inl, inr, arith, rules}
use Rattle.std.proofs.lemmas.Bool.{cases_lt}
use Rattle.signature.proofs.padded.Padded.new.Goals as goal

-- what is 0 in the cells is 0 in the padded rows
zero_past : (y rows : List ℕ) → ((q : ℕ) → q % 16 < 8 → get_or rows q 0 ≡ 0)
    → ((p : ℕ) → p < 512 → get_or rows (16 * (p / 8) + 8 + p % 8) 0 ≡ get_or y p 0)
    → (q : ℕ) → q < 1024 → get_or y (8 * (q / 16) + (q % 16 - 8)) 0 ≡ 0 → get_or rows q 0 ≡ 0
zero_past y rows padding same q h zero = elim (cases_lt (q % 16) 8) [
  | inl lt ↦ padding q lt
  | inr ge ↦
      let p : ℕ = 8 * (q / 16) + (q % 16 - 8) in
      let place : q ≡ 16 * (p / 8) + 8 + p % 8 = omega arith in
      ap (λ n. get_or rows n 0) place ∙ same p (omega arith) ∙ zero
]

pub invariant_of-result : goal.invariant_of-result
invariant_of-result c =
    let y = c.args.y.now in
    let rows = c.padded_rows-rows.result in
    let padding = c.padded_rows-rows.ensures.padding in
    let zero = zero_past y rows padding c.padded_rows-rows.ensures.same in
    record {
      long = search rules;
      padding = padding;
      past_b = λ q h past. zero q h (c.degrees-b_end.ensures.past_b (8 * (q / 16) + (q % 16 - 8)) (omega arith) (omega arith));
      past_c = λ q h past. zero q h (c.degrees-b_end.ensures.past_c (8 * (q / 16) + (q % 16 - 8)) (omega arith) (omega arith));
    }

pub returns : goal.returns
returns c = λ a b e al bl el.
    let p : ℕ = a + 8 * b + 64 * e in
    let place : 16 * (b + 8 * e) + 8 + a ≡ 16 * (p / 8) + 8 + p % 8 = omega arith in
    ap (λ n. get_or c.padded_rows-rows.result n 0) place ∙ c.padded_rows-rows.ensures.same p (omega arith)
