use Rattle.std.proofs.Common.{◌≡◌, ℕ, ◌-◌, ◌*◌, min, ◌∙◌, subst, arith}
use Rattle.signature.specs.Polynomials.{Polynomial}
use Rattle.signature.specs.Steps.{Adds, moved, unpadded}
use Rattle.signature.proofs.Adds.{sum_terms, adds_as, adds_first, adds_more}
use Rattle.signature.proofs.Moves.{row_moved, moved_row, moved_sum}
use Rattle.signature.proofs.product.add_moved.Goals as goal

pub loop-c-init : goal.loop-c-init
loop-c-init c = adds_first c.args.out.now _ c.told-out

pub loop-b-init : goal.loop-b-init
loop-b-init c = adds_first c.loop-c.out _ c.loop-c.invariant.long

pub loop-b-preserved : goal.loop-b-preserved
loop-b-preserved c =
    let rows = c.args.factor.now.rows in
    adds_more c.loop-b.b (moved_row rows c.args.v c.args.i c.args.j c.args.k c.loop-c.c) c.loop-c.out c.loop-b.out c.add_row.new.out c.loop-b.invariant
    (adds_as c.loop-b.out c.add_row.new.out _ _ c.add_row.ensures
    (row_moved rows c.row.result.now c.args.v c.args.i c.args.j c.args.k c.loop-c.c c.loop-b.b c.row.ensures.cells))

pub loop-c-preserved : goal.loop-c-preserved
loop-c-preserved c =
    let row : ℕ → ℕ → Polynomial = moved_row c.args.factor.now.rows c.args.v c.args.i c.args.j c.args.k in
    let end : c.loop-b.b ≡ c.min-b_count.result = omega arith in
    adds_more c.loop-c.c (λ n. sum_terms c.min-b_count.result (row n)) c.args.out.now c.loop-c.out c.loop-b.out c.loop-c.invariant
    (subst (λ n. Adds c.loop-c.out (sum_terms n (row c.loop-c.c)) c.loop-b.out) end c.loop-b.invariant)

pub returns : goal.returns
returns c =
    let factor = c.args.factor.now in
    let row : ℕ → ℕ → Polynomial = moved_row factor.rows c.args.v c.args.i c.args.j c.args.k in
    let c_end : c.loop-c.c ≡ c.min-c_count.result = omega arith in
    adds_as c.args.out.now c.loop-c.out
    (sum_terms (min factor.c_end (8 - c.args.k)) (λ n. sum_terms (min factor.b_end (8 - c.args.j)) (row n)))
    (λ a b d. c.args.v * moved (unpadded factor.rows) c.args.i c.args.j c.args.k a b d)
    (subst (λ m. Adds c.args.out.now (sum_terms (min factor.c_end (8 - c.args.k)) (λ n. sum_terms m (row n))) c.loop-c.out) c.min-b_count.ensures
    (subst (λ m. Adds c.args.out.now (sum_terms m (λ n. sum_terms c.min-b_count.result (row n))) c.loop-c.out) (c_end ∙ c.min-c_count.ensures)
    c.loop-c.invariant))
    (moved_sum factor.rows factor.b_end factor.c_end factor.padding factor.past_b factor.past_c
    c.args.v c.args.i c.args.j c.args.k (omega arith) (omega arith) (omega arith))
