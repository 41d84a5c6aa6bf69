use Rattle.std.proofs.Common.{◌≡◌, ℕ, ◌+◌, ◌*◌, get_or, sym, ap, ◌∙◌, subst, zero-mul, arith}
use Rattle.signature.specs.Polynomials.{Polynomial}
use Rattle.signature.specs.Steps.{Adds, moved, unpadded}
use Rattle.signature.proofs.Adds.{sum_terms, adds_none, adds_first, adds_more}
use Rattle.signature.proofs.Scatter.{cell_times}
use Rattle.signature.proofs.product.add_row_times.Goals as goal
use Rattle.signature.proofs.product.add_row_times.Goals.{then-v-ne0, else-v-ne0}

pub loop-i-init : goal.loop-i-init
loop-i-init c = adds_first c.args.out.now _ c.told-out

pub loop-i-preserved : goal.loop-i-preserved
loop-i-preserved c =
    let i = c.loop-i.i in
    let factor : Polynomial = unpadded c.args.factor.now.rows in
    let term : ℕ → Polynomial = cell_times (λ i j k. get_or c.args.row.now i 0) factor c.args.k c.args.j in
    elim c.if-v-ne0.branch [
      | then-v-ne0 w ↦
          subst (λ zs. Adds c.args.out.now (sum_terms (i + 1) term) zs) (sym w.out-is)
          (adds_more i term c.args.out.now c.loop-i.out w.add_moved.new.out c.loop-i.invariant w.add_moved.ensures)
      | else-v-ne0 w ↦
          subst (λ zs. Adds c.args.out.now (sum_terms (i + 1) term) zs) (sym w.out-is)
          (adds_more i term c.args.out.now c.loop-i.out c.loop-i.out c.loop-i.invariant
          (adds_none c.loop-i.out (term i) c.loop-i.invariant.long (λ a b d al bl dl.
          ap (λ n. n * moved factor i c.args.j c.args.k a b d) w.if-v-ne0.false ∙ zero-mul (moved factor i c.args.j c.args.k a b d))))
    ]

pub returns : goal.returns
returns c =
    let term : ℕ → Polynomial = cell_times (λ i j k. get_or c.args.row.now i 0) (unpadded c.args.factor.now.rows) c.args.k c.args.j in
    let end : c.loop-i.i ≡ 8 = omega arith in
    subst (λ n. Adds c.args.out.now (sum_terms n term) c.loop-i.out) end c.loop-i.invariant
