use Rattle.std.proofs.Common.{rules, ◌≡◌, List, Err, sym, subst}
use Rattle.text.specs.Texts.{Line}
use Rattle.text.specs.Cursors.{lines_left}
use Rattle.sheet.specs.Applying.{InTurn}
use Rattle.sheet.proofs.check.take_lines.Goals as goal

pub returns-in_err-take_line : goal.returns-in_err-take_line
returns-in_err-take_line c h k =
    let i = c.loop-line.invariant.so_far h k in
    let fault = c.in_err-take_line.field-0.0 in
    let failed : c.from_residual.result ≡ Err fault = search rules in
    let here = c.in_err-take_line.ensures i.0 i.1 (lines_left c.next.new.self) in
    rw failed (i.3 (Err fault) (subst (λ (ls : List Line). InTurn i.0 ls (Err fault)) (sym c.in-Some.ensures.steps) here), tt)
