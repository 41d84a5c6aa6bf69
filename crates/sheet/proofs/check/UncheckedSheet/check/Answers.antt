use Rattle.std.proofs.Common.{Err, sym, ap, ◌∙◌, arith, length-take-le}
use Rattle.std.specs.Result.{result_ok}
use Rattle.sheet.proofs.Closings.{closed_within, check_ok, check_miscounted}
use Rattle.sheet.proofs.check.UncheckedSheet.check.Goals as goal

pub slice_bounds-result-end : goal.slice_bounds-result-end
slice_bounds-result-end c =
    let t = c.args.self.text.now in
    let k = c.in_ok-number.field-0 in
    let found = sym (c.ok_or.ensures.ok_part ∙ ap result_ok c.in_ok-number.was) ∙ c.closing_line.ensures in
    sym (length-take-le k.place t (closed_within t k found))

pub returns-then-count-number : goal.returns-then-count-number
returns-then-count-number c =
    let found = sym (c.ok_or.ensures.ok_part ∙ ap result_ok c.in_ok-number.was) ∙ c.closing_line.ensures in
    check_ok c.args.self.text.now c.in_ok-number.field-0 (omega arith) found c.if-count-number.true

pub returns-else-count-number : goal.returns-else-count-number
returns-else-count-number c =
    let found = sym (c.ok_or.ensures.ok_part ∙ ap result_ok c.in_ok-number.was) ∙ c.closing_line.ensures in
    ap Err c.new-else-count-number.ensures ∙ check_miscounted c.args.self.text.now c.in_ok-number.field-0 (omega arith) found c.if-count-number.false
