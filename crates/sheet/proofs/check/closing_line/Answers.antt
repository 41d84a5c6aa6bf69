use Rattle.std.proofs.Common.{rules, ◌≡◌, true, Some, None, sym, ap, ◌∙◌}
use Rattle.std.specs.Option.{option_map}
use Rattle.text.specs.Texts.{ended, lines_of}
use Rattle.text.specs.Cursors.{line_seen, lines_left}
use Rattle.sheet.specs.Checks.{closed_at}
use Rattle.sheet.proofs.Closings.{last_left, closed_by, closed_with}
use Rattle.sheet.proofs.check.closing_line.Goals as goal

pub returns-in_err-line : goal.returns-in_err-line
returns-in_err-line c =
    let t = c.args.text.now in
    let ends : ended t ≡ true = search rules in
    let last = last_left line_seen lines_left _ c.last.result (lines_of t) c.new.ensures c.last.ensures.ran in
    c.from_residual.ensures ∙ ap (λ l. closed_at (option_map line_seen l)) (sym c.in_err-line.was) ∙ closed_by t (option_map line_seen c.last.result) ends last

pub returns-in_err-count : goal.returns-in_err-count
returns-in_err-count c =
    let t = c.args.text.now in
    let line = line_seen c.in_ok-line.line in
    let ends : ended t ≡ true = search rules in
    let last = last_left line_seen lines_left _ c.last.result (lines_of t) c.new.ensures c.last.ensures.ran in
    c.from_residual-in_err-count.ensures
    ∙ closed_with t line None ends (sym (ap (option_map line_seen) c.in_ok-line.was) ∙ last) (sym c.in_err-count.was ∙ c.closing.ensures)

pub returns : goal.returns
returns c =
    let t = c.args.text.now in
    let line = line_seen c.in_ok-line.line in
    let ends : ended t ≡ true = search rules in
    let last = last_left line_seen lines_left _ c.last.result (lines_of t) c.new.ensures c.last.ensures.ran in
    closed_with t line (Some (c.in_ok-count.count, c.in_ok-count.next)) ends (sym (ap (option_map line_seen) c.in_ok-line.was) ∙ last) (sym c.in_ok-count.was ∙ c.closing.ensures)
