use Rattle.std.proofs.Common.{rules, suc, length, sym, ap, ◌∙◌, arith}
use Rattle.std.specs.Option.{option_map}
use Rattle.text.specs.Texts.{numbered}
use Rattle.text.proofs.Cutting.{next_line, line_length, no_line}
use Rattle.text.proofs.lines.LinesIterator.next.Goals as goal

pub returns-in_err-self-clause-steps : goal.returns-in_err-self-clause-steps
returns-in_err-self-clause-steps c =
    let self = c.args.self.now in
    let none = sym c.cut.ensures.rest ∙ ap (option_map (λ x. x.now)) c.in_err-self.was in
    let e = ap (numbered (suc self.taken) self.place) (no_line self.text.now none) in
    search (rules, e)

pub overflow_add-self-3 : goal.overflow_add-self-3
overflow_add-self-3 c =
    let found = sym c.cut.ensures.rest ∙ ap (option_map (λ x. x.now)) c.in_ok-self.was in
    let long = line_length c.args.self.now.text.now c.in_ok-self.field-0.now c.cut.result.0.now found c.cut.ensures.front in
    omega arith

pub invariant_of-self : goal.invariant_of-self
invariant_of-self c =
    let found = sym c.cut.ensures.rest ∙ ap (option_map (λ x. x.now)) c.in_ok-self.was in
    let long = line_length c.args.self.now.text.now c.in_ok-self.field-0.now c.cut.result.0.now found c.cut.ensures.front in
    record { counted = omega arith; fit = omega arith }

pub returns : goal.returns
returns c =
    let self = c.args.self.now in
    let found = sym c.cut.ensures.rest ∙ ap (option_map (λ x. x.now)) c.in_ok-self.was in
    let all = next_line self.taken self.place self.text.now c.in_ok-self.field-0.now c.cut.result.0.now found c.cut.ensures.front in
    let fewer = ap length all in
    record { steps = all; goes = search (rules, fewer) }
