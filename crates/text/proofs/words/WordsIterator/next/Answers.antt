use Rattle.std.proofs.Common.{rules, ◌+◌, length, ◌∷◌, sym, ap, ◌∙◌, arith}
use Rattle.std.specs.Option.{option_map}
use Rattle.text.specs.Cursors.{tokens_at}
use Rattle.text.proofs.Cutting.{next_token}
use Rattle.text.proofs.Finding.{before_length, after_length}
use Rattle.text.proofs.words.WordsIterator.next.Goals as goal

pub overflow_add-self-2 : goal.overflow_add-self-2
overflow_add-self-2 c =
    let line = c.in_ok-self.field-0 in
    let fits = c.args.self.now.fit line c.in_ok-self.was in
    let long = before_length 32 line.now in
    let same = ap length c.cut.ensures.front in
    omega arith

pub invariant_of-self : goal.invariant_of-self
invariant_of-self c = record {
  fit = λ others is.
      let line = c.in_ok-self.field-0 in
      let fits = c.args.self.now.fit line c.in_ok-self.was in
      let long = after_length 32 line.now others.now (sym c.cut.ensures.rest ∙ ap (option_map (λ x. x.now)) is) in
      let same = ap length c.cut.ensures.front in
      omega arith;
}

pub returns : goal.returns
returns c =
    let p = c.args.self.now.place in
    let left = option_map (λ x. x.now) c.args.self.now.rest in
    let line = c.in_ok-self.field-0.now in
    let word = c.cut.result.0.now in
    let others = option_map (λ x. x.now) c.cut.result.1 in
    let is = ap (option_map (λ x. x.now)) c.in_ok-self.was in
    let all = next_token p left others line word is c.cut.ensures.front c.cut.ensures.rest in
    let fewer = ap length all in
    record {
      steps = all ∙ ap (λ t. t ∷ tokens_at (p + (length word + 1)) others) (sym c.new-token.ensures);
      goes = search (rules, fewer);
    }
