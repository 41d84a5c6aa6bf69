use Rattle.std.proofs.Common.{rules, ◌+◌, length, Some, eqb, sym, ap, ◌∙◌, arith}
use Rattle.std.proofs.lemmas.Iterator.{YieldsList-from_slice}
use Rattle.std.proofs.lemmas.Iterator.Search.{position_from_yields_List}
use Rattle.std.proofs.lemmas.Slice.{between_to_end}
use borrow.Author.Tests.{tests}
use Rattle.text.proofs.Finding.{cut_at, uncut}
use Rattle.text.proofs.bytes.cut.Goals as goal

pub returns-in-Some : goal.returns-in-Some
returns-in-Some c =
    let t = c.args.text.now in
    let i = c.in-Some.i in
    let at = position_from_yields_List (λ x. eqb x c.args.byte) _ _ _ c.position.ensures.ran (YieldsList-from_slice t cc) (λ x b q k. search (rules, tests)) in
    let k = cut_at c.args.byte i t (sym at ∙ c.in-Some.is) in
    record { front = k.0; rest = ap Some (between_to_end t (i + 1) (length t) (omega arith)) ∙ k.1 }

pub returns-in-None : goal.returns-in-None
returns-in-None c =
    let t = c.args.text.now in
    let at = position_from_yields_List (λ x. eqb x c.args.byte) _ _ _ c.position.ensures.ran (YieldsList-from_slice t cc) (λ x b q k. search (rules, tests)) in
    let k = uncut c.args.byte t (sym at ∙ c.in-None.is) in
    record { front = k.0; rest = k.1 }
