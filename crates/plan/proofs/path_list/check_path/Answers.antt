use Rattle.std.proofs.Common.{sym, ◌∙◌, ⊎_elim, arith}
use Rattle.std.proofs.lemmas.Bool.{true≢false, cases_lt}
use Rattle.place_set.proofs.Masks.{bit_above}
use Rattle.plan.proofs.path_list.check_path.Goals as goal

pub returns : goal.returns
returns c =
    let path = c.args.path in
    let some = c.is_empty.ensures.some c.if-is_empty.false in (
      (
        λ none. true≢false (sym some.1 ∙ none some.0),
        (
          λ fault.
              ⊎_elim
              (λ low. c.loop-place.invariant fault.0 (omega arith) fault.1 fault.2)
              (λ high. true≢false (sym fault.1 ∙ bit_above 16 path.mask fault.0 (omega arith) high))
              (cases_lt fault.0 16),
          tt,
        ),
      ),
      tt,
    )
