use Rattle.std.proofs.Common.{ℕ, ◌*◌, ◌%◌, ◌^◌, ◌<◌, eqb, is_some, get_or, ap, ◌∙◌, sym, ⊎_elim, arith}
use Rattle.std.proofs.lemmas.Nat.{one_shl}
use Rattle.std.proofs.lemmas.Bool.{cases_eq, eq-eqb, ne_eqb}
use Rattle.rules.specs.declared.refusal.Refusal.{Refusal}
use Rattle.rules.specs.Tables.{no_line, At}
use Rattle.rules.specs.History.{History, standing, place_in, lines_of}
use Rattle.rules.specs.Rules.{Refused}
use Rattle.rules.specs.Ruled.{naming, Lawful}
use Rattle.place_set.specs.Sets.{bit}
use Rattle.place_set.proofs.Masks.{bit_none, bit_pow}
use Rattle.book.proofs.Steps.{few_held}
use Rattle.reckoning.proofs.Places.{line_at, placed, not_refused, found}
use Rattle.line_plan.specs.Beneath.{Marks}
use Rattle.line_plan.proofs.beneath.mark.Goals as goal

pub overflow_cast-result : goal.overflow_cast-result
overflow_cast-result c = omega (arith, few_held c.args.book.now, c.in-Ok.ensures.0.0)

pub overflow_shl-result : goal.overflow_shl-result
overflow_shl-result c = omega (arith, few_held c.args.book.now, c.in-Ok.ensures.0.0)

module _ (h : History) (l : Lawful h) (m : ℕ) where
  -- the mask with the bit of the place p, where the line m stands at p
  marks_there : (p : ℕ) → p < 32 → At (lines_of h) m p → Marks h ((1 * 2 ^ p) % 4294967296) (λ n. eqb n m)
  marks_there p low there i n at =
      ap (λ v. bit v i) (one_shl p 32 low) ∙ bit_pow p i
      ∙ ⊎_elim
      (λ same. eq-eqb p i same ∙ sym (eq-eqb n m (sym at.1 ∙ ap (λ j. (get_or (lines_of h) j no_line).number.value) (sym same) ∙ there.1)))
      (λ ne. ne_eqb p i ne ∙ sym (ne_eqb n m (λ e. ne (placed h l m p there ∙ ap (place_in h) (sym e) ∙ sym (placed h l n i at)))))
      (cases_eq p i)

  -- none, where the line m may not be named
  marks_none : (e : Refusal) → Refused (naming h m) e → Marks h 0 (λ n. eqb n m)
  marks_none e refused i n at =
      bit_none i
      ∙ sym (ne_eqb n m (λ same. not_refused h l m e (ap (λ j. is_some (standing h j)) (sym (at.1 ∙ same)) ∙ ap is_some (line_at h i at.0)) refused))

pub returns-in-Ok : goal.returns-in-Ok
returns-in-Ok c h k =
    let m = c.args.number.value in
    marks_there h k.lawful m c.in-Ok.place (omega (arith, few_held c.args.book.now, c.in-Ok.ensures.0.0)) (found c.args.book.now m c.in-Ok.place c.in-Ok.ensures h k)

pub returns-in-Err : goal.returns-in-Err
returns-in-Err c h k = marks_none h k.lawful c.args.number.value _ (c.in-Err.ensures h k)
