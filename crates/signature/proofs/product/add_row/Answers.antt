use Rattle.std.proofs.Common.{◌≡◌, ℕ, ◌+◌, ◌*◌, ◌%◌, ◌<◌, List, length, get_or, set, ◌∙◌, subst, arith}
use native.Mathlib.Nat.{mod-mod, add-mod-mod}
use Rattle.std.proofs.lemmas.Bool.Decides.{nat_tests}
use Rattle.signature.specs.Steps.{Adds, in_row}
use Rattle.signature.proofs.Sums.{only_at}
use Rattle.signature.proofs.Adds.{at_cell, sum_terms, adds_as, adds_set, adds_first, adds_more}
use Rattle.signature.proofs.product.add_row.Goals as goal

-- one write
written : (xs : List ℕ) (a b c t : ℕ) → length xs ≡ 512 → a < 8 → b < 8 → c < 8
    → Adds xs (at_cell a b c t) (set xs (8 * b + 64 * c + a) ((get_or xs (8 * b + 64 * c + a) 0 + t % 65536) % 65536))
written xs a b c t long al bl cl =
    let place : a + 8 * b + 64 * c ≡ 8 * b + 64 * c + a = omega arith in
    subst (λ p. Adds xs (at_cell a b c t) (set xs p ((get_or xs p 0 + t % 65536) % 65536))) place
    (adds_set xs a b c t _ long al bl cl (mod-mod _ 65536 ∙ add-mod-mod _ t 65536))

-- eight of them make a row
row_whole : (b c : ℕ) (t : ℕ → ℕ) (a' b' c' : ℕ) → a' < 8 → sum_terms 8 (λ a. at_cell a b c (t a)) a' b' c' ≡ in_row b c t a' b' c'
row_whole b c t a' b' c' al = only_at 8 a' (λ a. at_cell a b c (t a) a' b' c') al (λ a lt ne. grind (arith, nat_tests)) ∙ grind (arith, nat_tests)

pub loop-a-init : goal.loop-a-init
loop-a-init c = adds_first c.args.out.now _ c.told-out

pub loop-a-preserved : goal.loop-a-preserved
loop-a-preserved c =
    let t : ℕ → ℕ = λ a. c.args.v * get_or c.args.row.now a 0 in
    adds_more c.loop-a.a (λ a. at_cell a c.args.b c.args.c (t a)) c.args.out.now c.loop-a.out _ c.loop-a.invariant
    (written c.loop-a.out c.loop-a.a c.args.b c.args.c (t c.loop-a.a) c.loop-a.invariant.long (omega arith) (omega arith) (omega arith))

pub returns : goal.returns
returns c =
    let t : ℕ → ℕ = λ a. c.args.v * get_or c.args.row.now a 0 in
    let end : c.loop-a.a ≡ 8 = omega arith in
    adds_as c.args.out.now c.loop-a.out (sum_terms 8 (λ a. at_cell a c.args.b c.args.c (t a))) _
    (subst (λ n. Adds c.args.out.now (sum_terms n (λ a. at_cell a c.args.b c.args.c (t a))) c.loop-a.out) end c.loop-a.invariant)
    (λ a b d al bl dl. row_whole c.args.b c.args.c t a b d al)
