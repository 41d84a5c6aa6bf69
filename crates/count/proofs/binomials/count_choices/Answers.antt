use Rattle.std.proofs.Common.{◌≡◌, ◌+◌, ◌*◌, ◌/◌, ◌%◌, ◌≤◌, get_or, ap, ◌∙◌, ap₂, arith, rules}
use Rattle.rules.specs.declared.item_type.ItemType.TheVariants.{One, Two, Three}
use Rattle.count.proofs.Choosing.{choose_small, two_small, three_small}
use Rattle.cells.proofs.Filling.{fill_serves, filled}
use Rattle.count.proofs.binomials.count_choices.Goals as goal

pub binomials-ones-requires : goal.binomials-ones-requires
binomials-ones-requires c = c.requires One

pub binomials-twos-requires : goal.binomials-twos-requires
binomials-twos-requires c = c.requires Two

pub binomials-threes-requires : goal.binomials-threes-requires
binomials-threes-requires c = c.requires Three

pub from_fn-requires : goal.from_fn-requires
from_fn-requires c = (
  omega arith,
  fill_serves 512 (λ k q r. search rules) (λ k lt.
      let one : get_or c.binomials-ones.result (k % 8) 0 ≤ 35 = omega (arith, c.binomials-ones.ensures (k % 8) (omega arith), choose_small c.args.numbers.one (k % 8) (c.requires One)) in
      let two : get_or c.binomials-twos.result (k / 8 % 8) 0 ≤ 35 = omega (arith, c.binomials-twos.ensures (k / 8 % 8) (omega arith), choose_small c.args.numbers.two (k / 8 % 8) (c.requires Two)) in
      let three : get_or c.binomials-threes.result (k / 64) 0 ≤ 35 = omega (arith, c.binomials-threes.ensures (k / 64) (omega arith), choose_small c.args.numbers.three (k / 64) (c.requires Three)) in
      search (rules, two_small _ _ one two, three_small _ _ _ one two three) parts 8),
)

pub returns : goal.returns
returns c a b d la lb ld =
    let ones = c.binomials-ones.result in
    let twos = c.binomials-twos.result in
    let threes = c.binomials-threes.result in
    let j = a + 8 * b + 64 * d in
    let told = filled (λ k. get_or ones (k % 8) 0 * get_or twos (k / 8 % 8) 0 * get_or threes (k / 64) 0) c.from_fn.ensures.items (λ k y q r. search rules) j (omega arith) in
    let one : j % 8 ≡ a = omega arith in
    let half : j / 8 ≡ b + 8 * d = omega arith in
    let rest : (b + 8 * d) % 8 ≡ b = omega arith in
    let two : j / 8 % 8 ≡ b = ap (λ n. n % 8) half ∙ rest in
    let three : j / 64 ≡ d = omega arith in
    told
    ∙ ap₂ ◌*◌ (ap₂ ◌*◌ (ap (λ i. get_or ones i 0) one ∙ c.binomials-ones.ensures a la) (ap (λ i. get_or twos i 0) two ∙ c.binomials-twos.ensures b lb))
    (ap (λ i. get_or threes i 0) three ∙ c.binomials-threes.ensures d ld)
