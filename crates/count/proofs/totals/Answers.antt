use Rattle.std.proofs.Common.{◌≡◌, ◌*◌, ◌≤◌, ap, ◌∙◌, ap₂, arith}
use Rattle.rules.specs.declared.item_type.ItemType.TheVariants.{One, Two, Three}
use Rattle.rules.specs.ByType.{of_type}
use Rattle.cells.specs.Cells.{cell}
use Rattle.count.specs.Counts.{places_of}
use Rattle.count.specs.Laws.{Holds, choose, choices}
use Rattle.count.proofs.Lists.{size_of_type, each_type}
use Rattle.count.proofs.Counting.{few_from}
use Rattle.count.proofs.Tables.{totalled}
use Rattle.count.proofs.totals.Goals as goal

pub count_choices-requires : goal.count_choices-requires
count_choices-requires g c =
    let p = g.P.Plan.meaning c.args.plan.now in
    let told = c.in_ok-places.ensures in
    let few = few_from p told.0 in
    each_type (λ t. of_type _ t ≤ 7)
    (omega (arith, few One, c.len.ensures, size_of_type p One _ (told.1 One)))
    (omega (arith, few Two, c.len-2.ensures, size_of_type p Two _ (told.1 Two)))
    (omega (arith, few Three, c.len-3.ensures, size_of_type p Three _ (told.1 Three)))

pub returns : goal.returns
returns g c =
    let p = g.P.Plan.meaning c.args.plan.now in
    let told = c.in_ok-places.ensures in
    let one : c.len.result ≡ places_of p One = c.len.ensures ∙ size_of_type p One _ (told.1 One) in
    let two : c.len-2.result ≡ places_of p Two = c.len-2.ensures ∙ size_of_type p Two _ (told.1 Two) in
    let three : c.len-3.result ≡ places_of p Three = c.len-3.ensures ∙ size_of_type p Three _ (told.1 Three) in
    let products : Holds c.new.result.cells (choices p) = λ a b d la lb ld.
    ap (λ cells. cell cells a b d) c.new.ensures ∙ c.count_choices.ensures a b d la lb ld
    ∙ ap₂ ◌*◌ (ap₂ ◌*◌ (ap (λ n. choose n a) one) (ap (λ n. choose n b) two)) (ap (λ n. choose n d) three) in
    record { answer = (told.0, totalled p (few_from p told.0) c.new.result.cells products); kept = tt }
