use Rattle.std.proofs.Common.{◌≡◌, rules, tests}
use Rattle.std.specs.List.{position}
use Rattle.std.proofs.lemmas.Iterator.{YieldsList-from_slice}
use Rattle.std.proofs.lemmas.Iterator.Search.{position_from_yields_List}
use Rattle.place_set.specs.Sets.{members}
use Rattle.line_plan.specs.Items.{listed}
use Rattle.line_plan.proofs.Places.{is_it, works_at}
use Rattle.line_plan.proofs.item_list.ItemList.works.Goals as goal

pub returns : goal.returns
returns c =
    let n = c.args.number.value in
    let is = listed c.args.self.now in
    let at : c.position.result ≡ position (is_it n) is =
    position_from_yields_List (is_it n) _ _ c.position.result c.position.ensures.ran (YieldsList-from_slice is cc) (λ x b q k. search (rules, tests)) in
    works_at n is (members c.args.state) c.position.result c.is_some_and.result _ at c.is_some_and.ensures (λ i g. search rules)
