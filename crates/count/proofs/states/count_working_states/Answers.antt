use Rattle.std.proofs.Common.{◌≡◌, ◌^◌, ◌<◌, sym, refl, ap, ◌∙◌, arith, length-set, rules}
use Rattle.rules.specs.declared.item_type.ItemType.TheVariants.{One, Two, Three}
use Rattle.place_set.specs.Sets.{members}
use Rattle.count.specs.Counts.{working_in}
use Rattle.place_set.specs.Subsets.{subsets_left}
use Rattle.count.proofs.Subsets.{sum_over}
use Rattle.count.proofs.Counting.{few_from, counted, all_counted, cell_is, index, index_below, working_few, counts_one, cell_room, start}
use Rattle.count.proofs.states.count_working_states.Given as given
use Rattle.count.proofs.states.count_working_states.Goals as goal

pub loop-state-init : goal.loop-state-init
loop-state-init g c =
    let p = g.P.Plan.meaning c.args.plan.now in
    let whole = c.all_places.result in
    let small : whole.mask < 2 ^ 16 = search rules in
    let all = ap subsets_left c.into_iter-state-iterator.ensures.into_iter_gives ∙ c.subsets-state-items.ensures in (
      refl,
      λ a b d la lb ld. start a b d _ la lb ld ∙ ap (sum_over (counted p a b d)) all ∙ all_counted p c.args.places c.requires.sorted whole small c.all_places.ensures a b d,
    )

here : (g : given.Over) (c : goal.After-cell_index g) → c.cell_index.result ≡ index (g.P.Plan.meaning c.args.plan.now) (members c.in-Some.state)
here g c = cell_is (g.P.Plan.meaning c.args.plan.now) c.args.places c.requires.sorted (members c.in-Some.state) c.cell_index.result c.cell_index.ensures

below : (g : given.Over) (c : goal.After-cell_index g) → c.cell_index.result < 512
below g c =
    let p = g.P.Plan.meaning c.args.plan.now in
    omega (arith, here g c, index_below p (few_from p c.requires.few) (members c.in-Some.state))

pub offset_bounds-cells-cell_index : goal.offset_bounds-cells-cell_index
offset_bounds-cells-cell_index g c = omega (arith, below g c)

pub bounds-cells-cell_index : goal.bounds-cells-cell_index
bounds-cells-cell_index g c = below g c

pub overflow_add-cells : goal.overflow_add-cells
overflow_add-cells g c =
    let p = g.P.Plan.meaning c.args.plan.now in
    let few = few_from p c.requires.few in
    let s = members c.in-Some.state in
    let one = working_few p few One s in
    let two = working_few p few Two s in
    let three = working_few p few Three s in
    omega (arith, cell_room p few c.loop-state.cells s c.cell_index.result _ (here g c) (c.loop-state.invariant.1 (working_in p One s) (working_in p Two s) (working_in p Three s) (omega arith) (omega arith) (omega arith)))

pub bounds-cells-cell_index-then-works : goal.bounds-cells-cell_index-then-works
bounds-cells-cell_index-then-works g c = below g c

pub loop-state-preserved-then-works : goal.loop-state-preserved-then-works
loop-state-preserved-then-works g c =
    let p = g.P.Plan.meaning c.args.plan.now in
    let s = members c.in-Some.state in (
      length-set c.loop-state.cells c.cell_index.result _ ∙ c.loop-state.invariant.0,
      λ a b d la lb ld.
          let is = cell_is p c.args.places c.requires.sorted s c.cell_index.result c.cell_index.ensures in
          let one = counts_one p (few_from p c.requires.few) c.loop-state.cells s c.loop-state.invariant.0 (sym c.works.ensures ∙ c.if-works.true) c.cell_index.result is a b d la lb ld in
          omega (arith, one, ap (sum_over (counted p a b d)) c.in-Some.ensures.steps, c.loop-state.invariant.1 a b d la lb ld),
    )
