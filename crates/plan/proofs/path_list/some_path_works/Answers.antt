use Rattle.std.proofs.Common.{get_or, sym, ap, ◌∙◌, arith, ap₂, ◌||◌, below_more}
use Rattle.std.proofs.lemmas.List.Folds.{list_any_more, list_any_at}
use Rattle.place_set.specs.Sets.{members}
use Rattle.plan.specs.Paths.{covers}
use Rattle.plan.specs.PathsLemmas.{no_place, covers_from, covers_fails}
use Rattle.plan.proofs.path_list.some_path_works.Goals as goal

-- a place of the path fails, so the path is passed over
pub paths-preserved : goal.paths-preserved
paths-preserved c =
    let path = get_or c.args.paths.now c.paths.path-index no_place in
    let state = members c.args.state in
    let at = c.loop-place.place in
    list_any_more (covers state) c.args.paths.now c.paths.path-index no_place c.paths-test.true
    ∙ ap₂ ◌||◌ c.paths.invariant (covers_fails path state at c.loop-place-test.true (sym (ap (λ s. s at) c.difference-failed.ensures) ∙ sym c.if-contains.ensures))

pub loop-place-preserved : goal.loop-place-preserved
loop-place-preserved c = below_more _ _ c.loop-place.invariant (sym c.if-contains.ensures)

pub returns-in-paths : goal.returns-in-paths
returns-in-paths c =
    let path = get_or c.args.paths.now c.paths.path-index no_place in
    let state = members c.args.state in
    let none = covers_from path state (λ k lt. sym (ap (λ s. s k) c.difference-failed.ensures) ∙ c.loop-place.invariant k (omega arith)) in
    sym (list_any_at (covers state) c.args.paths.now c.paths.path-index no_place c.paths-test.true none)
