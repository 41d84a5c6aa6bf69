use Rattle.std.proofs.Common.{ap, ◌∙◌, length, arith}
use Rattle.place_set.specs.Subsets.{subsets_from}
use Rattle.place_set.proofs.Steps.{subsets_step}
use Rattle.place_set.proofs.SubsetsIterator.next.Goals as goal

pub returns-clause-steps : goal.returns-clause-steps
returns-clause-steps c =
    let set = c.args.self.now.whole in
    let subset = c.in_ok-subset.subset in
    let within = c.args.self.now.within subset c.in_ok-subset.was in
    ap (subsets_from set) c.in_ok-subset.was ∙ subsets_step set subset c.next_subset-self.result (omega arith) within (c.next_subset-self.ensures within)

pub returns-clause-goes : goal.returns-clause-goes
returns-clause-goes c = record { on = λ _. (tt, tt, omega (arith, ap length (returns-clause-steps c))); keeps = tt; rests = λ _. tt }
