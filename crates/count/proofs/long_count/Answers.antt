use Rattle.std.proofs.Common.{ap, ◌∙◌}
use Rattle.cells.specs.Cells.{cell}
use Rattle.count.proofs.Tables.{long_counted}
use Rattle.count.proofs.long_count.Goals as goal

pub returns : goal.returns
returns g c =
    let plan = c.args.plan.now in
    let told = c.in_ok-places.ensures in
    record {
      answer = (
        told.0,
        long_counted (g.P.Plan.meaning plan) (g.met.P.Plan.lawful plan) told.0 c.new.result.cells
            (λ a b d la lb ld. ap (λ cells. cell cells a b d) c.new.ensures ∙ c.count_working_states.ensures a b d la lb ld),
      );
      kept = tt;
    }
