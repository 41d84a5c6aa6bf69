use Rattle.count.proofs.Steps.{step_up}
use Rattle.count.proofs.laws.step_up_stands.Goals as goal

pub returns : goal.returns
returns g c p = step_up (g.P.Plan.meaning p) (g.met.P.Plan.lawful p)
