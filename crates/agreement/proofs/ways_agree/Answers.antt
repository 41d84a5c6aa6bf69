use Rattle.agreement.proofs.Agreement.{ways_agree_lem}
use Rattle.agreement.proofs.ways_agree.Goals as goal

pub returns : goal.returns
returns c = ways_agree_lem
