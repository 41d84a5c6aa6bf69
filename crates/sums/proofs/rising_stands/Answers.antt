use Rattle.sums.proofs.Rising.{rising_stands_lem}
use Rattle.sums.proofs.rising_stands.Goals as goal

pub returns : goal.returns
returns c = rising_stands_lem
