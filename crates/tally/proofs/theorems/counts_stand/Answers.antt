use Rattle.tally.proofs.Counting.{counts_stand_lem}
use Rattle.tally.proofs.theorems.counts_stand.Goals as goal

pub returns : goal.returns
returns c = counts_stand_lem
