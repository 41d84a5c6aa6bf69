use Rattle.sums.proofs.Blocks.{block_sums_stand_lem}
use Rattle.tally.proofs.theorems.block_sums_stand.Goals as goal

pub returns : goal.returns
returns g c t = block_sums_stand_lem (g.met.T.Tally.lawful t)
