use Rattle.sums.proofs.Blocks.{block_sums_stand_lem}
use Rattle.sums.proofs.block_sums_stand.Goals as goal

pub returns : goal.returns
returns g c m laws = block_sums_stand_lem laws
