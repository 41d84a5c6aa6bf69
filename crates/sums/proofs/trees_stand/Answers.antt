use Rattle.sums.proofs.Forest.{trees_stand_lem}
use Rattle.sums.proofs.trees_stand.Goals as goal

pub returns : goal.returns
returns c = trees_stand_lem
