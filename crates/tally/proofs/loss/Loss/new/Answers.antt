use Rattle.std.proofs.Common.{rules}
use Rattle.tally.specs.Capped.{same_loss}
use Rattle.tally.proofs.loss.Loss.new.Goals as goal

pub returns : goal.returns
returns c = same_loss _ _ (search rules)
