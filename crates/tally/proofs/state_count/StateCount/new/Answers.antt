use Rattle.std.proofs.Common.{rules}
use Rattle.tally.specs.Wrapping.{same_count}
use Rattle.tally.proofs.state_count.StateCount.new.Goals as goal

pub returns : goal.returns
returns c = same_count _ _ (search rules)
