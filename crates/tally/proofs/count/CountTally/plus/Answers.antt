use Rattle.std.proofs.Common.{rules}
use Rattle.tally.specs.Wrapping.{counted_mod}
use Rattle.tally.proofs.count.CountTally.plus.Goals as goal

pub returns : goal.returns
returns c = search (rules, counted_mod)
