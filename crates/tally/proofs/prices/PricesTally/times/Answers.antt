use Rattle.std.proofs.Common.{rules}
use Rattle.tally.specs.Capped.{lost_capped}
use Rattle.tally.proofs.prices.PricesTally.times.Goals as goal

pub returns : goal.returns
returns c = search (rules, lost_capped)
