use Rattle.std.proofs.Common.{arith}
use Rattle.place_set.proofs.Steps.{first_subset}
use Rattle.place_set.proofs.PlaceSet.subsets.Goals as goal

pub returns : goal.returns
returns c = first_subset c.args.self (omega arith)
