use Rattle.std.proofs.Common.{arith}
use Rattle.place_set.specs.Sets.{size}
use Rattle.place_set.proofs.Masks.{ones_count}
use Rattle.place_set.proofs.PlaceSet.len.Goals as goal

pub returns : goal.returns
unfolding size
returns c = ones_count 16 c.args.self.mask (omega arith)
