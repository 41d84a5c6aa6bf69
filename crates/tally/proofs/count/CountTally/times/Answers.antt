use borrow.Author.Needs.{needs}
use Rattle·tally·proofs.Wrapping.{counted-mod}
use Rattle·tally·proofs.count.CountTally.times.Needs as need

pub returns : need.returns
returns c = search (needs, counted-mod)
