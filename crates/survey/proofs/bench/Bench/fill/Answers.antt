use Rattle.std.proofs.Common.{arith}
use Rattle.survey.proofs.LineSums.{filled}
use Rattle.survey.proofs.bench.Bench.fill.Goals as goal

pub returns-clause-sums : goal.returns-clause-sums
returns-clause-sums g c h k =
    filled (g.T.Tally.meaning c.args.tally.now) (g.met.T.Tally.lawful c.args.tally.now)
    h k.lawful c.args.self.now.places.now c.reckon.new.figures (omega (arith, c.requires h k, c.reckon.auto.figures)) (c.reckon.ensures h k)
