use Rattle.sheet.proofs.Closings.{checks_ruled}
use Rattle.sheet.proofs.laws.checks_stand.Goals as goal

pub returns : goal.returns
returns c = checks_ruled
