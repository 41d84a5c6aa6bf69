use Rattle.signature.proofs.Counted.{signature_stands_lem}
use Rattle.signature.proofs.theorems.signature_stands.Goals as goal

pub returns : goal.returns
returns c = signature_stands_lem
