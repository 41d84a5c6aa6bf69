use Rattle.text.proofs.Places.{lines_stand}
use Rattle.text.proofs.Writing.{lines_written}
use Rattle.text.proofs.laws.texts_stand.Goals as goal

pub returns : goal.returns
returns c = record { lines_stand = lines_stand; lines_written = lines_written }
