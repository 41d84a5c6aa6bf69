use Rattle.cells.proofs.Tables.{cell_of, same_cells}
use Rattle.cells.proofs.theorems.tables_stand.Goals as goal

pub returns : goal.returns
returns c = (cell_of, same_cells)
