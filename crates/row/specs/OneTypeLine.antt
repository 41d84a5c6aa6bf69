-- A line over items of one type.
use Rattle.std.specs.Prelude.{ℕ}
use Rattle.row.specs.declared.one_type_line.OneTypeLine.{OneTypeLine}
use Rattle.row.specs.Steps.{states_with}

-- in how many states with l items working it works
abbrev pub states_of : OneTypeLine → ℕ → ℕ
states_of x l = states_with x.sum x.item_type l
