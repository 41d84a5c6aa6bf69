-- Tables: which lines are items, their order, and the room.
use Rattle.std.specs.Prelude.{◌≡◌, ℕ, Bool, false, List, vec_capacity, Some}
use Rattle.std.specs.List.Sorted.{IsNonDecreasingBy}
use Rattle.rules.specs.declared.line.Line.{Line}
use Rattle.rules.specs.declared.line.Part.{Part}
use Rattle.rules.specs.History.{is_item, is_item_of}
use Rattle.book.specs.declared.table.Table.{Table}

abbrev pub item_line : Line → Bool
item_line l = is_item (Some l.part)

abbrev pub item_line_of : ℕ → Line → Bool
item_line_of t l = is_item_of t (Some l.part)

-- the free line n of the part
abbrev pub free_line : ℕ → Part → Line
free_line n p = record { number = record { value = n }; part = p; built_in = false }

-- the numbers rise
abbrev pub Rising : List Line → Type 0
Rising xs = IsNonDecreasingBy (λ l. l.number.value) xs

-- both have memory for the same number of lines
abbrev pub SameRoom : Table → Table → Type 0
SameRoom t u = vec_capacity u.lines ≡ vec_capacity t.lines
