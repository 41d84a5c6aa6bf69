-- What a fault on a sheet carries.
use Rattle.std.specs.Prelude.{ℕ, Bool, cond, ◌&&◌, ◌||◌, nat_le}
use Rattle.rules.specs.declared.refusal.Refusal.{Refusal}
use Rattle.rules.specs.Refusals.{number_of}
use Rattle.sheet.specs.declared.fault.Fault.{Fault}
use Rattle.sheet.specs.declared.fault.Layer.{Layer}
use Rattle.sheet.specs.declared.fault.Layer.TheVariants.{Sheet, Book}

-- whether the refusal has one of the numbers from a to b
abbrev pub numbered_from : ℕ → ℕ → Refusal → Bool
numbered_from a b e = nat_le a (number_of e) && nat_le (number_of e) b

-- 41 to 45 are refusals of the sheet, the others of the book
abbrev pub layer_of : Refusal → Layer
layer_of e = cond (numbered_from 41 45 e) Sheet Book

-- whether a fault carries a number: the part number for 15 to 18, the next number read for 44
abbrev pub carries_number : Refusal → Bool
carries_number e = numbered_from 15 18 e || numbered_from 44 44 e

-- the fault of a refusal at a line, of which the first byte has the place; its number is n or, if it carries none, 0
abbrev pub fault_of : Refusal → ℕ → ℕ → ℕ → Fault
fault_of e line place n = record { layer = layer_of e; refusal = e; line = line; place = place; number = cond (carries_number e) n 0 }
