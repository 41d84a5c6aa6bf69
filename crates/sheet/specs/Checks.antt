-- What the check of a sheet answers.
use Rattle.std.specs.Prelude.{ℕ, cond, List, length, Some, None, Ok, Err, Option, Result, ◌==◌, nat_lt}
use Rattle.std.specs.List.{last_or}
use Rattle.std.specs.Option.{option_map}
use Rattle.rules.specs.declared.refusal.Refusal.TheVariants.{SheetTooLong, NoClosingLine, WrongLineCount}
use Rattle.sheet.specs.declared.fault.Fault.{Fault}
use Rattle.sheet.specs.declared.check.CheckedSheet.{CheckedSheet}
use Rattle.sheet.specs.declared.check.Closing.{Closing}
use Rattle.text.specs.Texts.{Line, lines_of, but_last, ended}
use Rattle.text.specs.Readings.{closing_of}
use Rattle.sheet.specs.Faults.{fault_of}

-- a checked sheet without its loan: the lines above the closing line, and that line's numbers and place
pub record Checked : Type 0 where
  pub above : List Line
  pub count : ℕ
  pub next : ℕ
  pub place : ℕ

abbrev pub sheet_seen : CheckedSheet → Checked
sheet_seen s = record { above = lines_of s.above.now; count = s.count; next = s.next; place = length s.above.now }

abbrev pub check_seen : Result CheckedSheet Fault → Result Checked Fault
check_seen (Ok s) = Ok (sheet_seen s)
check_seen (Err fault) = Err fault

-- the closing line l with the numbers c and f
abbrev pub closing_at : Line → ℕ × ℕ → Closing
closing_at l cf = record { number = l.number; place = l.place; count = cf.0; next = cf.1 }

abbrev pub closed_at : Option Line → Option Closing
closed_at None = None
closed_at (Some l) = option_map (closing_at l) (closing_of l)

-- the closing line: the last line of a text that ends with byte 10, if it has the form `E c f`
abbrev pub closed : List ℕ → Option Closing
closed text = cond (ended text) (closed_at (last_or None (lines_of text))) None

-- the lines above the last
abbrev pub above_last : List ℕ → List Line
above_last text = but_last (lines_of text)

-- with its closing line found, a sheet is refused only for a wrong count
abbrev pub counted : List ℕ → Option Closing → Result Checked Fault
counted text None = Err (fault_of NoClosingLine 0 (length text) 0)
counted text (Some c) =
    cond (c.count == length (above_last text))
    (Ok (record { above = above_last text; count = c.count; next = c.next; place = c.place }))
    (Err (fault_of WrongLineCount c.number c.place 0))

-- the answer to the check of a text
abbrev pub check_of : List ℕ → Result Checked Fault
check_of text = cond (nat_lt 1024 (length text)) (Err (fault_of SheetTooLong 0 0 0)) (counted text (closed text))
