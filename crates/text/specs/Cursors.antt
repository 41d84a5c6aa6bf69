-- What is still to be read of a line or of a text.
use Rattle.std.specs.Prelude.{ℕ, suc, List, [], Some, None, Option}
use Rattle.std.specs.Option.{option_map}
use Rattle.text.specs.declared.words.Words.{Words}
use Rattle.text.specs.declared.lines.SheetLine.{SheetLine}
use Rattle.text.specs.declared.lines.Lines.{Lines}
use Rattle.text.specs.Texts.{Line, lines_in, numbered}
use Rattle.text.specs.Tokens.{Seen, tokens}

abbrev pub tokens_at : ℕ → Option (List ℕ) → List Seen
tokens_at p None = []
tokens_at p (Some line) = tokens p line

-- the tokens that are still to be read
abbrev pub tokens_left : Words → List Seen
tokens_left words = tokens_at words.place (option_map (λ x. x.now) words.rest)

-- a line without its loan
abbrev pub line_seen : SheetLine → Line
line_seen line = record { bytes = line.bytes.now; number = line.number; place = line.place }

-- the lines that are still to be read
abbrev pub lines_left : Lines → List Line
lines_left lines = numbered (suc lines.taken) lines.place (lines_in lines.text.now)
