-- Which texts the check refuses.
use Rattle.std.specs.Prelude.{◌≡◌, ℕ, ◌<◌, false, ◌⊎◌, List, [], ◌∷◌, length, Some, None, Ok, Err, Option, Result}
use Rattle.std.specs.List.{last_or}
use Rattle.rules.specs.declared.refusal.Refusal.{Refusal}
use Rattle.rules.specs.declared.refusal.Refusal.TheVariants.{SheetTooLong, NoClosingLine, WrongLineCount}
use Rattle.rules.specs.Rules.{Rule, ◌when◌, Decided}
use Rattle.sheet.specs.declared.check.Closing.{Closing}
use Rattle.sheet.specs.declared.fault.Fault.{Fault}
use Rattle.text.specs.Texts.{ended, lines_of}
use Rattle.sheet.specs.Checks.{Checked, closed_at, closed, above_last, check_of}

-- the closing line counts another number of lines above it
abbrev pub Miscounts : List ℕ → Option Closing → Type 0
Miscounts text None = ⊥
Miscounts text (Some c) = c.count ≡ length (above_last text) → ⊥

-- why the check refuses a text
abbrev pub check_rules : List ℕ → List Rule
check_rules text =
    SheetTooLong when (1024 < length text)
    ∷ NoClosingLine when ((ended text ≡ false) ⊎ (closed_at (last_or None (lines_of text)) ≡ None))
    ∷ WrongLineCount when Miscounts text (closed text)
    ∷ []

abbrev pub refusal_of : Result Checked Fault → Result Checked Refusal
refusal_of (Ok sheet) = Ok sheet
refusal_of (Err fault) = Err fault.refusal

abbrev pub ChecksRuled : Type 0
ChecksRuled = (text : List ℕ)
    → Decided (check_rules text) (λ sheet. (sheet.above ≡ above_last text) × (sheet.count ≡ length (above_last text))) (refusal_of (check_of text))
