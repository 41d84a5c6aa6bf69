-- What applying a checked sheet to a book answers, and leaves.
use Rattle.std.specs.Prelude.{◌≡◌, ℕ, suc, ◌⊎◌, List, [], ◌∷◌, Some, None, Ok, Err, Option, Result, MatchResult, OnOk, ◌≢◌}
use Rattle.rules.specs.declared.change.Change.{Change}
use Rattle.rules.specs.declared.refusal.Refusal.{Refusal}
use Rattle.rules.specs.declared.refusal.Refusal.TheVariants.{WrongNextNumber, Unreadable}
use Rattle.rules.specs.History.{History, given}
use Rattle.rules.specs.Rules.{Allowed, Refused}
use Rattle.rules.specs.Ruled.{change_rules, blamed}
use Rattle.book.specs.declared.book.Book.{Book}
use Rattle.book.specs.Keeps.{Keeps}
use Rattle.book.specs.Snapshots.{Same}
use Rattle.sheet.specs.declared.fault.Fault.{Fault}
use Rattle.text.specs.Texts.{Line}
use Rattle.text.specs.Readings.{change_of}
use Rattle.sheet.specs.Faults.{fault_of}
use Rattle.sheet.specs.Checks.{Checked, check_of}

-- the fault that a refusal of the change d has at a line, after the history h
abbrev pub line_fault : History → Line → Change → Refusal → Fault
line_fault h l d e = fault_of e l.number l.place (blamed h d)

abbrev pub unreadable : Line → Fault
unreadable l = fault_of Unreadable l.number l.place 0

-- a line that asks for nothing is unreadable; one that asks for a change is refused with it, or the
-- sheet goes on
abbrev pub LineRuled : History → Line → Option Change → (Change → Type 0) → Result (Unit {0}) Fault → Type 0
LineRuled h l None goes_on r = r ≡ Err (unreadable l)
LineRuled h l (Some d) goes_on r =
    (Allowed (change_rules h d) × goes_on d)
    ⊎ ((e : Refusal) × Refused (change_rules h d) e × (r ≡ Err (line_fault h l d e)))

-- the lines are taken in turn: all are accepted, or the first fault ends them
abbrev pub InTurn : History → List Line → Result (Unit {0}) Fault → Type 0
InTurn h [] r = r ≡ Ok tt
InTurn h (l ∷ ls) r = LineRuled h l (change_of l) (λ d. InTurn (d ∷ h) ls r) r

-- a sheet whose closing line names another number than the next one has this fault
abbrev pub wrong_next : Checked → Fault
wrong_next s = fault_of WrongNextNumber (suc s.count) s.place s.next

-- the answer to a checked sheet that is applied after h: its count, or the first fault
abbrev pub SheetRuled : History → Checked → Result ℕ Fault → Type 0
SheetRuled h s r = MatchResult r
    (λ n. (n ≡ s.count) × (s.next ≡ suc (given h)) × InTurn h s.above (Ok tt))
    (λ f. ((s.next ≢ suc (given h)) × (f ≡ wrong_next s))
    ⊎ ((s.next ≡ suc (given h)) × InTurn h s.above (Err f)))

-- the changes that lines ask for
abbrev pub asked : Option Change → List Change → List Change
asked None ds = ds
asked (Some d) ds = d ∷ ds

abbrev pub changes_of : List Line → List Change
changes_of [] = []
changes_of (l ∷ ls) = asked (change_of l) (changes_of ls)

-- changes join the history one by one, the first of them first
abbrev pub onto : List Change → History → History
onto [] h = h
onto (d ∷ ds) h = onto ds (d ∷ h)

-- an accepted sheet counts as its lines one by one, and a refused one leaves a book that means the same
abbrev pub Applies : Checked → Book → Result ℕ Fault → Book → Type 0
Applies s b r b' =
    MatchResult r (λ _. (h : History) → Keeps h b → Keeps (onto (changes_of s.above) h) b') (λ _. Same b b')
    × ((h : History) → Keeps h b → SheetRuled h s r)

-- what one line makes of the book: its change joins the history, or there is a fault
abbrev pub TakesLine : Line → Book → Result (Unit {0}) Fault → Book → Type 0
TakesLine l b r b' = (h : History) → Keeps h b
    → MatchResult r
    (λ _. (d : Change) × (change_of l ≡ Some d) × Allowed (change_rules h d) × Keeps (d ∷ h) b')
    (λ f. (ls : List Line) → InTurn h (l ∷ ls) (Err f))

-- what lines taken in turn make of the book
abbrev pub TakesLines : List Line → Book → Result (Unit {0}) Fault → Book → Type 0
TakesLines ls b r b' = (h : History) → Keeps h b
    → InTurn h ls r × OnOk r (Keeps (onto (changes_of ls) h) b')

-- a text that is handed in as a sheet: refused by its check, or applied
abbrev pub Enters : List ℕ → Book → Result ℕ Fault → Book → Type 0
Enters text b r b' = MatchResult (check_of text) (λ s. Applies s b r b') (λ f. (r ≡ Err f) × (b' ≡ b))

-- the answer to it, after h
abbrev pub EnterRuled : History → List ℕ → Result ℕ Fault → Type 0
EnterRuled h text r = MatchResult (check_of text) (λ s. SheetRuled h s r) (λ f. r ≡ Err f)
