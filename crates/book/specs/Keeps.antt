-- What calls on a book answer and leave.
use Rattle.std.specs.Prelude.{◌≡◌, ℕ, List, ◌∷◌, Some, vec_items, Result, MatchResult, slice_index_or}
use Rattle.rules.specs.declared.change.Change.{Change}
use Rattle.rules.specs.declared.change.Change.TheVariants.{Issue}
use Rattle.rules.specs.declared.item_type.ItemType.{ItemType}
use Rattle.rules.specs.declared.line.Line.{Line}
use Rattle.rules.specs.declared.part_number.PartNumber.{PartNumber}
use Rattle.rules.specs.declared.refusal.Refusal.{Refusal}
use Rattle.rules.specs.Types.{type_numbered}
use Rattle.rules.specs.Tables.{no_line, At}
use Rattle.rules.specs.History.{History, line_of}
use Rattle.rules.specs.Rules.{Rule, Allowed, Refused}
use Rattle.rules.specs.Ruled.{naming, using_line, joining, change_rules, ChangeRuled, QuestionRuled}
use Rattle.book.specs.declared.book.Book.{Book}
use Rattle.book.specs.Kept.{Holds}

-- the book holds the standing lines and the last number of the lawful history h
abbrev pub Keeps : History → Book → Type 0
Keeps h b = Holds h (vec_items b.table.lines) b.last

-- P holds of each history that the book keeps
abbrev pub Tells : Book → (History → Type 0) → Type 0
Tells b P = (h : History) → Keeps h b → P h

-- a change that is asked of the book b: an accepted one joins the history, a refused one leaves the
-- book as it was, and the rules say of the history which it is
abbrev pub Makes : Change → Book → Result PartNumber Refusal → Book → Type 0
Makes d b r b' =
    MatchResult r (λ _. Tells b (λ h. Keeps (d ∷ h) b')) (λ _. b' ≡ b)
    × Tells b (λ h. ChangeRuled h d r)

-- a question about the line n
abbrev pub Asks : ℕ → Book → Result Line Refusal → Type 0
Asks n b r = Tells b (λ h. QuestionRuled h n r)

-- the line n stands at the place i
abbrev pub Named : ℕ → Book → ℕ → Type 0
Named n b i = At (vec_items b.table.lines) n i
    × Tells b (λ h. Allowed (naming h n) × (line_of h n ≡ Some (slice_index_or (vec_items b.table.lines) i no_line)))

-- the place where the line n stands, or why none does
abbrev pub Seeks : ℕ → Book → Result ℕ Refusal → Type 0
Seeks n b r = MatchResult r (Named n b) (λ e. Tells b (λ h. Refused (naming h n) e))

-- a check of the book: the rules allow it and A holds of the answer, or they refuse it
abbrev pub Checks : {X : Type 0} → Book → (History → List Rule) → (X → Type 0) → Result X Refusal → Type 0
Checks b rules A r = MatchResult r
    (λ x. A x × Tells b (λ h. Allowed (rules h)))
    (λ e. Tells b (λ h. Refused (rules h) e))

-- the type with the number t, of which an item may be issued, or why none may
abbrev pub CanIssue : ℕ → Book → Result ItemType Refusal → Type 0
CanIssue t b r = Checks b (λ h. change_rules h (Issue t)) (λ k. type_numbered t ≡ Some k) r

-- the places of the lines x and y, which may be joined, or why they may not
abbrev pub CanJoin : PartNumber → PartNumber → Book → Result (ℕ × ℕ) Refusal → Type 0
CanJoin x y b r = let xs = vec_items b.table.lines in
    Checks b (λ h. joining h x.value y.value) (λ p. At xs x.value p.0 × At xs y.value p.1) r

-- the place where the free line n stands, or why none does
abbrev pub Locates : ℕ → Book → Result ℕ Refusal → Type 0
Locates n b r = Checks b (λ h. using_line h n) (At (vec_items b.table.lines) n) r
