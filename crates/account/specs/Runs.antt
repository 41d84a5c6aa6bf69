-- Runs of calls on one book from new, and the law that every run keeps.
use Rattle.std.specs.Prelude.{◌≡◌, ℕ, ◌+◌, true, List, [], ◌∷◌, ◌++◌, is_some, Some, Ok, Result}
use Rattle.std.specs.List.{slice_get}
use Rattle.rules.specs.declared.line.Line.{Line}
use Rattle.rules.specs.declared.refusal.Refusal.{Refusal}
use Rattle.rules.specs.History.{History, given, standing, lines_standing, place_in, withdrawals}
use Rattle.sums.specs.Semiring.{Meaning}
use Rattle.cells.specs.declared.table.CellTable.{CellTable}
use Rattle.plan.specs.Plans.{Structure, LawfulPlan}
use Rattle.plan.specs.Lockouts.{LockoutRuled}
use Rattle.plan.specs.declared.pile.Layer.{Layer}
use Rattle.plan.specs.Piles.{piled}
use Rattle.plan.specs.LinePlans.{PlanRuled}
use Rattle.count.specs.Counts.{working_states}
use Rattle.count.specs.Laws.{Holds, StepUp, CountRuled}
use Rattle.agreement.specs.Agreement.{WaysAgree}
use Rattle.book.specs.declared.book.Book.{Book}
use Rattle.book.specs.Keeps.{Keeps, Makes, Asks}
use Rattle.survey.specs.declared.bench.Sums.{Sums}
use Rattle.survey.specs.Surveys.{sums_of, Surveyed}
use Rattle.row.specs.Rows.{Rowed}
use Rattle.survival.specs.Ruled.{SurvivalRuled}
use Rattle.sheet.specs.Applying.{Enters}
use Rattle.account.specs.Calls.{Reading, question, survey, row, survival, plan_of_line, lockout, long_count, Call, change, sheet, reading, history, Ruled, answered, TakenOut, Names, IsRefused}

-- a call on the book b that leaves it as it is, as its own contract says
abbrev pub Reads : {I : Type 0} {F : I → Type 0} → ((i : I) → Meaning (F i)) → Reading I F → Book → Type 0
Reads meaning (question n r) b = Asks n b r
Reads meaning (survey i n old r new) b = Surveyed (meaning i) n b old new r
Reads meaning (row n old old_row r new new_row) b = Rowed n b old new old_row new_row r
Reads meaning (survival n s r) b = (h : History) → Keeps h b → SurvivalRuled h n s r
Reads meaning (plan_of_line n r) b = (h : History) → Keeps h b → PlanRuled h n r
Reads meaning (lockout i r) b = LockoutRuled i r
Reads meaning (long_count p old r new) b = CountRuled p old r new

-- a call, between the book before it and the book after it, as its own contract says
abbrev pub Step : {I : Type 0} {F : I → Type 0} → ((i : I) → Meaning (F i)) → Call I F → Book → Book → Type 0
Step meaning (change d r) b b' = Makes d b r b'
Step meaning (sheet text r) b b' = Enters text b r b'
Step meaning (reading q) b b' = Reads meaning q b × (b' ≡ b)

-- the calls, the newest first, were made on one book from new, which then is b
abbrev pub Run : {I : Type 0} {F : I → Type 0} → ((i : I) → Meaning (F i)) → List (Call I F) → Book → Type 0
Run meaning [] b = Keeps [] b
Run meaning (c ∷ cs) b' = (b : Book) × Run meaning cs b × Step meaning c b b'

-- The law of whole runs, for surveys under a family of tallies, and for every plan that keeps the laws of
-- plans. Each moment of a run is itself a run.
pub record WholeRuns {I : Type 0} {F : I → Type 0} (meaning : (i : I) → Meaning (F i)) : Type 0 where
  -- each call was accepted, answered or refused as the rules say of the accepted calls before it alone
  pub ruled : (later : List (Call I F)) (c : Call I F) (before : List (Call I F)) (b : Book)
      → Run meaning (later ++ c ∷ before) b → Ruled meaning (history before) c
  -- a survey that was answered left, at the place of each line m then standing, the line's two sums
  -- over all states, and answered the place of the named line
  pub surveyed : (later before : List (Call I F)) (i : I) (n place : ℕ) (old new : List (Sums (F i))) (b : Book)
      → Run meaning (later ++ reading (survey i n old (Ok place) new) ∷ before) b
      → (place ≡ place_in (history before) n)
      × ((m : ℕ) → is_some (standing (history before) m) ≡ true
      → slice_get new (place_in (history before) m) ≡ Some (sums_of (meaning i) (history before) m))
  -- under the signature the first sum of each line m then standing is, cell for cell, the table that
  -- the long count fills from the line's plan, and steps up
  pub agree : (cs : List (Call I F)) (b : Book) → Run meaning cs b
      → (m : ℕ) → is_some (standing (history cs) m) ≡ true → WaysAgree (history cs) m
  -- numbers given equal lines standing, whose numbers a question then answers, plus withdrawals made
  pub balanced : (cs : List (Call I F)) (b : Book) → Run meaning cs b
      → (q : ℕ → Result Line Refusal) → ((n : ℕ) → Asks n b (q n))
      → given (history cs) ≡ answered q (given (history cs)) + withdrawals (history cs)
  -- a number once withdrawn is refused by every later call, and every later sheet, that names it
  pub gone : (later : List (Call I F)) (c : Call I F) (before : List (Call I F)) (b : Book)
      → Run meaning (later ++ c ∷ before) b → (n : ℕ) → TakenOut n (history before) → Names n c → IsRefused c
  -- any pile of lockouts and mirrors over a lawful plan keeps the laws of plans, and the numbers of states in
  -- which it works step up; where the long count took the pile, it left just these numbers
  pub lawful : (p : Structure) (layers : List Layer) → LawfulPlan p → LawfulPlan (piled layers p)
  pub steps_up : (p : Structure) (layers : List Layer) → LawfulPlan p → StepUp (piled layers p) (working_states (piled layers p))
  pub counted : (later before : List (Call I F)) (p : Structure) (layers : List Layer) (old new : CellTable) (b : Book)
      → Run meaning (later ++ reading (long_count (piled layers p) old (Ok tt) new) ∷ before) b
      → Holds new.cells (working_states (piled layers p))

-- whatever was called on the book before, the call goes on the run
abbrev pub GoesOn : {I : Type 0} {F : I → Type 0} → ((i : I) → Meaning (F i)) → Call I F → Book → Book → Type 0
GoesOn {I} {F} meaning c b b' = (cs : List (Call I F)) → Run meaning cs b → Run meaning (c ∷ cs) b'

-- the numbers given, the lines standing and the withdrawals made of a book
abbrev pub Accounts : Book → ℕ → ℕ → ℕ → Type 0
Accounts b g s w = (h : History) → Keeps h b → (g ≡ given h) × (s ≡ lines_standing h) × (w ≡ withdrawals h)
