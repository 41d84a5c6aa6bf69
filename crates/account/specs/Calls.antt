-- What is asked of a book and answered, and what the rules say of it. No book stands here.
use Rattle.std.specs.Prelude.{◌≡◌, ℕ, zero, suc, ◌+◌, false, ◌⊎◌, List, [], ◌∷◌, length, is_ok, Ok, Err, Result, MatchResult}
use Rattle.rules.specs.declared.by_type.ByType.{ByType}
use Rattle.rules.specs.declared.change.Change.{Change}
use Rattle.rules.specs.declared.change.Change.TheVariants.{Issue, Join, Withdraw}
use Rattle.rules.specs.declared.line.Line.{Line}
use Rattle.rules.specs.declared.part_number.PartNumber.{PartNumber}
use Rattle.rules.specs.declared.refusal.Refusal.{Refusal}
use Rattle.rules.specs.History.{History}
use Rattle.rules.specs.Ruled.{ChangeRuled, QuestionRuled}
use Rattle.sums.specs.Semiring.{Meaning}
use Rattle.cells.specs.declared.table.CellTable.{CellTable}
use Rattle.signature.specs.Signature.{signature}
use Rattle.plan.specs.declared.lockout.LockedPlace.{LockedPlace}
use Rattle.plan.specs.Plans.{Structure}
use Rattle.plan.specs.Lockouts.{LockoutRuled}
use Rattle.plan.specs.LinePlans.{PlanRuled}
use Rattle.count.specs.Laws.{CountRuled}
use Rattle.survey.specs.declared.bench.Sums.{Sums}
use Rattle.survey.specs.Surveys.{SurveyRuled, left_on}
use Rattle.row.specs.Rows.{RowRuled}
use Rattle.survival.specs.declared.fixed_point.FixedPoint.{FixedPoint}
use Rattle.survival.specs.Ruled.{SurvivalRuled}
use Rattle.sheet.specs.declared.fault.Fault.{Fault}
use Rattle.sheet.specs.Checks.{above_last}
use Rattle.sheet.specs.Applying.{changes_of, onto, EnterRuled}

-- A call that leaves the book as it is, with its answer, and with what each place handed in held before
-- and after: a question about a number; a survey of a number under a tally i of some family, with its
-- bench; a failure row, with its bench and its row; a survival; a line's plan, by its meaning; a
-- lockout's place; a long count of a plan, with its table.
pub data Reading (I : Type 0) (F : I → Type 0) : Type 0 where
  question : ℕ → Result Line Refusal → Reading I F
  survey : (i : I) → ℕ → List (Sums (F i)) → Result ℕ Refusal → List (Sums (F i)) → Reading I F
  row : ℕ → List (Sums CellTable) → List ℕ → Result (Unit {0}) Refusal → List (Sums CellTable) → List ℕ → Reading I F
  survival : ℕ → ByType ℕ → Result (FixedPoint × FixedPoint) Refusal → Reading I F
  plan_of_line : ℕ → Result Structure Refusal → Reading I F
  lockout : ℕ → Result LockedPlace Refusal → Reading I F
  long_count : Structure → CellTable → Result (Unit {0}) Refusal → CellTable → Reading I F

-- a call on a book, with its answer: a change; a text handed in as a sheet; or one that leaves the book
pub data Call (I : Type 0) (F : I → Type 0) : Type 0 where
  change : Change → Result PartNumber Refusal → Call I F
  sheet : List ℕ → Result ℕ Fault → Call I F
  reading : Reading I F → Call I F

-- the changes that the lines of a text above its last ask for
abbrev pub changes_in : List ℕ → List Change
changes_in text = changes_of (above_last text)

-- the changes join the history if they were accepted
abbrev pub noted : {A E : Type 0} → Result A E → List Change → History → History
noted (Ok n) ds h = onto ds h
noted (Err e) ds h = h

-- the accepted changes among the calls, a sheet as its lines, both with the newest first
abbrev pub history : {I : Type 0} {F : I → Type 0} → List (Call I F) → History
history [] = []
history (change d r ∷ cs) = noted r (d ∷ []) (history cs)
history (sheet text r ∷ cs) = noted r (changes_in text) (history cs)
history (reading q ∷ cs) = history cs

-- The answer is as the rules say after the history h. An answered survey left the sums over all states
-- of every standing line on its bench, and so did an answered row; refused, they left all as it was.
abbrev pub ReadingRuled : {I : Type 0} {F : I → Type 0} → ((i : I) → Meaning (F i)) → History → Reading I F → Type 0
ReadingRuled meaning h (question n r) = QuestionRuled h n r
ReadingRuled meaning h (survey i n old r new) = SurveyRuled h n (length old) r × MatchResult r (λ _. new ≡ left_on (meaning i) h old) (λ _. new ≡ old)
ReadingRuled meaning h (row n old old_row r new new_row) =
    RowRuled h n (length old) new_row r × MatchResult r (λ _. new ≡ left_on signature h old) (λ _. (new ≡ old) × (new_row ≡ old_row))
ReadingRuled meaning h (survival n s r) = SurvivalRuled h n s r
ReadingRuled meaning h (plan_of_line n r) = PlanRuled h n r
ReadingRuled meaning h (lockout i r) = LockoutRuled i r
ReadingRuled meaning h (long_count p old r new) = CountRuled p old r new

-- the call was accepted, answered or refused as the rules say after the history h
abbrev pub Ruled : {I : Type 0} {F : I → Type 0} → ((i : I) → Meaning (F i)) → History → Call I F → Type 0
Ruled meaning h (change d r) = ChangeRuled h d r
Ruled meaning h (sheet text r) = EnterRuled h text r
Ruled meaning h (reading q) = ReadingRuled meaning h q

-- how many of the numbers from 1 to m a question answers
abbrev pub one_if_answered : Result Line Refusal → ℕ
one_if_answered (Ok l) = 1
one_if_answered (Err e) = 0

abbrev pub answered : (ℕ → Result Line Refusal) → ℕ → ℕ
answered q zero = 0
answered q (suc m) = one_if_answered (q (suc m)) + answered q m

-- the line n was withdrawn
abbrev pub TakenOut : ℕ → History → Type 0
TakenOut n [] = ⊥
TakenOut n (Issue t ∷ h) = TakenOut n h
TakenOut n (Join k a b ∷ h) = TakenOut n h
TakenOut n (Withdraw m ∷ h) = (m.value ≡ n) ⊎ TakenOut n h

-- a change, some changes, a call that leaves the book, or any call names the line n
abbrev pub ChangeNames : ℕ → Change → Type 0
ChangeNames n (Issue t) = ⊥
ChangeNames n (Join k a b) = (a.value ≡ n) ⊎ (b.value ≡ n)
ChangeNames n (Withdraw m) = m.value ≡ n

abbrev pub SomeNames : ℕ → List Change → Type 0
SomeNames n [] = ⊥
SomeNames n (d ∷ ds) = ChangeNames n d ⊎ SomeNames n ds

abbrev pub ReadingNames : {I : Type 0} {F : I → Type 0} → ℕ → Reading I F → Type 0
ReadingNames n (question m r) = m ≡ n
ReadingNames n (survey i m old r new) = m ≡ n
ReadingNames n (row m old old_row r new new_row) = m ≡ n
ReadingNames n (survival m s r) = m ≡ n
ReadingNames n (plan_of_line m r) = m ≡ n
ReadingNames n (lockout i r) = ⊥
ReadingNames n (long_count p old r new) = ⊥

abbrev pub Names : {I : Type 0} {F : I → Type 0} → ℕ → Call I F → Type 0
Names n (change d r) = ChangeNames n d
Names n (sheet text r) = SomeNames n (changes_in text)
Names n (reading q) = ReadingNames n q

-- the call was refused
abbrev pub ReadingRefused : {I : Type 0} {F : I → Type 0} → Reading I F → Type 0
ReadingRefused (question n r) = is_ok r ≡ false
ReadingRefused (survey i n old r new) = is_ok r ≡ false
ReadingRefused (row n old old_row r new new_row) = is_ok r ≡ false
ReadingRefused (survival n s r) = is_ok r ≡ false
ReadingRefused (plan_of_line n r) = is_ok r ≡ false
ReadingRefused (lockout i r) = is_ok r ≡ false
ReadingRefused (long_count p old r new) = is_ok r ≡ false

abbrev pub IsRefused : {I : Type 0} {F : I → Type 0} → Call I F → Type 0
IsRefused (change d r) = is_ok r ≡ false
IsRefused (sheet text r) = is_ok r ≡ false
IsRefused (reading q) = ReadingRefused q
