-- What a survey answers, and leaves on its bench.
use Rattle.std.specs.Prelude.{◌≡◌, ℕ, ◌<◌, List, [], ◌∷◌, ◌++◌, map, length, drop, Result, MatchResult}
use Rattle.rules.specs.declared.item_type.ItemType.{ItemType}
use Rattle.rules.specs.declared.kind.Kind.{Kind}
use Rattle.rules.specs.declared.line.Line.{Line}
use Rattle.rules.specs.declared.refusal.Refusal.{Refusal}
use Rattle.rules.specs.declared.refusal.Refusal.TheVariants.{BenchTooShort}
use Rattle.rules.specs.History.{History, lines_standing, lines_of, place_in}
use Rattle.rules.specs.Rules.{Rule, ◌when◌, Decided}
use Rattle.rules.specs.Ruled.{naming}
use Rattle.rules.specs.Trees.{tree_of, type_in}
use Rattle.sums.specs.Semiring.{Meaning}
use Rattle.sums.specs.Sums.{working_sum, failing_sum}
use Rattle.sums.specs.Blocks.{block_working, block_failing}
use Rattle.book.specs.declared.book.Book.{Book}
use Rattle.book.specs.Keeps.{Keeps}
use Rattle.survey.specs.declared.bench.Sums.{Sums}

-- the two sums of the standing line n over all states of the items beneath it
abbrev pub sums_of : {F : Type 0} → Meaning F → History → ℕ → Sums F
sums_of m h n = record { working = working_sum m (type_in h) (tree_of h n); failing = failing_sum m (type_in h) (tree_of h n) }

-- v has the two sums of an item of the type t
abbrev pub ItemSums : {F : Type 0} → Meaning F → ItemType → Sums F → Type 0
ItemSums m t v = (v.working ≡ m.working t) × (v.failing ≡ m.failed t)

-- and those of a block over two lines with the sums x and y
abbrev pub BlockSums : {F : Type 0} → Meaning F → Kind → Sums F → Sums F → Sums F → Type 0
BlockSums m k x y v =
    (v.working ≡ block_working m k x.working x.failing y.working y.failing)
    × (v.failing ≡ block_failing m k x.working x.failing y.working y.failing)

-- those of each standing line, in rising number
abbrev pub all_sums : {F : Type 0} → Meaning F → History → List (Sums F)
all_sums m h = map (λ (l : Line). sums_of m h l.number.value) (lines_of h)

-- why the line n may not be surveyed on a bench of so many places
abbrev pub survey_rules : History → ℕ → ℕ → List Rule
survey_rules h n places = naming h n ++ BenchTooShort when (places < lines_standing h) ∷ []

-- the answer to a survey of the line n: its place
abbrev pub SurveyRuled : History → ℕ → ℕ → Result ℕ Refusal → Type 0
SurveyRuled h n places r = Decided (survey_rules h n places) (λ i. i ≡ place_in h n) r

-- an answered survey leaves the sums of every standing line, and behind them what the bench held;
-- a refused one leaves the bench as it was
abbrev pub left_on : {F : Type 0} → Meaning F → History → List (Sums F) → List (Sums F)
left_on m h old = all_sums m h ++ drop (length (lines_of h)) old

pub record Surveyed {F : Type 0} (m : Meaning F) (n : ℕ) (b : Book) (old new : List (Sums F)) (r : Result ℕ Refusal) : Type 0 where
  pub answer : (h : History) → Keeps h b → SurveyRuled h n (length old) r
  pub bench : MatchResult r (λ _. (h : History) → Keeps h b → new ≡ left_on m h old) (λ _. new ≡ old)
