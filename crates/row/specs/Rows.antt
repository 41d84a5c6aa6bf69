-- The failure row of a line whose items are all of one type.
use Rattle.std.specs.Prelude.{◌≡◌, ℕ, zero, suc, ◌+◌, ◌-◌, ◌*◌, ◌<◌, ◌≤◌, List, [], ◌∷◌, ◌++◌, length, Some, Result, MatchResult, ◌≢◌, slice_index}
use Rattle.rules.specs.declared.item_type.ItemType.{ItemType}
use Rattle.rules.specs.declared.item_type.ItemType.TheVariants.{One, Two, Three}
use Rattle.rules.specs.declared.refusal.Refusal.{Refusal}
use Rattle.rules.specs.declared.refusal.Refusal.TheVariants.{MixedTypes, BenchTooShort}
use Rattle.rules.specs.History.{History, lines_standing}
use Rattle.rules.specs.Rules.{Rule, ◌when◌, Decided}
use Rattle.rules.specs.Ruled.{naming}
use Rattle.rules.specs.Trees.{items, tree_of, type_in}
use Rattle.sums.specs.Members.{◌∈◌}
use Rattle.cells.specs.declared.table.CellTable.{CellTable}
use Rattle.signature.specs.Signature.{signature}
use Rattle.plan.specs.LinePlans.{plan_of_line}
use Rattle.count.specs.Counts.{working_states}
use Rattle.book.specs.declared.book.Book.{Book}
use Rattle.book.specs.Keeps.{Keeps}
use Rattle.survey.specs.declared.bench.Sums.{Sums}
use Rattle.survey.specs.Surveys.{left_on}

-- n!, in how many orders n things can come
abbrev pub factorial : ℕ → ℕ
factorial zero = 1
factorial (suc n) = suc n * factorial n

-- the cell with the index l for the type t, and 0 for the other two
abbrev pub of_each_type : ItemType → (ℕ → ℕ → ℕ → ℕ) → ℕ → ℕ
of_each_type One f l = f l 0 0
of_each_type Two f l = f 0 l 0
of_each_type Three f l = f 0 0 l

-- N(l): the number of states with l of the items beneath the line working in which it works
abbrev pub working_with : History → ℕ → ItemType → ℕ → ℕ
working_with h n t l = of_each_type t (working_states (plan_of_line h n)) l

-- how many items lie beneath the line
abbrev pub items_beneath : History → ℕ → ℕ
items_beneath h n = length (items (tree_of h n))

-- The failure row relates the survival signature of a line over m items of one type t to its
-- signature. With Φ(l) = N(l) / (m choose l) the survival signature, and q(j) the signature, the
-- chance that the line stops at the j-th failure of an item, Φ(l) = q(m − l + 1) + .. + q(m), so
-- that m! × q(j) = m! × (Φ(m − j + 1) − Φ(m − j)) is entry j: with l = m − j + 1 it is
-- N(l) × l! × (m − l)! less N(l − 1) × (l − 1)! × (m − l + 1)!, and never below 0.
-- Entry j stands at the place j − 1 of seven, with 0 at the places after m.
pub record FailureRow (h : History) (n : ℕ) (t : ItemType) (row : List ℕ) : Type 0 where
  pub is_of_type : (i : ℕ) → i ∈ items (tree_of h n) → type_in h i ≡ Some t
  pub long : length row ≡ 7
  pub entries : (j l : ℕ) → 1 ≤ j → 1 ≤ l → j + l ≡ items_beneath h n + 1
      → slice_index row (j - 1) + working_with h n t (l - 1) * factorial (l - 1) * factorial (items_beneath h n - l + 1)
      ≡ working_with h n t l * factorial l * factorial (items_beneath h n - l)
  pub rest : (j : ℕ) → items_beneath h n < j → slice_index row (j - 1) ≡ 0

-- two items beneath the line are of different types
abbrev pub Mixed : History → ℕ → Type 0
Mixed h n = (i j : ℕ) × (i ∈ items (tree_of h n)) × (j ∈ items (tree_of h n)) × (type_in h i ≢ type_in h j)

-- why the line n has no failure row on a bench of so many places
abbrev pub row_rules : History → ℕ → ℕ → List Rule
row_rules h n places = naming h n ++ MixedTypes when Mixed h n ∷ BenchTooShort when (places < lines_standing h) ∷ []

-- the answer to a question for the failure row of the line n, which leaves the row in its place
abbrev pub RowRuled : History → ℕ → ℕ → List ℕ → Result (Unit {0}) Refusal → Type 0
RowRuled h n places row r = Decided (row_rules h n places) (λ _. (t : ItemType) × FailureRow h n t row) r

-- it leaves the bench as a survey under the signature does; refused, it leaves bench and row as they were
pub record Rowed (n : ℕ) (b : Book) (old new : List (Sums CellTable)) (old_row new_row : List ℕ) (r : Result (Unit {0}) Refusal) : Type 0 where
  pub answer : (h : History) → Keeps h b → RowRuled h n (length old) new_row r
  pub left : MatchResult r (λ _. (h : History) → Keeps h b → new ≡ left_on signature h old) (λ _. (new ≡ old) × (new_row ≡ old_row))
