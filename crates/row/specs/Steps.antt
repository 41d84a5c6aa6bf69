-- What the parts of the failure row's computation find.
use Rattle.std.specs.Prelude.{◌≡◌, ℕ, ◌+◌, ◌-◌, ◌*◌, ◌^◌, ◌<◌, ◌≤◌, cond, List, [], ◌∷◌, ◌++◌, length, Some, None, Option, Result, MatchOption, MatchResult, nat_lt}
use Rattle.rules.specs.declared.item_type.ItemType.{ItemType}
use Rattle.rules.specs.declared.refusal.Refusal.{Refusal}
use Rattle.rules.specs.declared.refusal.Refusal.TheVariants.{MixedTypes}
use Rattle.rules.specs.History.{History}
use Rattle.rules.specs.Rules.{Rule, ◌when◌, Decided}
use Rattle.rules.specs.Ruled.{naming}
use Rattle.rules.specs.Trees.{items, tree_of, type_in}
use Rattle.sums.specs.Members.{◌∈◌}
use Rattle.sums.specs.ByType.{is_type}
use Rattle.sums.specs.Sums.{working_sum}
use Rattle.cells.specs.Cells.{cell}
use Rattle.cells.specs.declared.table.CellTable.{CellTable}
use Rattle.signature.specs.Signature.{signature}
use Rattle.book.specs.declared.book.Book.{Book}
use Rattle.book.specs.Keeps.{Keeps}
use Rattle.survey.specs.declared.bench.Sums.{Sums}
use Rattle.survey.specs.Surveys.{survey_rules, left_on}
use Rattle.row.specs.Rows.{factorial, of_each_type, items_beneath, Mixed}

-- the items beneath the line are all of the type t
abbrev pub AllOfType : History → ℕ → ItemType → Type 0
AllOfType h n t = (i : ℕ) → i ∈ items (tree_of h n) → type_in h i ≡ Some t

-- their only type, or none where they are of several
abbrev pub OnlyType : History → ℕ → Option ItemType → Type 0
OnlyType h n o = MatchOption o (Mixed h n) (AllOfType h n)

-- the type that both are
abbrev pub common_type : Option ItemType → Option ItemType → Option ItemType
common_type None y = None
common_type (Some t) y = cond (is_type t y) (Some t) None

-- why the items beneath the line n are not of one type
abbrev pub uniform_rules : History → ℕ → List Rule
uniform_rules h n = naming h n ++ MixedTypes when Mixed h n ∷ []

-- their type and how many they are, if they are
abbrev pub UniformRuled : ℕ → Book → Result (ItemType × ℕ) Refusal → Type 0
UniformRuled n b r = (h : History) → Keeps h b → Decided (uniform_rules h n) (λ x. AllOfType h n x.0 × (x.1 ≡ items_beneath h n)) r

-- a survey under the signature, which answers the first sum of the line n
pub record Summed (n : ℕ) (b : Book) (old new : List (Sums CellTable)) (r : Result CellTable Refusal) : Type 0 where
  pub answer : (h : History) → Keeps h b → Decided (survey_rules h n (length old)) (λ x. x ≡ working_sum signature (type_in h) (tree_of h n)) r
  pub left : MatchResult r (λ _. (h : History) → Keeps h b → new ≡ left_on signature h old) (λ _. new ≡ old)

-- the number of states with l items of the type working in which a line works, by its first sum
abbrev pub states_with : CellTable → ItemType → ℕ → ℕ
states_with s t l = of_each_type t (cell s.cells) l

-- where a line of m items works in N l states with l of them working: in how many of the orders in
-- which the items can fail, one by one, it works with l of them left
abbrev pub orders_with : (ℕ → ℕ) → ℕ → ℕ → ℕ
orders_with N m l = N l * (factorial l * factorial (m - l))

-- in how many of them it stops at the next failure after k others
abbrev pub stops_at : (ℕ → ℕ) → ℕ → ℕ → ℕ
stops_at N m k = cond (nat_lt k m) (orders_with N m (m - k) - orders_with N m (m - k - 1)) 0

-- at most seven items; the more of them are left, the more orders, and their number fits
pub record Orderly (N : ℕ → ℕ) (m : ℕ) : Type 0 where
  pub few : m ≤ 7
  pub rise : (l : ℕ) → l < m → orders_with N m l ≤ orders_with N m (l + 1)
  pub small : (l : ℕ) → l ≤ m → orders_with N m l < 2 ^ 32
