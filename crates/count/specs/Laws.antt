-- What holds of the counts of every lawful plan, and of the tables that hold them.
use Rattle.std.specs.Prelude.{◌≡◌, ℕ, zero, suc, ◌+◌, ◌-◌, ◌*◌, ◌<◌, ◌≤◌, List, IfErr, Result}
use Rattle.rules.specs.declared.item_type.ItemType.TheVariants.{One, Two, Three}
use Rattle.rules.specs.declared.refusal.Refusal.{Refusal}
use Rattle.rules.specs.Rules.{Decided}
use Rattle.plan.specs.Plans.{Structure}
use Rattle.cells.specs.declared.table.CellTable.{CellTable}
use Rattle.cells.specs.Cells.{cell}
use Rattle.count.specs.Counts.{places_of, total_states, working_states, count_rules}

-- each of the 512 cells is what f says
abbrev pub Holds : List ℕ → (ℕ → ℕ → ℕ → ℕ) → Type 0
Holds cells f = (a b c : ℕ) → a < 8 → b < 8 → c < 8 → cell cells a b c ≡ f a b c

-- no cell exceeds n
abbrev pub AtMost : ℕ → List ℕ → Type 0
AtMost n cells = (a b c : ℕ) → a < 8 → b < 8 → c < 8 → cell cells a b c ≤ n

-- one more place of a type working: where l of n places work and the other types' numbers are fixed,
-- n − l times the number f is at most l + 1 times the next
pub record StepUp (p : Structure) (f : ℕ → ℕ → ℕ → ℕ) : Type 0 where
  pub one : (a b c : ℕ) → a < places_of p One → b ≤ places_of p Two → c ≤ places_of p Three → (places_of p One - a) * f a b c ≤ (a + 1) * f (a + 1) b c
  pub two : (a b c : ℕ) → a ≤ places_of p One → b < places_of p Two → c ≤ places_of p Three → (places_of p Two - b) * f a b c ≤ (b + 1) * f a (b + 1) c
  pub three : (a b c : ℕ) → a ≤ places_of p One → b ≤ places_of p Two → c < places_of p Three → (places_of p Three - c) * f a b c ≤ (c + 1) * f a b (c + 1)

-- the binomial: in how many ways k of n places can be chosen
abbrev pub choose : ℕ → ℕ → ℕ
choose n zero = 1
choose zero (suc k) = 0
choose (suc n) (suc k) = choose n k + choose n (suc k)

-- in how many ways a, b and c of the places of types 1, 2 and 3 can be chosen
abbrev pub choices : Structure → ℕ → ℕ → ℕ → ℕ
choices p a b c = choose (places_of p One) a * choose (places_of p Two) b * choose (places_of p Three) c

-- what the long count leaves in a table: the numbers of states in which the plan works
pub record LongCounted (p : Structure) (cells : List ℕ) : Type 0 where
  pub counts : Holds cells (working_states p)
  pub bounded : AtMost 2450 cells
  pub steps_up : StepUp p (cell cells)

-- the answer to a long count of the plan p, and what it leaves of the table that was there before
pub record CountRuled (p : Structure) (old : CellTable) (r : Result (Unit {0}) Refusal) (new : CellTable) : Type 0 where
  pub answer : Decided (count_rules p) (λ _. LongCounted p new.cells) r
  pub kept : IfErr r (λ _. new ≡ old)

-- what the totals leave in a table: the numbers of all states, which are products of binomials
pub record Totalled (p : Structure) (cells : List ℕ) : Type 0 where
  pub counts : Holds cells (total_states p)
  pub bounded : AtMost 2450 cells
  pub products : Holds cells (choices p)

-- the answer to the totals of the plan p, and what they leave of the table that was there before
pub record TotalsRuled (p : Structure) (old : CellTable) (r : Result (Unit {0}) Refusal) (new : CellTable) : Type 0 where
  pub answer : Decided (count_rules p) (λ _. Totalled p new.cells) r
  pub kept : IfErr r (λ _. new ≡ old)
