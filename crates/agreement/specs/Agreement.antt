-- The two ways of reckoning a standing line agree.
use Rattle.std.specs.Prelude.{◌≡◌, ℕ, true, is_some}
use Rattle.rules.specs.declared.item_type.ItemType.{ItemType}
use Rattle.rules.specs.History.{History, standing}
use Rattle.rules.specs.Rules.{Allowed}
use Rattle.rules.specs.Ruled.{Lawful}
use Rattle.rules.specs.Trees.{items, tree_of, type_in}
use Rattle.sums.specs.States.{count}
use Rattle.sums.specs.ByType.{is_type}
use Rattle.sums.specs.Sums.{working_sum}
use Rattle.cells.specs.declared.table.CellTable.{CellTable}
use Rattle.signature.specs.Signature.{signature}
use Rattle.plan.specs.Plans.{LawfulPlan}
use Rattle.plan.specs.LinePlans.{plan_of_line}
use Rattle.count.specs.Counts.{places_of, count_rules}
use Rattle.count.specs.Laws.{LongCounted}

-- what holds of the standing line n
pub record WaysAgree (h : History) (n : ℕ) : Type 0 where
  -- its plan keeps the laws of plans, and the long count takes it
  pub lawful : LawfulPlan (plan_of_line h n)
  pub taken : Allowed (count_rules (plan_of_line h n))
  -- the plan has a place for each item beneath the line
  pub places : (t : ItemType) → places_of (plan_of_line h n) t ≡ count (λ i. is_type t (type_in h i)) (items (tree_of h n))
  -- under the signature its first sum is, cell for cell, what the long count of its plan leaves in a
  -- table; and no other table is
  pub counted : LongCounted (plan_of_line h n) (working_sum signature (type_in h) (tree_of h n)).cells
  pub only : (x : CellTable) → LongCounted (plan_of_line h n) x.cells → x ≡ working_sum signature (type_in h) (tree_of h n)

abbrev pub AllWaysAgree : Type 0
AllWaysAgree = (h : History) → Lawful h → (n : ℕ) → is_some (standing h n) ≡ true → WaysAgree h n
