-- The plan of a standing line.
use Rattle.std.specs.Prelude.{◌≡◌, ℕ, Result}
use Rattle.rules.specs.declared.refusal.Refusal.{Refusal}
use Rattle.rules.specs.History.{History}
use Rattle.rules.specs.Rules.{Decided}
use Rattle.rules.specs.Ruled.{naming}
use Rattle.rules.specs.Trees.{works, tree_of, type_in}
use Rattle.sums.specs.Order.{placed, types_at}
use Rattle.sums.specs.Places.{rising_in}
use Rattle.plan.specs.Plans.{Structure}

-- the items beneath the line n, in rising number, stand at the places from 0 on, and the plan works
-- where the line does
abbrev pub plan_of_line : History → ℕ → Structure
plan_of_line h n = record {
  types = types_at (type_in h) (rising_in h n);
  works = λ q. works (tree_of h n) (placed (rising_in h n) q);
}

-- the answer to a question for the plan of the line n after h
abbrev pub PlanRuled : History → ℕ → Result Structure Refusal → Type 0
PlanRuled h n r = Decided (naming h n) (λ p. p ≡ plan_of_line h n) r
