-- What survival answers, and when it is refused.
use Rattle.std.specs.Prelude.{◌≡◌, ℕ, ◌<◌, ◌⊎◌, List, [], ◌∷◌, ◌++◌, Result}
use Rattle.rules.specs.declared.by_type.ByType.{ByType}
use Rattle.rules.specs.declared.refusal.Refusal.{Refusal}
use Rattle.rules.specs.declared.refusal.Refusal.TheVariants.{ShareTooHigh}
use Rattle.rules.specs.ByType.{of_type}
use Rattle.rules.specs.History.{History}
use Rattle.rules.specs.Rules.{Rule, ◌when◌, Decided}
use Rattle.rules.specs.Ruled.{naming}
use Rattle.rules.specs.Trees.{tree_of, type_in}
use Rattle.survival.specs.declared.fixed_point.FixedPoint.{FixedPoint}
use Rattle.survival.specs.LowHigh.{S, low, high, Encloses}

-- why the shares may not be used
abbrev pub share_rules : ByType ℕ → List Rule
share_rules s = ShareTooHigh when ((S < s.one) ⊎ (S < s.two) ⊎ (S < s.three)) ∷ []

-- why there is no survival of the line n
abbrev pub survival_rules : History → ℕ → ByType ℕ → List Rule
survival_rules h n s = naming h n ++ share_rules s

-- l and u are the low and the high of the standing line n, and enclose its exact sum
pub record SurvivalOf (h : History) (n : ℕ) (s : ByType ℕ) (l u : ℕ) : Type 0 where
  pub low_is : l ≡ low (of_type s) (type_in h) (tree_of h n)
  pub high_is : u ≡ high (of_type s) (type_in h) (tree_of h n)
  pub encloses : Encloses (of_type s) (type_in h) (tree_of h n) l u

-- the answer to a question for the survival of the line n
abbrev pub SurvivalRuled : History → ℕ → ByType ℕ → Result (FixedPoint × FixedPoint) Refusal → Type 0
SurvivalRuled h n s r = Decided (survival_rules h n s) (λ p. SurvivalOf h n s p.0.units p.1.units) r
