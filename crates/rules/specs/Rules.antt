-- A call is refused by the first condition in its order that holds, and not otherwise.
use Rattle.std.specs.Prelude.{◌≡◌, ◌⊎◌, List, [], ◌∷◌, Result, MatchResult}
use Rattle.rules.specs.declared.refusal.Refusal.{Refusal}

-- a refusal and its condition
pub record Rule : Type 1 where
  pub refusal : Refusal
  pub condition : Type 0

infix 68 ◌when◌
abbrev pub ◌when◌ : Refusal → Type 0 → Rule
e when c = record { refusal = e; condition = c }

-- no condition holds
abbrev pub Allowed : List Rule → Type 0
Allowed [] = Unit {0}
Allowed (r ∷ rs) = (r.condition → ⊥) × Allowed rs

-- the first condition that holds is that of e
abbrev pub Refused : List Rule → Refusal → Type 0
Refused [] e = ⊥
Refused (r ∷ rs) e = (r.condition × (e ≡ r.refusal)) ⊎ ((r.condition → ⊥) × Refused rs e)

-- refused by the first condition that holds, and otherwise answered as A says
abbrev pub Decided : {X : Type 0} → List Rule → (X → Type 0) → Result X Refusal → Type 0
Decided rs A r = MatchResult r (λ x. Allowed rs × A x) (λ e. Refused rs e)
