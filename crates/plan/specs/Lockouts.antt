-- Which places can be locked out.
use Rattle.std.specs.Prelude.{◌≡◌, ℕ, ◌<◌, List, [], ◌∷◌, Result}
use Rattle.rules.specs.declared.refusal.Refusal.{Refusal}
use Rattle.rules.specs.declared.refusal.Refusal.TheVariants.{NoSuchPlace}
use Rattle.rules.specs.Rules.{Rule, ◌when◌, Decided}
use Rattle.plan.specs.declared.lockout.LockedPlace.{LockedPlace}

-- why the place i cannot be locked out
abbrev pub lockout_rules : ℕ → List Rule
lockout_rules i = NoSuchPlace when (15 < i) ∷ []

-- the answer to the place i that is to be locked out
abbrev pub LockoutRuled : ℕ → Result LockedPlace Refusal → Type 0
LockoutRuled i r = Decided (lockout_rules i) (λ l. l.place ≡ i) r
