-- Lockouts and mirrors in a pile over a plan.
use Rattle.std.specs.Prelude.{◌≡◌, Bool, cond, not, List, [], ◌∷◌}
use Rattle.rules.specs.Trees.{State}
use Rattle.plan.specs.declared.pile.Layer.{Layer}
use Rattle.plan.specs.declared.pile.Layer.TheVariants.{Lockout, Mirror}
use Rattle.plan.specs.Plans.{Structure, LawfulPlan, locked_out, mirrored}

-- the layer over the plan p
abbrev pub layered : Layer → Structure → Structure
layered (Lockout l) p = locked_out l.place p
layered Mirror p = mirrored p

-- the layers over the plan p, the lowest first
abbrev pub piled : List Layer → Structure → Structure
piled [] p = p
piled (layer ∷ layers) p = piled layers (layered layer p)

-- the answer of what is below so many mirrors
abbrev pub turned_if : Bool → Bool → Bool
turned_if turned v = cond turned (not v) v

-- each place as busy has it where it works in s, and as idle has it where it does not
abbrev pub between : State → State → State → State
between idle busy s n = cond (s n) (busy n) (idle n)

-- the layers are gone through: over any lawful plan they answer of every state as the plan does of
-- the state between idle and busy, turned or not
abbrev pub Settled : List Layer → State → State → Bool → Type 0
Settled layers idle busy turned = (p : Structure) → LawfulPlan p → (s : State) → (piled layers p).works s ≡ turned_if turned (p.works (between idle busy s))
