-- Rules put together.
use Rattle.std.specs.Prelude.{List, [], ◌∷◌, ◌++◌}
use Rattle.std.proofs.Common.{inl, inr}
use Rattle.rules.specs.declared.refusal.Refusal.{Refusal}
use Rattle.rules.specs.Rules.{Rule, Allowed, Refused}

pub allowed_append : (rs ss : List Rule) → Allowed rs → Allowed ss → Allowed (rs ++ ss)
allowed_append [] ss a b = b
allowed_append (r ∷ rs) ss a b = (a.0, allowed_append rs ss a.1 b)

pub refused_first : (rs ss : List Rule) (e : Refusal) → Refused rs e → Refused (rs ++ ss) e
refused_first [] ss e x = absurd x
refused_first (r ∷ rs) ss e (inl x) = inl x
refused_first (r ∷ rs) ss e (inr x) = inr (x.0, refused_first rs ss e x.1)

pub refused_after : (rs ss : List Rule) (e : Refusal) → Allowed rs → Refused ss e → Refused (rs ++ ss) e
refused_after [] ss e a x = x
refused_after (r ∷ rs) ss e a x = inr (a.0, refused_after rs ss e a.1 x)
