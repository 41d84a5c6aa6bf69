-- What is held at the named line's place is what survival answers.
use Rattle.std.proofs.Common.{◌≡◌, ℕ, ◌≤◌, true, is_some, Some, None, Option, sym, refl, subst}
use mathlib.Core.Path.{fun_ext}
use Rattle.rules.specs.declared.item_type.ItemType.{ItemType}
use Rattle.rules.specs.declared.item_type.ItemType.TheVariants.{One, Two, Three}
use Rattle.rules.specs.declared.line.Part.{Part}
use Rattle.rules.specs.ByType.{of_type}
use Rattle.rules.specs.History.{History, standing}
use Rattle.rules.specs.Ruled.{Lawful}
use Rattle.rules.specs.Trees.{tree_of, type_in}
use Rattle.survival.specs.declared.bounds.Bounds.{Bounds}
use Rattle.rules.specs.declared.by_type.ByType.{ByType}
use Rattle.survival.specs.declared.fractions.Fractions.{Fractions}
use Rattle.survival.specs.LowHigh.{S, low, Encloses}
use Rattle.survival.specs.Ruled.{SurvivalOf}
use Rattle.survival.specs.Held.{fraction_of, BoundsOf}
use Rattle.survival.proofs.Enclosing.{encloses}

pub some_there : (p : Option Part) → (p ≡ None → ⊥) → is_some p ≡ true
some_there None no_part = absurd (no_part refl)
some_there (Some p) no_part = refl

fraction_small : (f : Fractions) (t : ItemType) → fraction_of f t ≤ S
fraction_small f One = f.by_type.one.within
fraction_small f Two = f.by_type.two.within
fraction_small f Three = f.by_type.three.within

pub survives : (h : History) → Lawful h → (n : ℕ) → is_some (standing h n) ≡ true → (s : ByType ℕ) (f : Fractions) → ((t : ItemType) → fraction_of f t ≡ of_type s t)
    → (v : Bounds) → BoundsOf (fraction_of f) h n v → SurvivalOf h n s v.low.units v.high.units
survives h l n on s f same v held =
    let b = subst (λ (share : ItemType → ℕ). BoundsOf share h n v) (fun_ext same) held in
    let x = tree_of h n in
    let types = type_in h in
    let share = of_type s in
    let around = encloses share (λ t. subst (λ (i : ℕ). i ≤ S) (same t) (fraction_small f t)) h l n on in
    record {
      low_is = b.0;
      high_is = b.1;
      encloses =
          subst (λ (i : ℕ). Encloses share types x i v.high.units) (sym b.0)
          (subst (λ (i : ℕ). Encloses share types x (low share types x) i) (sym b.1) around);
    }
