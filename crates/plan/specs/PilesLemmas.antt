-- A pile of lockouts and mirrors over a lawful plan is lawful.
use Rattle.std.proofs.Common.{◌≡◌, ◌==◌, ℕ, Bool, true, false, cond, not, List, [], ◌∷◌, refl, ap}
use Rattle.std.proofs.lemmas.Bool.{false≢true}
use Rattle.rules.specs.Trees.{State}
use Rattle.sums.specs.States.{put}
use Rattle.place_set.specs.Sets.{Within}
use Rattle.plan.specs.Plans.{Structure, LawfulPlan, locked_out, turned_over, mirrored}
use Rattle.plan.specs.declared.pile.Layer.{Layer}
use Rattle.plan.specs.declared.pile.Layer.TheVariants.{Lockout, Mirror}
use Rattle.plan.specs.Piles.{layered, piled}

failed_at : (here x y : Bool) → (x ≡ true → y ≡ true) → cond here false x ≡ true → cond here false y ≡ true
failed_at true x y more on = on
failed_at false x y more on = more on

turned_at : (x y : Bool) → (y ≡ true → x ≡ true) → not x ≡ true → not y ≡ true
turned_at x false more off = refl
turned_at true true more off = off
turned_at false true more off = absurd (false≢true (more refl))

-- with one place failed, more of the other places still work
within_failed : (i : ℕ) (s t : State) → Within s t → Within (put i false s) (put i false t)
within_failed i s t within n = failed_at (i == n) (s n) (t n) (within n)

-- of two states turned over, the smaller is the larger
within_turned : (s t : State) → Within s t → Within (turned_over t) (turned_over s)
within_turned s t within n = turned_at (t n) (s n) (within n)

pub locked_out_lawful : (i : ℕ) (p : Structure) → LawfulPlan p → LawfulPlan (locked_out i p)
locked_out_lawful i p l = record {
  monotone = λ s t within. l.monotone (put i false s) (put i false t) (within_failed i s t within);
  empty = λ s t agree. l.empty (put i false s) (put i false t) (λ n typed. ap (cond (i == n) false) (agree n typed));
  above = l.above;
}

pub mirrored_lawful : (p : Structure) → LawfulPlan p → LawfulPlan (mirrored p)
mirrored_lawful p l = record {
  monotone = λ s t within. turned_at (p.works (turned_over s)) (p.works (turned_over t)) (l.monotone (turned_over t) (turned_over s) (within_turned s t within));
  empty = λ s t agree. ap not (l.empty (turned_over s) (turned_over t) (λ n typed. ap not (agree n typed)));
  above = l.above;
}

layered_lawful : (layer : Layer) (p : Structure) → LawfulPlan p → LawfulPlan (layered layer p)
layered_lawful (Lockout l) p lawful = locked_out_lawful l.place p lawful
layered_lawful Mirror p lawful = mirrored_lawful p lawful

pub piled_lawful : (layers : List Layer) (p : Structure) → LawfulPlan p → LawfulPlan (piled layers p)
piled_lawful [] p lawful = lawful
piled_lawful (layer ∷ layers) p lawful = piled_lawful layers (layered layer p) (layered_lawful layer p lawful)
