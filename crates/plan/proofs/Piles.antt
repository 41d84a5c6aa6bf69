-- What a pile answers, layer by layer from the topmost down.
use Rattle.std.proofs.Common.{◌≡◌, ℕ, ◌<◌, Bool, true, false, cond, not, ◌&&◌, ◌||◌, eqb, List, [], ◌∷◌, ◌++◌, refl, sym, ap, ap₂, ◌∙◌, ⊎_elim}
use mathlib.Core.Path.{fun_ext}
use Rattle.std.proofs.lemmas.Bool.{cases_lt, lt-ltb}
use Rattle.rules.specs.Trees.{State}
use Rattle.sums.specs.States.{put}
use Rattle.place_set.specs.Sets.{both, either, is_place, less, others}
use Rattle.plan.specs.Plans.{Structure, LawfulPlan, turned_over, mirrored}
use Rattle.plan.specs.declared.lockout.LockedPlace.{LockedPlace}
use Rattle.plan.specs.declared.pile.Layer.{Layer}
use Rattle.plan.specs.declared.pile.Layer.TheVariants.{Lockout, Mirror}
use Rattle.plan.specs.Piles.{layered, piled, turned_if, between}
use Rattle.plan.specs.PilesLemmas.{piled_lawful}

pub layered-types : (layer : Layer) (p : Structure) → (layered layer p).types ≡ p.types
layered-types (Lockout l) p = refl
layered-types Mirror p = refl

pub piled-types : (layers : List Layer) (p : Structure) → (piled layers p).types ≡ p.types
piled-types [] p = refl
piled-types (layer ∷ layers) p = piled-types layers (layered layer p) ∙ layered-types layer p

pub piled-push : (layers : List Layer) (top : Layer) (p : Structure) → piled (layers ++ top ∷ []) p ≡ layered top (piled layers p)
piled-push [] top p = refl
piled-push (layer ∷ layers) top p = piled-push layers top (layered layer p)

-- a state of the places 0 to 15 may be turned over among these alone, since no other has an item
pub mirrored-works : (p : Structure) → LawfulPlan p → (s : State) → (mirrored p).works s ≡ not (p.works (others s))
mirrored-works p lawful s =
    ap not (sym (lawful.empty (others s) (turned_over s)
    (λ i some. ⊎_elim (λ low. let t = lt-ltb i 16 low in rw t) (λ high. absurd (some (lawful.above i high))) (cases_lt i 16))))

turned_again : (turned v : Bool) → turned_if turned (not v) ≡ turned_if (not turned) v
turned_again true true = refl
turned_again true false = refl
turned_again false v = refl

-- down through the topmost layer, from the state s to the state t
module _ (p : Structure) (all : Bool) (turned : Bool) (s t : State) (above below : List Layer) (top : Layer) (is : above ≡ below ++ top ∷ [])
    (so_far : all ≡ turned_if turned ((piled above p).works s)) where
  at_top : (layer : Layer) → top ≡ layer → all ≡ turned_if turned ((layered layer (piled below p)).works s)
  at_top layer e = so_far ∙ ap (λ q. turned_if turned (q.works s)) (ap (λ ls. piled ls p) is ∙ piled-push below top p ∙ ap (λ l. layered l (piled below p)) e)

  pub below_lockout : (l : LockedPlace) → top ≡ Lockout l → t ≡ put l.place false s → all ≡ turned_if turned ((piled below p).works t)
  below_lockout l e same = at_top (Lockout l) e ∙ ap (λ u. turned_if turned ((piled below p).works u)) (sym same)

  pub below_mirror : LawfulPlan p → top ≡ Mirror → t ≡ others s → all ≡ turned_if (not turned) ((piled below p).works t)
  below_mirror lawful e same =
      at_top Mirror e ∙ ap (turned_if turned) (mirrored-works (piled below p) (piled_lawful below p lawful) s)
      ∙ turned_again turned ((piled below p).works (others s)) ∙ ap (λ u. turned_if (not turned) ((piled below p).works u)) (sym same)

-- the state between, place by place
between_put_at : (x y a b : Bool) → cond x (cond y false a) (cond y false b) ≡ cond y false (cond x a b)
between_put_at true y a b = refl
between_put_at false y a b = refl

between_others_at : (x y a b : Bool) → cond x (y && not a) (y && not b) ≡ (y && not (cond x a b))
between_others_at true y a b = refl
between_others_at false y a b = refl

sets_between_at : (x a b : Bool) → ((x && b) || (a && not x)) ≡ cond x b a
sets_between_at true true true = refl
sets_between_at true true false = refl
sets_between_at true false true = refl
sets_between_at true false false = refl
sets_between_at false true b = refl
sets_between_at false false b = refl

pub sets-between : (idle busy s : State) → either (both s busy) (less idle s) ≡ between idle busy s
sets-between idle busy s = fun_ext (λ n. sets_between_at (s n) (idle n) (busy n))

-- where idle and busy go down through a layer to x and y, the state between them does so too
module _ (idle busy x y s : State) where
  pub between-put : (i : ℕ) → x ≡ put i false idle → y ≡ put i false busy → between x y s ≡ put i false (between idle busy s)
  between-put i e f = ap₂ (λ a b. between a b s) e f ∙ fun_ext (λ n. between_put_at (s n) (eqb i n) (busy n) (idle n))

  pub between-others : x ≡ others idle → y ≡ others busy → between x y s ≡ others (between idle busy s)
  between-others e f = ap₂ (λ a b. between a b s) e f ∙ fun_ext (λ n. between_others_at (s n) (is_place n) (busy n) (idle n))

-- where no place is idle, and each of 0 to 15 busy, the state between is the state itself
pub between-start : (p : Structure) → LawfulPlan p → (idle busy s : State) → ((n : ℕ) → idle n ≡ false) → busy ≡ others idle → p.works s ≡ p.works (between idle busy s)
between-start p lawful idle busy s none all =
    lawful.empty s (between idle busy s) (λ i some. ⊎_elim (low i) (λ high. absurd (some (lawful.above i high))) (cases_lt i 16))
  where
    at : (x a b : Bool) → a ≡ false → b ≡ not a → x ≡ cond x b a
    at true a b e f = sym (f ∙ ap not e)
    at false a b e f = sym e

    low : (i : ℕ) → i < 16 → s i ≡ between idle busy s i
    low i lt = let t = lt-ltb i 16 lt in at (s i) (idle i) (busy i) (none i) (ap (λ q. q i) all ∙ rw t refl)
