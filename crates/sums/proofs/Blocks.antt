-- The sums of an item, and of a block from those of its lines.
use Rattle.std.proofs.Common.{◌≡◌, ℕ, Bool, true, false, cond, not, ◌&&◌, ◌||◌, [], ◌∷◌, ◌++◌, Some, Option, refl, ap, ◌∙◌, ap₂}
use Rattle.rules.specs.declared.item_type.ItemType.{ItemType}
use Rattle.rules.specs.declared.kind.Kind.{Kind}
use Rattle.rules.specs.declared.kind.Kind.TheVariants.{Series, Parallel}
use Rattle.rules.specs.Trees.{Tree, item, block, items, works}
use Rattle.sums.specs.Semiring.{Meaning, Semiring}
use Rattle.sums.specs.States.{all_failed, put}
use Rattle.sums.specs.Sums.{figure, sum_over, working_sum, failing_sum}
use Rattle.sums.specs.Members.{Apart}
use Rattle.sums.specs.Blocks.{block_working, block_failing, BlockSumsStand}
use Rattle.sums.proofs.States.{put_same, none_plus}
use Rattle.sums.proofs.Pivot.{works_blind, sum_as, pivot, sum_none, sum_all}

module _ {F : Type 0} {m : Meaning F} (laws : Semiring m) (types : ℕ → Option ItemType) where
  -- one item, under a test of whether it works
  sum_item : (n : ℕ) (p : Bool → Bool) → sum_over m types (n ∷ []) (λ s. p (s n))
      ≡ m.plus (cond (p true) (figure m (types n) true) m.none) (cond (p false) (figure m (types n) false) m.none)
  sum_item n p =
      let g : Bool → F = λ v. cond (p v) (m.times (figure m (types n) v) m.unit) m.none in
      let side : (v : Bool) → g (put n v all_failed n) ≡ cond (p v) (figure m (types n) v) m.none = λ v.
      ap g (put_same n v all_failed) ∙ ap (λ w. cond (p v) w m.none) (laws.times_unit (figure m (types n) v)) in
      sum_as laws types (n ∷ []) (λ s. p (s n)) ∙ ap₂ m.plus (side true) (side false)

  item_working : (n : ℕ) (t : ItemType) → types n ≡ Some t → working_sum m types (item n) ≡ m.working t
  item_working n t e = sum_item n (λ v. v) ∙ laws.plus_none _ ∙ ap (λ o. figure m o true) e

  item_failing : (n : ℕ) (t : ItemType) → types n ≡ Some t → failing_sum m types (item n) ≡ m.failed t
  item_failing n t e = sum_item n not ∙ none_plus laws _ ∙ ap (λ o. figure m o false) e

  module _ (x y : Tree) (apart : Apart (items x) (items y)) where
    -- any test of two lines
    two-lines : (f : Bool → Bool → Bool) → sum_over m types (items x ++ items y) (λ s. f (works x s) (works y s))
        ≡ m.plus (m.times (working_sum m types x) (sum_over m types (items y) (λ s. f true (works y s))))
        (m.times (failing_sum m types x) (sum_over m types (items y) (λ s. f false (works y s))))
    two-lines f = pivot laws types x (items y) apart (λ v s. f v (works y s)) (λ v i n w s. ap (f v) (works_blind y (items x) apart i n w s))

    -- if the first line works, the second decides, and if not, nothing passes; and the other way round
    only-working : (a b c : F) → c ≡ m.none → m.plus a (m.times b c) ≡ a
    only-working a b c e = ap (λ z. m.plus a (m.times b z)) e ∙ ap (m.plus a) (laws.times_none b) ∙ laws.plus_none a

    only-failing : (a b c : F) → b ≡ m.none → m.plus (m.times a b) c ≡ c
    only-failing a b c e = ap (λ z. m.plus (m.times a z) c) e ∙ ap (λ z. m.plus z c) (laws.times_none a) ∙ none_plus laws c

    sums-of-block : (k : Kind)
        → (working_sum m types (block k x y) ≡ block_working m k (working_sum m types x) (failing_sum m types x) (working_sum m types y) (failing_sum m types y))
        × (failing_sum m types (block k x y) ≡ block_failing m k (working_sum m types x) (failing_sum m types x) (working_sum m types y) (failing_sum m types y))
    sums-of-block Series = (
      two-lines ◌&&◌ ∙ only-working _ _ _ (sum_none laws types (items y)),
      two-lines (λ u v. not (u && v)) ∙ ap₂ m.plus refl (ap (m.times _) (sum_all laws types (items y) (works y))),
    )
    sums-of-block Parallel = (
      two-lines ◌||◌ ∙ ap₂ m.plus (ap (m.times _) (sum_all laws types (items y) (works y))) refl,
      two-lines (λ u v. not (u || v)) ∙ only-failing _ _ _ (sum_none laws types (items y)),
    )

pub block_sums_stand_lem : {F : Type 0} {m : Meaning F} → Semiring m → BlockSumsStand m
block_sums_stand_lem laws = record {
  item_working = item_working laws;
  item_failing = item_failing laws;
  working = λ types k x y once. (sums-of-block laws types x y once.0 k).0;
  failing = λ types k x y once. (sums-of-block laws types x y once.0 k).1;
}
