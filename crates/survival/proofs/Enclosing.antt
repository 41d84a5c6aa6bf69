-- The low and the high of a tree enclose its exact sum.
use Rattle.std.proofs.Common.{◌≡◌, ℕ, suc, ◌+◌, ◌-◌, ◌*◌, ◌^◌, ◌<◌, ◌≤◌, true, length, is_some, Some, Option, sym, refl, ap, ◌∙◌, subst, ap₂, arith, lit<, length-append, pow-add}
use mathlib.Core.List.Memᴰ
use native.Mathlib.Nat.{pow-succ'}
use Rattle.rules.specs.declared.item_type.ItemType.{ItemType}
use Rattle.rules.specs.declared.kind.Kind.{Kind}
use Rattle.rules.specs.declared.kind.Kind.TheVariants.{Series, Parallel}
use Rattle.rules.specs.History.{History, standing}
use Rattle.rules.specs.Ruled.{Lawful}
use Rattle.rules.specs.Trees.{Tree, item, block, items, tree_of, type_in}
use Rattle.sums.specs.Semiring.{Semiring}
use Rattle.sums.specs.Sums.{working_sum, failing_sum}
use Rattle.sums.specs.Members.{◌∈◌, Once}
use Rattle.sums.specs.Blocks.{block_working, block_failing}
use Rattle.sums.proofs.Blocks.{block_sums_stand_lem}
use Rattle.sums.proofs.Forest.{trees_stand_lem}
use Rattle.sums.proofs.Numbers.{numbers_semiring}
use Rattle.survival.specs.LowHigh.{S, block_low, block_high, low, high, item_share, by_shares, Encloses}
use Rattle.survival.proofs.Rounding.{Bounded, bounded_series, bounded_parallel, moved}

whole_numbers : (share : ItemType → ℕ) → Semiring (by_shares share)
whole_numbers share = numbers_semiring share (λ t. S - share t)

-- how many items the tree has besides one
others : Tree → ℕ
others (item n) = 0
others (block k x y) = suc (others x + others y)

others_items : (x : Tree) → length (items x) ≡ suc (others x)
unfolding others
others_items (item n) = refl
others_items (block k x y) = length-append (items x) (items y) ∙ ap₂ ◌+◌ (others_items x) (others_items y) ∙ omega arith

power : (i j : ℕ) → S ^ suc (i + j) ≡ S * (S ^ i * S ^ j)
power i j = pow-succ' S (i + j) ∙ ap (λ x. S * x) (pow-add S i j)

pos : 0 < S
pos = lit< tt

-- each item of the tree has a type
abbrev Typed : (ℕ → Option ItemType) → Tree → Type 0
Typed types x = (i : ℕ) → i ∈ items x → (t : ItemType) × (types i ≡ Some t)

module _ (share : ItemType → ℕ) where
  -- a block of each kind keeps the bounds
  bounded_block : (k : Kind) {p l u w f j p' l' u' w' f' j' : ℕ} → Bounded S pos p l u w f j → Bounded S pos p' l' u' w' f' j'
      → Bounded S pos (S * (p * p')) (block_low k l l') (block_high k u u') (block_working (by_shares share) k w f w' f') (block_failing (by_shares share) k w f w' f') (suc (j + j'))
  bounded_block Series x y = bounded_series S pos x y
  bounded_block Parallel x y = bounded_parallel S pos x y

  bounded_item : (t : ItemType) → share t ≤ S → Bounded S pos (S ^ 0) (share t) (share t) (share t) (S - share t) 0
  bounded_item t small = record {
    order = omega arith;
    top = small;
    below = omega arith;
    above = omega arith;
    all = omega arith;
    near = omega arith;
  }

  module _ (types : ℕ → Option ItemType) (small : (t : ItemType) → share t ≤ S) where
    bounded : (x : Tree) → Once x → Typed types x
        → Bounded S pos (S ^ others x) (low share types x) (high share types x) (working_sum (by_shares share) types x) (failing_sum (by_shares share) types x) (others x)
    unfolding others
    bounded (item n) once typed =
        let sums = block_sums_stand_lem (whole_numbers share) in
        let t = typed n (Memᴰ.head refl) in
        let e = ap (item_share share) t.1 in
        subst (λ (v : ℕ). Bounded S pos (S ^ 0) v v (working_sum (by_shares share) types (item n)) (failing_sum (by_shares share) types (item n)) 0) (sym e)
        (moved S pos refl (sums.item_working types n t.0 t.1) (sums.item_failing types n t.0 t.1) (bounded_item t.0 (small t.0)))
    bounded (block k x y) once typed =
        let sums = block_sums_stand_lem (whole_numbers share) in
        moved S pos (power (others x) (others y)) (sums.working types k x y once) (sums.failing types k x y once)
        (bounded_block k (bounded x once.1 (λ i m. typed i (Memᴰ.append_left (items y) m))) (bounded y once.2 (λ i m. typed i (Memᴰ.append_right (items x) m))))

    pub tree-encloses : (x : Tree) → Once x → Typed types x → Encloses share types x (low share types x) (high share types x)
    tree-encloses x once typed =
        let b = bounded x once typed in
        let e : length (items x) - 1 ≡ others x = omega (arith, others_items x) in
        record {
          below = rw e b.below;
          above = rw e b.above;
          order = b.order;
          gap = omega (arith, b.near, e);
        }

-- so do those of every standing line
pub encloses : (share : ItemType → ℕ) → ((t : ItemType) → share t ≤ S) → (h : History) → Lawful h → (n : ℕ) → is_some (standing h n) ≡ true
    → Encloses share (type_in h) (tree_of h n) (low share (type_in h) (tree_of h n)) (high share (type_in h) (tree_of h n))
encloses share small h l n on = let s = trees_stand_lem h l n on in tree-encloses share (type_in h) small (tree_of h n) s.once s.typed
