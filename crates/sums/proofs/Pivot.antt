-- A sum over states, by whether one line works: the sums of every block follow from it.
use Rattle.std.proofs.Common.{◌≡◌, ℕ, Bool, true, false, cond, not, List, [], ◌∷◌, ◌++◌, Option, sym, refl, ap, ◌∙◌, ap₂}
use mathlib.Core.Path.{fun_ext}
use mathlib.Core.List.Memᴰ
use Rattle.rules.specs.declared.item_type.ItemType.{ItemType}
use Rattle.rules.specs.Kinds.{block_works}
use Rattle.rules.specs.Trees.{State, Tree, item, block, items, works}
use Rattle.sums.specs.Semiring.{Meaning, Semiring}
use Rattle.sums.specs.States.{all_failed, states, total, keep}
use Rattle.sums.specs.Sums.{figure, weight, sum_over, working_sum, failing_sum}
use Rattle.sums.specs.Members.{Apart}
use Rattle.sums.proofs.States.{over, Blind, put_other, none_plus, none_times, unit_times, total_keep, total_states, over_plus, over_times}

-- a line does not depend on what is not beneath it
pub works_blind : (x : Tree) (is : List ℕ) → Apart is (items x) → Blind is (works x)
works_blind (item n) is apart i m v s = put_other i n (λ e. apart i m (Memᴰ.head e)) v s
works_blind (block k x y) is apart i m v s =
    ap₂ (block_works k)
    (works_blind x is (λ j n o. apart j n (Memᴰ.append_left (items y) o)) i m v s)
    (works_blind y is (λ j n o. apart j n (Memᴰ.append_right (items x) o)) i m v s)

module _ {F : Type 0} {m : Meaning F} (laws : Semiring m) (types : ℕ → Option ItemType) where
  weight_blind : (is js : List ℕ) → Apart is js → Blind is (weight m types js)
  weight_blind is [] apart i n v s = refl
  weight_blind is (j ∷ js) apart i n v s =
      ap₂ m.times
      (ap (figure m (types j)) (put_other i j (λ e. apart i n (Memᴰ.head e)) v s))
      (weight_blind is js (λ k o p. apart k o (Memᴰ.tail p)) i n v s)

  weight_append : (is js : List ℕ) (s : State) → weight m types (is ++ js) s ≡ m.times (weight m types is s) (weight m types js s)
  weight_append [] js s = sym (unit_times laws _)
  weight_append (i ∷ is) js s = ap (m.times _) (weight_append is js s) ∙ sym (laws.times_assoc _ _ _)

  -- what a state adds to the sum over the states that pass the test
  abbrev pub share : List ℕ → (State → Bool) → State → F
  share is p s = cond (p s) (weight m types is s) m.none

  pub sum_as : (is : List ℕ) (p : State → Bool) → sum_over m types is p ≡ over m is all_failed (share is p)
  sum_as is p = total_keep laws (weight m types is) p (states is all_failed) ∙ total_states laws is all_failed (share is p)

  share_blind : (is js : List ℕ) (p : State → Bool) → Apart is js → Blind is p → Blind is (share js p)
  share_blind is js p apart blind i n v s = ap₂ (λ b w. cond b w m.none) (blind i n v s) (weight_blind is js apart i n v s)

  -- a product under a test of x, by whether x holds
  by_cases : (x : Bool) (p : Bool → Bool) (u v : F)
      → cond (p x) (m.times u v) m.none
      ≡ m.plus (m.times (cond x u m.none) (cond (p true) v m.none)) (m.times (cond (not x) u m.none) (cond (p false) v m.none))
  by_cases x p u v = at x
    where
      inside : (b : Bool) → m.times u (cond b v m.none) ≡ cond b (m.times u v) m.none
      inside true = refl
      inside false = laws.times_none u

      at : (x : Bool) → cond (p x) (m.times u v) m.none
          ≡ m.plus (m.times (cond x u m.none) (cond (p true) v m.none)) (m.times (cond (not x) u m.none) (cond (p false) v m.none))
      at true = sym (ap (m.plus _) (none_times laws _) ∙ laws.plus_none _ ∙ inside (p true))
      at false = sym (ap (λ a. m.plus a (m.times u (cond (p false) v m.none))) (none_times laws _) ∙ none_plus laws _ ∙ inside (p false))

  -- the states of the items beneath x and of others, by whether x works
  pub pivot : (x : Tree) (is : List ℕ) → Apart (items x) is → (p : Bool → State → Bool) → ((v : Bool) → Blind (items x) (p v))
      → sum_over m types (items x ++ is) (λ s. p (works x s) s)
      ≡ m.plus (m.times (working_sum m types x) (sum_over m types is (p true))) (m.times (failing_sum m types x) (sum_over m types is (p false)))
  pivot x is apart p blind =
      let back : Apart is (items x) = λ j n o. apart j o n in
      let fails : State → Bool = λ s. not (works x s) in
      let fails-blind : Blind is fails = λ i n v s. ap not (works_blind x is back i n v s) in
      let part : (q : State → Bool) → Blind is q → (v : Bool)
      → over m (items x ++ is) all_failed (λ s. m.times (share (items x) q s) (share is (p v) s)) ≡ m.times (sum_over m types (items x) q) (sum_over m types is (p v)) = λ q b v.
      over_times laws (items x) is all_failed (share (items x) q) (share is (p v)) apart (share_blind is (items x) q back b) (share_blind (items x) is (p v) apart (blind v))
      ∙ ap₂ m.times (sym (sum_as (items x) q)) (sym (sum_as is (p v))) in
      sum_as (items x ++ is) (λ s. p (works x s) s)
      ∙ ap (over m (items x ++ is) all_failed)
      (fun_ext (λ s. ap (λ w. cond (p (works x s) s) w m.none) (weight_append (items x) is s) ∙ by_cases (works x s) (λ v. p v s) (weight m types (items x) s) (weight m types is s)))
      ∙ over_plus laws (items x ++ is) all_failed (λ s. m.times (share (items x) (works x) s) (share is (p true) s)) (λ s. m.times (share (items x) fails s) (share is (p false) s))
      ∙ ap₂ m.plus (part (works x) (works_blind x is back) true) (part fails fails-blind false)

  -- over no state
  pub sum_none : (is : List ℕ) → sum_over m types is (λ s. false) ≡ m.none
  sum_none is = ap (total m.none m.plus (weight m types is)) (kept (states is all_failed))
    where
      kept : (ss : List State) → keep (λ s. false) ss ≡ []
      kept [] = refl
      kept (s ∷ ss) = kept ss

  -- over every state
  pub sum_all : (is : List ℕ) (p : State → Bool) → sum_over m types is (λ s. true) ≡ m.plus (sum_over m types is p) (sum_over m types is (λ s. not (p s)))
  sum_all is p =
      sum_as is (λ s. true)
      ∙ ap (over m is all_failed) (fun_ext (λ s. either (p s) (weight m types is s)))
      ∙ over_plus laws is all_failed (share is p) (share is (λ s. not (p s)))
      ∙ ap₂ m.plus (sym (sum_as is p)) (sym (sum_as is (λ s. not (p s))))
    where
      either : (b : Bool) (w : F) → w ≡ m.plus (cond b w m.none) (cond (not b) w m.none)
      either true w = sym (laws.plus_none w)
      either false w = sym (none_plus laws w)
