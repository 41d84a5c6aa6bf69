-- Which lines of a book work, told by the history that it keeps.
use Rattle.std.proofs.Common.{◌≡◌, ℕ, zero, suc, ◌<◌, ◌≤◌, Bool, true, false, ◌&&◌, ◌||◌, eqb, List, [], ◌∷◌, ◌++◌, is_some, Some, None, Ok, Err, Option, Result, sym, refl, ap, ◌∙◌, ap₂, ⊎_elim, arith}
use mathlib.Core.Path.{fun_ext}
use mathlib.Core.Bool.{or_assoc}
use Rattle.std.specs.Option.{option_map, option_to_list}
use Rattle.std.specs.Result.{result_unwrap_or}
use Rattle.std.proofs.lemmas.Bool.{cases_lt, cases_eq}
use Rattle.rules.specs.declared.item_type.ItemType.{ItemType}
use Rattle.rules.specs.declared.kind.Kind.{Kind}
use Rattle.rules.specs.declared.line.Line.{Line}
use Rattle.rules.specs.declared.line.Part.{Part}
use Rattle.rules.specs.declared.line.Part.TheVariants.{Item, Block}
use Rattle.rules.specs.declared.part_number.PartNumber.{PartNumber}
use Rattle.rules.specs.declared.refusal.Refusal.{Refusal}
use Rattle.rules.specs.Kinds.{block_works}
use Rattle.rules.specs.History.{History, given, standing, is_built_in, has, line_of, listing, lines_of}
use Rattle.rules.specs.Rules.{Refused, Decided}
use Rattle.rules.specs.Ruled.{naming, Lawful}
use Rattle.rules.specs.Trees.{State, Tree, item, block, works, tree_of}
use Rattle.rules.proofs.Sound.{sound}
use Rattle.rules.proofs.Tables.{line}
use Rattle.sums.specs.Order.{placed}
use Rattle.sums.specs.Places.{rising_in}
use Rattle.sums.specs.States.{all_failed, put}
use Rattle.sums.proofs.Forest.{lines_stand, lines_low, tree_item, tree_block}
use Rattle.sums.proofs.Listed.{works_agree}
use Rattle.sums.proofs.Members.{has_to}
use Rattle.sums.proofs.Numbers.{numbers_semiring}
use Rattle.sums.proofs.Places.{places_stand_lem}
use Rattle.sums.proofs.States.{put_same, put_other}
use Rattle.place_set.proofs.Masks.{bit_none}
use Rattle.plan.specs.LinePlans.{plan_of_line}
use Rattle.survey.proofs.Folds.{named_stands}
use Rattle.survey.proofs.Places.{answer_stands}
use Rattle.line_plan.specs.declared.item_list.TypedItem.{TypedItem}
use Rattle.line_plan.specs.Items.{state_of}
use Rattle.line_plan.specs.Beneath.{stands_and, Marks, ItemsBeneath}
use Rattle.line_plan.specs.Meanings.{part_works, lines_work, plan_over}

lines_append : (s : State) (xs ys : List Line) (w : State) → lines_work s w (xs ++ ys) ≡ lines_work s (lines_work s w xs) ys
lines_append s [] ys w = refl
lines_append s (l ∷ xs) ys w = lines_append s xs ys (put l.number.value (part_works s w l.number.value l.part) w)

-- what stands under a number that the book was asked about
pub answered : (h : History) (n : ℕ) (x : Line) (p : Part) → line_of h n ≡ Some x → x.part ≡ p → standing h n ≡ Some p
answered h n x p found e = answer_stands h n x found ∙ ap Some e

-- an item is in either list
pub has_append : (is js : List ℕ) (i : ℕ) → has (is ++ js) i ≡ (has is i || has js i)
has_append [] js i = refl
has_append (j ∷ is) js i = ap (λ x. eqb i j || x) (has_append is js i) ∙ sym (or_assoc (eqb i j) (has is i) (has js i))

module _ (h : History) (l : Lawful h) where
  pub none_refused : (n : ℕ) (e : Refusal) → Refused (naming h n) e → standing h n ≡ None
  none_refused n e w =
      ⊎_elim
      (λ v. ⊎_elim (λ z. ap (standing h) z ∙ (sound h l).at_zero) ((sound h l).above n) v.0)
      (λ v. ⊎_elim (λ u. u.0) (λ u. absurd u.1) v.1)
      w

  module _ (test : Tree → Bool) where
    pub stands_none : (n : ℕ) → standing h n ≡ None → stands_and h n test ≡ false
    stands_none n e = ap (λ (p : Option Part). is_some p && test (tree_of h n)) e

    pub stands_tree : (n : ℕ) → is_some (standing h n) ≡ true → stands_and h n test ≡ test (tree_of h n)
    stands_tree n e = ap (λ x. x && test (tree_of h n)) e

    pub stands_item : (n : ℕ) (t : ItemType) → standing h n ≡ Some (Item t) → stands_and h n test ≡ test (item n)
    stands_item n t e = stands_tree n (ap is_some e) ∙ ap test (tree_item h l n t e)

    -- a test that goes by the two lines of a block
    pub both_lines : (op : Kind → Bool → Bool → Bool) → ((k : Kind) (x y : Tree) → test (block k x y) ≡ op k (test x) (test y))
        → (n : ℕ) (k : Kind) (a b : PartNumber) → standing h n ≡ Some (Block k a b) → (p q : Bool) → p ≡ stands_and h a.value test → q ≡ stands_and h b.value test
        → op k p q ≡ stands_and h n test
    both_lines op joins n k a b e p q ep eq =
        let on = lines_stand h l n k a b e in
        ap₂ (op k) (ep ∙ stands_tree a.value on.0) (eq ∙ stands_tree b.value on.1)
        ∙ sym (joins k (tree_of h a.value) (tree_of h b.value))
        ∙ sym (stands_tree n (ap is_some e) ∙ ap test (tree_block h l n k a b e))

  -- the marks that a question answers, with none for a line that does not stand
  pub unwrap_marks : (test : ℕ → Tree → Bool) (n : ℕ) (r : Result ℕ Refusal) → Decided (naming h n) (λ v. Marks h v (λ m. test m (tree_of h n))) r
      → Marks h (result_unwrap_or r 0) (λ m. stands_and h n (test m))
  unwrap_marks test n (Ok v) d i m at = d.1 i m at ∙ sym (stands_tree (test m) n (named_stands (standing h n) d.0.1.0))
  unwrap_marks test n (Err e) w i m at = bit_none i ∙ sym (stands_none (test m) n (none_refused n e w))

  module _ (s : State) where
    abbrev runs : Tree → Bool
    runs x = works x s

    -- which lines with numbers up to m work
    abbrev upto : ℕ → State
    upto m = lines_work s all_failed (listing (line_of h) m)

    -- what the line m changes, which is what is known of itself
    other : (m n : ℕ) (p : Option Part) (v : Bool) (w : State) → (m ≡ n → ⊥) → lines_work s w (option_to_list (option_map (λ q. line m q v) p)) n ≡ w n
    other m n None v w ne = refl
    other m n (Some q) v w ne = put_other m n ne (part_works s w m q) w

    next_other : (m n : ℕ) → (suc m ≡ n → ⊥) → upto (suc m) n ≡ upto m n
    next_other m n ne =
        ap (λ (w : State). w n) (lines_append s (listing (line_of h) m) (option_to_list (line_of h (suc m))) all_failed)
        ∙ other (suc m) n (standing h (suc m)) (is_built_in h (suc m)) (upto m) ne

    above : (m n : ℕ) → m < n → upto m n ≡ false
    above zero n lt = refl
    above (suc m) n lt = next_other m n (λ e. omega arith) ∙ above m n (omega arith)

    below : (m n : ℕ) → n ≤ m → upto m n ≡ stands_and h n runs
    below zero n le = let e : n ≡ 0 = omega arith in sym (stands_none runs n (ap (standing h) e ∙ (sound h l).at_zero))
    below (suc m) n le =
        ⊎_elim
        (λ (e : suc m ≡ n). ap (upto (suc m)) (sym e)
        ∙ ap (λ (w : State). w (suc m)) (lines_append s (listing (line_of h) m) (option_to_list (line_of h (suc m))) all_failed)
        ∙ at (standing h (suc m)) refl (below m)
        ∙ ap (λ i. stands_and h i runs) e)
        (λ ne. next_other m n ne ∙ below m n (omega arith))
        (cases_eq (suc m) n)
      where
        at : (p : Option Part) → standing h (suc m) ≡ p → ((i : ℕ) → i ≤ m → upto m i ≡ stands_and h i runs) → lines_work s (upto m) (option_to_list (option_map (λ q. line (suc m) q (is_built_in h (suc m))) p)) (suc m) ≡ stands_and h (suc m) runs
        at None e before = above m (suc m) (omega arith) ∙ sym (stands_none runs (suc m) e)
        at (Some (Item t)) e before = put_same (suc m) (s (suc m)) (upto m) ∙ sym (stands_item runs (suc m) t e)
        at (Some (Block k a b)) e before =
            let low = lines_low h l (suc m) k a b e in
            put_same (suc m) (block_works k (upto m a.value) (upto m b.value)) (upto m)
            ∙ both_lines runs block_works (λ _ _ _. refl) (suc m) k a b e (upto m a.value) (upto m b.value)
            (before a.value (omega (arith, low.0))) (before b.value (omega (arith, low.1)))

    -- a line of the book works if it stands and its tree works
    pub line_runs : (n : ℕ) → lines_work s all_failed (lines_of h) n ≡ stands_and h n runs
    line_runs n = ⊎_elim (λ lt. above (given h) n lt ∙ sym (stands_none runs n ((sound h l).above n lt))) (below (given h) n) (cases_lt (given h) n)

  -- the plan of a standing line
  pub plan_is : (n : ℕ) → is_some (standing h n) ≡ true → (is : List TypedItem) → ItemsBeneath h n is → plan_over (lines_of h) n is ≡ plan_of_line h n
  plan_is n on is b = ap₂ (λ t w. record { types = t; works = w }) b.types
      (fun_ext (λ q. line_runs (state_of is q) n ∙ stands_tree (runs (state_of is q)) n on ∙ works_agree (tree_of h n) (state_of is q) (placed (rising_in h n) q)
      (λ i m. ap (λ ns. has ns i && placed ns q i) b.rising
      ∙ ap (λ x. x && placed (rising_in h n) q i) (has_to (rising_in h n) i (((places_stand_lem (numbers_semiring (λ _. 0) (λ _. 0)) h l n on).alike i).1 m)))))
