-- The survey's way of reckoning a standing line under the signature, and the long count of its plan.
use Rattle.std.proofs.Common.{◌≡◌, ℕ, zero, suc, ◌+◌, ◌%◌, ◌<◌, ◌≤◌, Bool, true, false, cond, ◌&&◌, List, [], ◌∷◌, length, get_or, is_some, Some, None, Option, sym, refl, ap, ◌∙◌, mod-eq_of_lt, arith}
use Rattle.std.specs.Option.{option_to_list}
use Rattle.rules.specs.declared.item_type.ItemType.{ItemType}
use Rattle.rules.specs.declared.line.Part.{Part}
use Rattle.rules.specs.declared.line.Part.TheVariants.{Item, Block}
use Rattle.rules.specs.Types.{type_number}
use Rattle.rules.specs.History.{History, given, standing, has, how_many, is_item_of, listing}
use Rattle.rules.specs.Rules.{Allowed}
use Rattle.rules.specs.Ruled.{Lawful}
use Rattle.rules.specs.Trees.{items, tree_of, type_at, type_in}
use Rattle.rules.proofs.Counting.{how_many_same}
use Rattle.rules.proofs.Limits.{few_of_type}
use Rattle.sums.specs.States.{range, keep, count, states_passing}
use Rattle.sums.specs.ByType.{is_type, numbers_work}
use Rattle.sums.specs.Places.{rising_in}
use Rattle.sums.specs.Sums.{working_sum}
use Rattle.sums.proofs.Forest.{tree_once}
use Rattle.sums.proofs.Members.{once_distinct}
use Rattle.sums.proofs.Order.{count_order}
use Rattle.sums.proofs.Places.{places_stand_lem}
use Rattle.cells.specs.Tables.{at}
use Rattle.cells.proofs.Tables.{same_cells}
use Rattle.signature.specs.Signature.{signature}
use Rattle.signature.specs.Laws.{signature_semiring}
use Rattle.signature.proofs.Counted.{sum_counts}
use Rattle.plan.specs.LinePlans.{plan_of_line}
use Rattle.place_set.proofs.Masks.{count_range}
use Rattle.plan.proofs.LinePlans.{rising_alike, rising_in_distinct, few_rising, place_filled, place_empty, line_plan_lawful}
use Rattle.count.specs.Counts.{is_of_type, places, places_of, working_states, count_rules}
use Rattle.count.proofs.Over.{count_append}
use Rattle.count.proofs.Choosing.{working_bounded}
use Rattle.count.proofs.Tables.{long_counted}
use Rattle.agreement.specs.Agreement.{AllWaysAgree}

-- a test that the first n of the numbers from k on pass, and no later one, keeps these
keep_none : (q : ℕ → Bool) (k m : ℕ) → ((i : ℕ) → k ≤ i → q i ≡ false) → keep q (range k m) ≡ []
keep_none q k zero none = refl
keep_none q k (suc m) none = rw (none k (omega arith)) (keep_none q (suc k) m (λ i le. none i (omega arith)))

keep_first : (q : ℕ → Bool) (k n m : ℕ) → n ≤ m → ((i : ℕ) → k ≤ i → i < k + n → q i ≡ true) → ((i : ℕ) → k + n ≤ i → q i ≡ false)
    → keep q (range k m) ≡ range k n
keep_first q k zero m le first none = keep_none q k m (λ i ki. none i (omega arith))
keep_first q k (suc n) zero le first none = absurd (omega arith)
keep_first q k (suc n) (suc m) le first none =
    rw (first k (omega arith) (omega arith))
    (ap (λ is. k ∷ is) (keep_first q (suc k) n m (omega arith) (λ i ki lt. first i (omega arith) (omega arith)) (λ i ge. none i (omega arith))))

-- a count over a list is one over its places
count_placed : (q : ℕ → Bool) (ns : List ℕ) → count (λ p. q (get_or ns p 0)) (range 0 (length ns)) ≡ count q ns
count_placed q [] = refl
count_placed q (n ∷ ns) = count_range (λ p. q (get_or (n ∷ ns) p 0)) (length ns) ∙ ap (λ m. cond (q n) 1 0 + m) (count_placed q ns)

-- of some of the numbers from 1 to m no more pass a test than of all
listing_fewer : (some q : ℕ → Bool) (m : ℕ) → count q (listing (λ i. cond (some i) (Some i) None) m) ≤ how_many m q
listing_fewer some q zero = omega arith
listing_fewer some q (suc m) =
    omega (arith, count_append q (listing (λ i. cond (some i) (Some i) None) m) (option_to_list (cond (some (suc m)) (Some (suc m)) None)), one (some (suc m)) (suc m), listing_fewer some q m)
  where
    one : (v : Bool) (i : ℕ) → count q (option_to_list (cond v (Some i) None)) ≤ cond (q i) 1 0
    one true i = omega arith
    one false i = omega arith

-- an item of a type by the type's number
item_of : (t : ItemType) (p : Option Part) → is_type t (type_at p) ≡ is_item_of (type_number t) p
item_of t None = refl
item_of t (Some (Item u)) = refl
item_of t (Some (Block k a b)) = refl

module _ (h : History) (l : Lawful h) (n : ℕ) (on : is_some (standing h n) ≡ true) where
  -- the plan's places are the first ones, one for each item
  pub line_places : places (plan_of_line h n) ≡ range 0 (length (rising_in h n))
  unfolding places
  line_places =
      keep_first (λ p. is_some ((plan_of_line h n).types p)) 0 (length (rising_in h n)) 16 (few_rising h l n on)
      (λ p ge lt. place_filled h l n on p (omega arith))
      (λ p ge. ap is_some (place_empty h l n on p (omega arith)))

  rising_of : (t : ItemType) → places_of (plan_of_line h n) t ≡ count (λ i. is_type t (type_in h i)) (rising_in h n)
  rising_of t = ap (count (is_of_type (plan_of_line h n) t)) line_places ∙ count_placed (λ i. is_type t (type_in h i)) (rising_in h n)

  -- at most 7 items of a type stand, and so no more lie beneath a line
  pub few_places : (t : ItemType) → places_of (plan_of_line h n) t ≤ 7
  few_places t =
      omega (
        arith,
        rising_of t,
        listing_fewer (has (items (tree_of h n))) (λ i. is_type t (type_in h i)) (given h),
        how_many_same (λ i. is_type t (type_in h i)) (λ i. is_item_of (type_number t) (standing h i)) (given h) (λ i lo hi. item_of t (standing h i)),
        few_of_type (type_number t) h l,
      )

  -- no cell reaches the modulus
  pub cells_count : (a b c : ℕ) → a < 8 → b < 8 → c < 8 → at (working_sum signature (type_in h) (tree_of h n)) a b c ≡ working_states (plan_of_line h n) a b c
  cells_count a b c la lb lc =
      ap (λ x. at x a b c) (sym (places_stand_lem signature_semiring h l n on).working)
      ∙ sum_counts (plan_of_line h n).types (range 0 (length (rising_in h n))) (plan_of_line h n).works a b c la lb lc
      ∙ ap (λ ps. states_passing ps (λ s. (plan_of_line h n).works s && numbers_work (plan_of_line h n).types ps a b c s) % 65536) (sym line_places)
      ∙ mod-eq_of_lt (omega (arith, working_bounded (plan_of_line h n) few_places a b c))

pub ways_agree_lem : AllWaysAgree
ways_agree_lem h l n on =
    let lawful = line_plan_lawful h l n on in
    let taken : Allowed (count_rules (plan_of_line h n)) = ((λ many. omega (arith, many.1, few_places h l n on many.0)), tt) in
    record {
      lawful = lawful;
      taken = taken;
      places = λ t. rising_of h l n on t
          ∙ count_order (rising_in h n) (items (tree_of h n)) (rising_in_distinct h l n on) (once_distinct (tree_of h n) (tree_once h l n on)) (rising_alike h l n on) (λ i. is_type t (type_in h i));
      counted = long_counted (plan_of_line h n) lawful taken (working_sum signature (type_in h) (tree_of h n)).cells (cells_count h l n on);
      only = λ x counted. same_cells x (working_sum signature (type_in h) (tree_of h n))
          (λ a b c la lb lc. counted.counts a b c la lb lc ∙ sym (cells_count h l n on a b c la lb lc));
    }
