-- The items beneath a line, picked from the lines of a book.
use Rattle.std.proofs.Common.{◌≡◌, ℕ, zero, suc, ◌+◌, ◌<◌, ◌≤◌, Bool, true, false, cond, List, [], ◌∷◌, ◌++◌, length, get_or, drop, is_some, Some, None, Option, sym, refl, ap, ◌∙◌, subst, ap₂, arith}
use mathlib.Core.Path.{fun_ext}
use Rattle.std.specs.Option.{option_map, option_to_list}
use Rattle.std.proofs.lemmas.List.{append_assoc, map-append, length-map, drop_more}
use Rattle.std.proofs.lemmas.Bool.{both_ways}
use Rattle.rules.specs.declared.item_type.ItemType.{ItemType}
use Rattle.rules.specs.declared.line.Line.{Line}
use Rattle.rules.specs.declared.line.Part.{Part}
use Rattle.rules.specs.declared.line.Part.TheVariants.{Item, Block}
use Rattle.rules.specs.declared.part_number.PartNumber.{PartNumber}
use Rattle.rules.specs.Tables.{no_line}
use Rattle.rules.specs.Lines.{type_of_part}
use Rattle.rules.specs.History.{History, given, standing, is_built_in, has, is_item, line_of, listing, lines_of}
use Rattle.rules.specs.Ruled.{Lawful}
use Rattle.rules.specs.Trees.{items, tree_of, type_at, type_in}
use Rattle.rules.proofs.Counting.{how_many_fewer}
use Rattle.rules.proofs.Limits.{few_items}
use Rattle.rules.proofs.Listings.{listing_length}
use Rattle.rules.proofs.Sound.{sound}
use Rattle.rules.proofs.Tables.{line}
use Rattle.sums.specs.Order.{rising_upto}
use Rattle.sums.proofs.Forest.{tree_stands, item_stands}
use Rattle.sums.proofs.Members.{has_from}
use Rattle.line_plan.specs.declared.item_list.TypedItem.{TypedItem}
use Rattle.line_plan.specs.Items.{numbers, types_of}
use Rattle.line_plan.specs.Beneath.{ItemsBeneath}

-- the item n of the type t, if the test is passed
abbrev pub one_if : Bool → PartNumber → Option ItemType → List TypedItem
one_if true n (Some t) = record { number = n; item_type = t } ∷ []
one_if true n None = []
one_if false n t = []

-- those of the lines that are items among is
abbrev pub picked : List ℕ → List Line → List TypedItem
picked is [] = []
picked is (l ∷ ls) = one_if (has is l.number.value) l.number (type_of_part l.part) ++ picked is ls

picked_append : (is : List ℕ) (xs ys : List Line) → picked is (xs ++ ys) ≡ picked is xs ++ picked is ys
picked_append is [] ys = refl
picked_append is (l ∷ xs) ys =
    ap (λ zs. one_if (has is l.number.value) l.number (type_of_part l.part) ++ zs) (picked_append is xs ys)
    ∙ sym (append_assoc (one_if (has is l.number.value) l.number (type_of_part l.part)) (picked is xs) (picked is ys))

-- the line at the place i is picked, or passed over
module _ (is : List ℕ) (ls : List Line) (i : ℕ) (lt : i < length ls) where
  abbrev here : Line
  here = get_or ls i no_line

  split : picked is (drop i ls) ≡ one_if (has is here.number.value) here.number (type_of_part here.part) ++ picked is (drop (i + 1) ls)
  split = ap (picked is) (drop_more ls i no_line lt)

  pub picked_one : (t : ItemType) → has is here.number.value ≡ true → here.part ≡ Item t
      → picked is (drop i ls) ≡ record { number = here.number; item_type = t } ∷ picked is (drop (i + 1) ls)
  picked_one t on e = split ∙ ap₂ (λ (x : Bool) (p : Part). one_if x here.number (type_of_part p) ++ picked is (drop (i + 1) ls)) on e

  pub passed_other : has is here.number.value ≡ false → picked is (drop i ls) ≡ picked is (drop (i + 1) ls)
  passed_other off = split ∙ ap (λ (x : Bool). one_if x here.number (type_of_part here.part) ++ picked is (drop (i + 1) ls)) off

  pub passed_block : type_of_part here.part ≡ None → picked is (drop i ls) ≡ picked is (drop (i + 1) ls)
  passed_block e =
      split ∙ ap (λ (t : Option ItemType). one_if (has is here.number.value) here.number t ++ picked is (drop (i + 1) ls)) e
      ∙ at (has is here.number.value)
    where
      at : (x : Bool) → one_if x here.number None ++ picked is (drop (i + 1) ls) ≡ picked is (drop (i + 1) ls)
      at true = refl
      at false = refl

-- each item has its type
abbrev Typed : History → List TypedItem → Type 0
Typed h [] = Unit {0}
Typed h (i ∷ is) = (type_in h i.number.value ≡ Some i.item_type) × Typed h is

typed_append : (h : History) (xs ys : List TypedItem) → Typed h xs → Typed h ys → Typed h (xs ++ ys)
typed_append h [] ys p q = q
typed_append h (i ∷ xs) ys p q = (p.0, typed_append h xs ys p.1 q)

module _ (h : History) (l : Lawful h) where
  types_read : (is : List TypedItem) → Typed h is → (p : ℕ) → types_of is p ≡ type_in h (get_or (numbers is) p 0)
  types_read [] t p = sym (ap type_at (sound h l).at_zero)
  types_read (i ∷ is) t zero = sym t.0
  types_read (i ∷ is) t (suc p) = types_read is t.1 p

  module _ (n : ℕ) (on : is_some (standing h n) ≡ true) where
    abbrev is : List ℕ
    is = items (tree_of h n)

    stands : (i : ℕ) → has is i ≡ true → (t : ItemType) × (standing h i ≡ Some (Item t))
    stands i e = item_stands h (tree_of h n) n (tree_stands h l n on) i (has_from is i e)

    one_number : (m : ℕ) → numbers (picked is (option_to_list (line_of h m))) ≡ option_to_list (cond (has is m) (Some m) None)
    one_number m = at (has is m) refl
      where
        part : (p : Option Part) (v : Bool) → has is m ≡ false → numbers (picked is (option_to_list (option_map (λ q. line m q v) p))) ≡ []
        part None v e = refl
        part (Some q) v e = ap (λ x. numbers (one_if x (record { value = m }) (type_of_part q) ++ [])) e

        at : (x : Bool) → has is m ≡ x → numbers (picked is (option_to_list (line_of h m))) ≡ option_to_list (cond x (Some m) None)
        at true e =
            let t = stands m e in
            ap (λ (p : Option Part). numbers (picked is (option_to_list (option_map (λ q. line m q (is_built_in h m)) p)))) t.1
            ∙ ap (λ x. numbers (one_if x (record { value = m }) (Some t.0) ++ [])) e
        at false e = part (standing h m) (is_built_in h m) e

    rising_picked : (m : ℕ) → numbers (picked is (listing (line_of h) m)) ≡ rising_upto m is
    rising_picked zero = refl
    rising_picked (suc m) =
        ap numbers (picked_append is (listing (line_of h) m) (option_to_list (line_of h (suc m))))
        ∙ map-append (λ (i : TypedItem). i.number.value) (picked is (listing (line_of h) m)) (picked is (option_to_list (line_of h (suc m))))
        ∙ ap₂ ◌++◌ (rising_picked m) (one_number (suc m))

    typed_picked : (m : ℕ) → Typed h (picked is (listing (line_of h) m))
    typed_picked zero = tt
    typed_picked (suc m) =
        subst (Typed h) (sym (picked_append is (listing (line_of h) m) (option_to_list (line_of h (suc m)))))
        (typed_append h (picked is (listing (line_of h) m)) (picked is (option_to_list (line_of h (suc m)))) (typed_picked m) (at (standing h (suc m)) refl (has is (suc m)) refl))
      where
        one : (x : Bool) (t : ItemType) → standing h (suc m) ≡ Some (Item t) → Typed h (one_if x (record { value = suc m }) (Some t) ++ [])
        one true t e = (ap type_at e, tt)
        one false t e = tt

        none : (x : Bool) → Typed h (one_if x (record { value = suc m }) None ++ [])
        none true = tt
        none false = tt

        at : (p : Option Part) → standing h (suc m) ≡ p → (x : Bool) → has is (suc m) ≡ x → Typed h (picked is (option_to_list (option_map (λ q. line (suc m) q (is_built_in h (suc m))) p)))
        at None e x f = tt
        at (Some (Item t)) e x f = one (has is (suc m)) t e
        at (Some (Block k a b)) e x f = none (has is (suc m))

    pub beneath_picked : ItemsBeneath h n (picked is (lines_of h))
    beneath_picked =
        let up = rising_picked (given h) in
        record {
          rising = up;
          types = fun_ext (λ p. types_read (picked is (lines_of h)) (typed_picked (given h)) p ∙ ap (λ ns. type_in h (get_or ns p 0)) up);
        }

    -- there are at most 16
    pub few_picked : length (picked is (lines_of h)) ≤ 16
    few_picked =
        omega (
          arith,
          length-map (picked is (lines_of h)) (λ (i : TypedItem). i.number.value),
          ap length (rising_picked (given h)),
          listing_length (λ i. cond (has is i) (Some i) None) (given h),
          how_many_fewer (λ i. is_some (cond (has is i) (Some i) None)) (λ i. is_item (standing h i)) (given h) (λ i e. ap is_item (stands i (held (has is i) i e)).1),
          few_items h l,
        )
      where
        held : (x : Bool) (i : ℕ) → is_some (cond x (Some i) None) ≡ true → x ≡ true
        held true i e = refl
        held false i e = absurd (both_ways false refl e)
