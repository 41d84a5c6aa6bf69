-- How many lines stand after a lawful history.
use Rattle.std.proofs.Common.{◌≡◌, ℕ, zero, suc, ◌+◌, ◌<◌, ◌≤◌, Bool, true, false, cond, ◌||◌, eqb, List, [], ◌∷◌, length, is_some, Some, None, count_by, Option, sym, refl, ap, ◌∙◌, subst, ⊎_elim, arith}
use Rattle.std.specs.Option.{option_map, option_to_list}
use Rattle.std.proofs.lemmas.Bool.{cases_Bool, cases_eq, cases_lt, eqb-true, eq-eqb, ne_eqb, cond-true, cond-false, or_left, or_cases, or_from, and_from, not_from_false, both_ways}
use Rattle.rules.specs.declared.change.Change.TheVariants.{Issue, Join, Withdraw}
use Rattle.rules.specs.declared.item_type.ItemType.{ItemType}
use Rattle.rules.specs.declared.item_type.ItemType.TheVariants.{One, Two, Three}
use Rattle.rules.specs.declared.line.Line.{Line}
use Rattle.rules.specs.declared.line.Part.{Part}
use Rattle.rules.specs.declared.line.Part.TheVariants.{Item, Block}
use Rattle.rules.specs.Types.{type_number, type_numbered}
use Rattle.rules.specs.History.{History, given, standing, withdrawals, has, under, how_many, is_built_in, free, is_item, is_block, is_item_of, lines_standing, items_standing, items_of_type, blocks_standing, lines_free, line_of, lines_of}
use Rattle.rules.specs.Ruled.{Lawful}
use Rattle.rules.proofs.Counting.{how_many_same, how_many_one, how_many_more, how_many_split, Distinct}
use Rattle.rules.proofs.Listings.{listing_length, listing_count}
use Rattle.rules.proofs.Sound.{changed, built, Sound, sound, some_low, some_positive, over_built, built_some, next_not_built, built_add, built_out, Usable, usable, Joinable, joinable}

-- a line more, and a line less
pub how_many_add : (f : Option Part → Bool) (o : ℕ → Option Part) (g : ℕ) (p : Option Part) → how_many (suc g) (λ n. f (changed o (suc g) p n)) ≡ cond (f p) 1 0 + how_many g (λ n. f (o n))
how_many_add f o g p =
    let a = ap {B = ℕ} (λ (q : Option Part). cond (f q) 1 0) (cond-true (eqb (suc g) (suc g)) p (o (suc g)) (eq-eqb (suc g) (suc g) refl)) in
    let b = how_many_same (λ n. f (changed o (suc g) p n)) (λ n. f (o n)) g (λ n lo hi. ap f (cond-false _ _ _ (ne_eqb n (suc g) (λ e. omega arith)))) in
    omega arith

pub how_many_out : (f : Option Part → Bool) (o : ℕ → Option Part) (g x : ℕ) → f None ≡ false → 0 < x → x ≤ g → how_many g (λ n. f (o n)) ≡ cond (f (o x)) 1 0 + how_many g (λ n. f (changed o x None n))
how_many_out f o g x off pos le =
    let gone : f (changed o x None x) ≡ false = ap f (cond-true _ _ _ (eq-eqb x x refl)) ∙ off in
    ⊎_elim
    (λ (on : f (o x) ≡ true).
    let a : cond {A = ℕ} (f (o x)) 1 0 ≡ 1 = cond-true _ _ _ on in
    let b = how_many_one (λ n. f (changed o x None n)) (λ n. f (o n)) x g pos le gone on (λ n ne. sym (ap f (cond-false _ _ _ (ne_eqb n x ne)))) in
    omega arith)
    (λ (no_more : f (o x) ≡ false).
    let a : cond {A = ℕ} (f (o x)) 1 0 ≡ 0 = cond-false _ _ _ no_more in
    let b = how_many_same (λ n. f (o n)) (λ n. f (changed o x None n)) g
    (λ n lo hi. ⊎_elim (λ (e : n ≡ x). ap (λ (k : ℕ). f (o k)) e ∙ no_more ∙ sym (ap (λ (k : ℕ). f (changed o x None k)) e ∙ gone)) (λ ne. sym (ap f (cond-false _ _ _ (ne_eqb n x ne)))) (cases_eq n x)) in
    omega arith)
    (cases_Bool (f (o x)))

-- a new type has its number
pub type_of_number : (t : ℕ) (k : ItemType) → type_numbered t ≡ Some k → type_number k ≡ t
type_of_number t k e =
    ⊎_elim (λ y. let z : Some One ≡ Some k = sym (cond-true _ _ _ y) ∙ e in let q : One ≡ k = cc in ap type_number (sym q) ∙ sym (eqb-true t 1 y))
    (λ n1. let e1 = sym (cond-false _ _ _ n1) ∙ e in ⊎_elim (λ y. let z : Some Two ≡ Some k = sym (cond-true _ _ _ y) ∙ e1 in let q : Two ≡ k = cc in ap type_number (sym q) ∙ sym (eqb-true t 2 y))
    (λ n2. let e2 = sym (cond-false _ _ _ n2) ∙ e1 in ⊎_elim (λ y. let z : Some Three ≡ Some k = sym (cond-true _ _ _ y) ∙ e2 in let q : Three ≡ k = cc in ap type_number (sym q) ∙ sym (eqb-true t 3 y))
    (λ n3. absurd (let z : None ≡ Some k = sym (cond-false _ _ _ n3) ∙ e2 in let q : ◌≡◌ {A = ℕ} 0 1 = cc in omega arith))
    (cases_Bool (eqb t 3)))
    (cases_Bool (eqb t 2)))
    (cases_Bool (eqb t 1))

pub known_type : (t : ℕ) → (type_numbered t ≡ None → ⊥) → (k : ItemType) × (type_numbered t ≡ Some k)
known_type t known = at (type_numbered t) refl
  where
    at : (o : Option ItemType) → type_numbered t ≡ o → (k : ItemType) × (type_numbered t ≡ Some k)
    at None e = absurd (known e)
    at (Some k) e = (k, e)

-- at most 16 items stand
pub few_items : (h : History) → Lawful h → items_standing h ≤ 16
few_items [] l = omega arith
few_items (Issue t ∷ h) l =
    let k = known_type t l.0.0 in
    let a = how_many_add is_item (standing h) (given h) (option_map Item (type_numbered t)) in
    let b = ap {B = ℕ} (λ (q : Option ItemType). cond (is_item (option_map Item q)) 1 0) k.1 in
    ⊎_elim (λ (lt : items_standing h < 16). omega arith) (λ le. absurd (l.0.1.0 le)) (cases_lt (items_standing h) 16)
few_items (Join k x y ∷ h) l = let a = how_many_add is_item (standing h) (given h) (Some (Block k x y)) in let b = few_items h l.1 in omega arith
few_items (Withdraw x ∷ h) l =
    let u = usable h x.value l.0 in
    let a = how_many_out is_item (standing h) (given h) x.value refl u.positive u.given in
    let b = few_items h l.1 in
    omega arith

-- at most 7 of a type
pub few_of_type : (u : ℕ) (h : History) → Lawful h → items_of_type u h ≤ 7
few_of_type u [] l = omega arith
few_of_type u (Issue t ∷ h) l =
    let k = known_type t l.0.0 in
    let a = how_many_add (is_item_of u) (standing h) (given h) (option_map Item (type_numbered t)) in
    let b = ap {B = ℕ} (λ (q : Option ItemType). cond (is_item_of u (option_map Item q)) 1 0) k.1 in
    ⊎_elim
    (λ (e : type_number k.0 ≡ u).
    let c : cond {A = ℕ} (eqb (type_number k.0) u) 1 0 ≡ 1 = cond-true _ _ _ (eq-eqb _ _ e) in
    let d = ap (λ (v : ℕ). items_of_type v h) (sym (type_of_number t k.0 k.1) ∙ e) in
    ⊎_elim (λ (lt : items_of_type t h < 7). omega arith) (λ le. absurd (l.0.1.1.0 le)) (cases_lt (items_of_type t h) 7))
    (λ ne.
    let c : cond {A = ℕ} (eqb (type_number k.0) u) 1 0 ≡ 0 = cond-false _ _ _ (ne_eqb _ _ ne) in
    let d = few_of_type u h l.1 in
    omega arith)
    (cases_eq (type_number k.0) u)
few_of_type u (Join k x y ∷ h) l = let a = how_many_add (is_item_of u) (standing h) (given h) (Some (Block k x y)) in let b = few_of_type u h l.1 in omega arith
few_of_type u (Withdraw x ∷ h) l =
    let w = usable h x.value l.0 in
    let a = how_many_out (is_item_of u) (standing h) (given h) x.value refl w.positive w.given in
    let b = few_of_type u h l.1 in
    omega arith

-- at most 9,999 numbers are given
pub few_given : (h : History) → Lawful h → given h ≤ 9999
few_given [] l = omega arith
few_given (Issue t ∷ h) l = ⊎_elim (λ (lt : given h < 9999). omega arith) (λ le. absurd (l.0.1.1.1.0 le)) (cases_lt (given h) 9999)
few_given (Join k a b ∷ h) l = ⊎_elim (λ (lt : given h < 9999). omega arith) (λ le. absurd (l.0.1.1.1.1.1.1.1.0 le)) (cases_lt (given h) 9999)
few_given (Withdraw x ∷ h) l = few_given h l.1

-- numbers given are lines standing and withdrawals made
pub balance : (h : History) → Lawful h → given h ≡ lines_standing h + withdrawals h
balance [] l = refl
balance (Issue t ∷ h) l =
    let k = known_type t l.0.0 in
    let a = how_many_add is_some (standing h) (given h) (option_map Item (type_numbered t)) in
    let b = ap {B = ℕ} (λ (q : Option ItemType). cond (is_some (option_map Item q)) 1 0) k.1 in
    let c = balance h l.1 in
    omega arith
balance (Join k x y ∷ h) l = let a = how_many_add is_some (standing h) (given h) (Some (Block k x y)) in let b = balance h l.1 in omega arith
balance (Withdraw x ∷ h) l =
    let u = usable h x.value l.0 in
    let a = how_many_out is_some (standing h) (given h) x.value refl u.positive u.given in
    let b : cond {A = ℕ} (is_some (standing h x.value)) 1 0 ≡ 1 = cond-true _ _ _ u.some in
    let c = balance h l.1 in
    omega arith

-- a line is an item or a block
pub items_and_blocks : (h : History) → lines_standing h ≡ items_standing h + blocks_standing h
items_and_blocks h = upto (given h)
  where
    each : (p : Option Part) → cond {A = ℕ} (is_some p) 1 0 ≡ cond {A = ℕ} (is_item p) 1 0 + cond {A = ℕ} (is_block p) 1 0
    each None = refl
    each (Some (Item t)) = refl
    each (Some (Block k a b)) = refl

    upto : (m : ℕ) → how_many m (λ n. is_some (standing h n)) ≡ how_many m (λ n. is_item (standing h n)) + how_many m (λ n. is_block (standing h n))
    upto zero = refl
    upto (suc m) = omega (arith, each (standing h (suc m)), upto m)

-- how many lines lie beneath a line that is made, or taken out
built_more : (o : ℕ → Option Part) (g : ℕ) → Sound o g → (p : Option Part) → Distinct (under p) → ((n : ℕ) → has (under p) n ≡ true → (is_some (o n) ≡ true) × (built o g n ≡ false))
    → how_many (suc g) (built (changed o (suc g) p) (suc g)) ≡ length (under p) + how_many g (built o g)
built_more o g s p d good =
    let a = how_many_more (under p) (built o g) g d (λ n e. (some_positive o g s n (good n e).0, some_low o g s n (good n e).0, (good n e).1)) in
    let b = how_many_same (built (changed o (suc g) p) (suc g)) (λ n. has (under p) n || built o g n) g (λ n lo hi. built_add o g s p n) in
    let off : has (under p) (suc g) ≡ false = ⊎_elim (λ on. absurd (let z = some_low o g s (suc g) (good (suc g) on).0 in omega arith)) (λ z. z) (cases_Bool (has (under p) (suc g))) in
    let c : built (changed o (suc g) p) (suc g) (suc g) ≡ false = built_add o g s p (suc g) ∙ ap (λ (x : Bool). x || built o g (suc g)) off ∙ next_not_built o g s in
    let d : cond {A = ℕ} (built (changed o (suc g) p) (suc g) (suc g)) 1 0 ≡ 0 = cond-false _ _ _ c in
    omega arith

built_less : (o : ℕ → Option Part) (g : ℕ) → Sound o g → (x : ℕ) → how_many g (built o g) ≡ length (under (o x)) + how_many g (built (changed o x None) g)
built_less o g s x =
    let v : ℕ → Bool = built (changed o x None) g in
    let a = how_many_more (under (o x)) v g (s.distinct x)
    (λ n e. let z = s.stands x n e in (some_positive o g s n z, some_low o g s n z, built_out o g s x n ∙ cond-true _ _ _ e)) in
    let b = how_many_same (built o g) (λ n. has (under (o x)) n || v n) g
    (λ n lo hi. ⊎_elim
    (λ on. over_built o g s x n on ∙ sym (or_left _ _ on))
    (λ off. sym (ap (λ (y : Bool). y || v n) off ∙ built_out o g s x n ∙ cond-false _ _ _ off))
    (cases_Bool (has (under (o x)) n))) in
    omega arith

two_each : (p : Option Part) → length (under p) ≡ cond {A = ℕ} (is_block p) 1 0 + cond {A = ℕ} (is_block p) 1 0
two_each None = refl
two_each (Some (Item t)) = refl
two_each (Some (Block k a b)) = refl

-- two lines are built in for each block
two_built : (h : History) → Lawful h → how_many (given h) (is_built_in h) ≡ blocks_standing h + blocks_standing h
two_built [] l = refl
two_built (Issue t ∷ h) l =
    let k = known_type t l.0.0 in
    let new : option_map Item (type_numbered t) ≡ Some (Item k.0) = ap (option_map Item) k.1 in
    let none : under (option_map Item (type_numbered t)) ≡ [] = ap under new in
    let a = built_more (standing h) (given h) (sound h l.1) (option_map Item (type_numbered t)) (subst Distinct (sym none) tt)
    (λ n e. absurd (both_ways false refl (sym (ap (λ (ms : List ℕ). has ms n) none) ∙ e))) in
    let b = how_many_add is_block (standing h) (given h) (option_map Item (type_numbered t)) in
    let c = two_built h l.1 in
    let d = two_each (option_map Item (type_numbered t)) in
    omega arith
two_built (Join k x y ∷ h) l =
    let j = joinable h k x y l.0 in
    let s = sound h l.1 in
    let at : (n m : ℕ) → n ≡ m → Usable h m → (is_some (standing h n) ≡ true) × (is_built_in h n ≡ false) = λ n m e u. let w = subst (Usable h) (sym e) u in (w.some, w.free) in
    let a = built_more (standing h) (given h) s (Some (Block k x y)) (or_from _ _ (ne_eqb x.value y.value j.differ) refl, (refl, tt))
    (λ n e. ⊎_elim (λ u. at n x.value (eqb-true _ _ u) j.first)
    (λ v. ⊎_elim (λ u. at n y.value (eqb-true _ _ u) j.second) (λ f. absurd (both_ways false refl f)) (or_cases _ _ v)) (or_cases _ _ e)) in
    let b = how_many_add is_block (standing h) (given h) (Some (Block k x y)) in
    let c = two_built h l.1 in
    omega arith
two_built (Withdraw x ∷ h) l =
    let u = usable h x.value l.0 in
    let a = built_less (standing h) (given h) (sound h l.1) x.value in
    let b = how_many_out is_block (standing h) (given h) x.value refl u.positive u.given in
    let c = two_built h l.1 in
    let d = two_each (standing h x.value) in
    omega arith

-- as many lines are free as there are items less blocks
pub free_lines : (h : History) → Lawful h → lines_free h + blocks_standing h ≡ items_standing h
free_lines h l =
    let o = standing h in
    let a = how_many_split (λ n. is_some (o n)) (is_built_in h) (given h) (λ n e. built_some o (given h) (sound h l) n e) in
    omega (arith, two_built h l, items_and_blocks h)

pub lines_length : (h : History) → length (lines_of h) ≡ lines_standing h
lines_length h = listing_length (line_of h) (given h) ∙ how_many_same (λ n. is_some (line_of h n)) (λ n. is_some (standing h n)) (given h) (λ n lo hi. some (standing h n) (λ p. record { number = record { value = n }; part = p; built_in = is_built_in h n }))
  where
    some : (p : Option Part) (f : Part → Line) → is_some (option_map f p) ≡ is_some p
    some None f = refl
    some (Some p) f = refl

-- there is room for one line more where an item may be issued, and where two lines may be joined
pub issue_room : (h : History) → Lawful h → items_standing h < 16 → length (lines_of h) < 31
issue_room h l lt = omega (arith, free_lines h l, items_and_blocks h, lines_length h)

pub join_room : (h : History) → Lawful h → (a b : ℕ) → Joinable h a b → length (lines_of h) < 31
join_room h l a b j =
    let free-at : (n : ℕ) → Usable h n → free h n ≡ true = λ n u. and_from _ _ u.some (not_from_false _ u.free) in
    let p : ℕ → Bool = λ n. cond (has (a ∷ b ∷ []) n) false (free h n) in
    let two = how_many_more (a ∷ b ∷ []) p (given h) (or_from _ _ (ne_eqb a b j.differ) refl, (refl, tt))
    (λ n e. ⊎_elim
    (λ u. let w = subst (Usable h) (sym (eqb-true n a u)) j.first in (w.positive, w.given, cond-true _ _ _ e))
    (λ v. ⊎_elim (λ u. let w = subst (Usable h) (sym (eqb-true n b u)) j.second in (w.positive, w.given, cond-true _ _ _ e)) (λ f. absurd (both_ways false refl f)) (or_cases _ _ v))
    (or_cases _ _ e)) in
    let same = how_many_same (free h) (λ n. has (a ∷ b ∷ []) n || p n) (given h)
    (λ n lo hi. ⊎_elim
    (λ on. ⊎_elim (λ u. ap (free h) (eqb-true n a u) ∙ free-at a j.first)
    (λ v. ⊎_elim (λ u. ap (free h) (eqb-true n b u) ∙ free-at b j.second) (λ f. absurd (both_ways false refl f)) (or_cases _ _ v)) (or_cases _ _ on)
    ∙ sym (or_left _ _ on))
    (λ off. sym (ap (λ (x : Bool). x || p n) off ∙ cond-false _ _ _ off))
    (cases_Bool (has (a ∷ b ∷ []) n))) in
    omega (arith, few_items h l, free_lines h l, items_and_blocks h, lines_length h)

-- at most 31 lines stand
pub few_lines : (h : History) → Lawful h → length (lines_of h) ≤ 31
few_lines [] l = omega arith
few_lines (Issue t ∷ h) l =
    let a = how_many_add is_some (standing h) (given h) (option_map Item (type_numbered t)) in
    let b = one (option_map Item (type_numbered t)) in
    ⊎_elim (λ lt. omega (arith, issue_room h l.1 lt, lines_length h, lines_length (Issue t ∷ h))) (λ le. absurd (l.0.1.0 le)) (cases_lt (items_standing h) 16)
  where
    one : (p : Option Part) → cond {A = ℕ} (is_some p) 1 0 ≤ 1
    one None = omega arith
    one (Some p) = omega arith
few_lines (Join k a b ∷ h) l =
    let more = how_many_add is_some (standing h) (given h) (Some (Block k a b)) in
    omega (arith, join_room h l.1 a.value b.value (joinable h k a b l.0), lines_length h, lines_length (Join k a b ∷ h))
few_lines (Withdraw x ∷ h) l =
    let u = usable h x.value l.0 in
    let less = how_many_out is_some (standing h) (given h) x.value refl u.positive u.given in
    omega (arith, few_lines h l.1, lines_length h, lines_length (Withdraw x ∷ h))

-- a count of the table's lines by their parts
pub lines_count : (f : Option Part → Bool) → f None ≡ false → (h : History) → count_by (λ (l : Line). f (Some l.part)) (lines_of h) ≡ how_many (given h) (λ n. f (standing h n))
lines_count f off h = listing_count (line_of h) (λ (l : Line). f (Some l.part)) (λ n. f (standing h n)) (given h) (λ n. each n (standing h n))
  where
    each : (n : ℕ) (p : Option Part) → count_by (λ (l : Line). f (Some l.part)) (option_to_list (option_map (λ p. record { number = record { value = n }; part = p; built_in = is_built_in h n }) p)) ≡ cond (f p) 1 0
    each n None = sym (cond-false _ _ _ off)
    each n (Some p) = omega arith
