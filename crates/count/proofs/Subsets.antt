-- The subsets of a set of places, in falling order of their masks, are the states of its places.
use Rattle.std.proofs.Common.{◌≡◌, ℕ, zero, suc, ◌+◌, ◌*◌, ◌/◌, ◌%◌, ◌^◌, ◌<◌, min, Bool, true, false, cond, eqb, List, [], ◌∷◌, map, sym, refl, ap, ◌∙◌, ap₂, ⊎_elim, add-zero, add_comm, pow-suc, zero-add, add-one, arith}
use mathlib.Core.Path.{fun_ext}
use lib.Bits.{bit_and, and_step, and_zero_l}
use lib.Dec.{eqb-zero-suc, eqb-suc-zero, eqb-suc-suc}
use Rattle.std.proofs.lemmas.Bool.{cases_eq, cases_Bool, eqb-true, eqb-false, eq-eqb, ne_eqb}
use Rattle.rules.specs.Trees.{State}
use Rattle.sums.specs.States.{all_failed, put, keep, range, total}
use Rattle.place_set.specs.declared.PlaceSet.{PlaceSet}
use Rattle.place_set.specs.Sets.{bit, members}
use Rattle.place_set.specs.Subsets.{sets_below, is_subset, subsets_of}
use Rattle.place_set.proofs.Masks.{bit_zero, bit_suc, bit_none, range_suc}
use Rattle.count.proofs.Over.{over, over_plus}

-- the sum of f over the numbers below n
unfoldable pub sum_below : ℕ → (ℕ → ℕ) → ℕ
sum_below zero f = 0
sum_below (suc n) f = sum_below n f + f n

twos : (n : ℕ) (f : ℕ → ℕ) → sum_below (n * 2) f ≡ sum_below n (λ i. f (i * 2) + f (i * 2 + 1))
unfolding sum_below
twos zero f = refl
twos (suc n) f =
    let e : suc n * 2 ≡ suc (suc (n * 2)) = omega arith in
    ap (λ m. sum_below m f) e ∙ ap₂ (λ x y. x + f (n * 2) + f y) (twos n f) (sym (add-one (n * 2))) ∙ omega arith

-- whether the mask t is a subset of the mask m
abbrev pub inside : ℕ → ℕ → Bool
inside t m = eqb (bit_and t m) t

-- f of each subset, and nothing else
abbrev pub inner : ℕ → (State → ℕ) → ℕ → ℕ
inner m f t = cond (inside t m) (f (bit t)) 0

-- a state with v at place 0 and t moved up by one
abbrev front : Bool → State → State
front v t zero = v
front v t (suc i) = t i

bit_even : (t : ℕ) → bit (t * 2) ≡ front false (bit t)
bit_even t = fun_ext at
  where
    low : t * 2 % 2 ≡ 0
    low = omega arith

    half : t * 2 / 2 ≡ t
    half = omega arith

    at : (i : ℕ) → bit (t * 2) i ≡ front false (bit t) i
    at zero = bit_zero (t * 2) ∙ ap (λ n. eqb n 1) low
    at (suc i) = bit_suc (t * 2) i ∙ ap (λ n. bit n i) half

bit_odd : (t : ℕ) → bit (t * 2 + 1) ≡ front true (bit t)
bit_odd t = fun_ext at
  where
    low : (t * 2 + 1) % 2 ≡ 1
    low = omega arith

    half : (t * 2 + 1) / 2 ≡ t
    half = omega arith

    at : (i : ℕ) → bit (t * 2 + 1) i ≡ front true (bit t) i
    at zero = bit_zero (t * 2 + 1) ∙ ap (λ n. eqb n 1) low
    at (suc i) = bit_suc (t * 2 + 1) i ∙ ap (λ n. bit n i) half

eqb_alike : (a b c d : ℕ) → (a ≡ b → c ≡ d) → (c ≡ d → a ≡ b) → eqb a b ≡ eqb c d
eqb_alike a b c d f g = ⊎_elim (λ e. eq-eqb a b e ∙ sym (eq-eqb c d (f e))) (λ ne. ne_eqb a b ne ∙ sym (ne_eqb c d (λ e. ne (g e)))) (cases_eq a b)

inside_even : (t m : ℕ) → inside (t * 2) m ≡ inside t (m / 2)
inside_even t m =
    let half : t * 2 / 2 ≡ t = omega arith in
    let low : t * 2 % 2 ≡ 0 = omega arith in
    let e : bit_and (t * 2) m ≡ bit_and t (m / 2) * 2 = and_step (t * 2) m ∙ ap₂ (λ x y. bit_and x (m / 2) * 2 + min y (m % 2)) half low ∙ omega arith in
    eqb_alike (bit_and (t * 2) m) (t * 2) (bit_and t (m / 2)) t (λ h. omega arith) (λ h. omega arith)

inside_odd : (t m : ℕ) → m % 2 ≡ 1 → inside (t * 2 + 1) m ≡ inside t (m / 2)
inside_odd t m odd =
    let half : (t * 2 + 1) / 2 ≡ t = omega arith in
    let low : (t * 2 + 1) % 2 ≡ 1 = omega arith in
    let e : bit_and (t * 2 + 1) m ≡ bit_and t (m / 2) * 2 + 1 = and_step (t * 2 + 1) m ∙ ap₂ (λ x y. bit_and x (m / 2) * 2 + min y (m % 2)) half low ∙ omega arith in
    eqb_alike (bit_and (t * 2 + 1) m) (t * 2 + 1) (bit_and t (m / 2)) t (λ h. omega arith) (λ h. omega arith)

outside_odd : (t m : ℕ) → m % 2 ≡ 0 → inside (t * 2 + 1) m ≡ false
outside_odd t m even =
    let half : (t * 2 + 1) / 2 ≡ t = omega arith in
    let low : (t * 2 + 1) % 2 ≡ 1 = omega arith in
    let e : bit_and (t * 2 + 1) m ≡ bit_and t (m / 2) * 2 = and_step (t * 2 + 1) m ∙ ap₂ (λ x y. bit_and x (m / 2) * 2 + min y (m % 2)) half low ∙ omega arith in
    ne_eqb (bit_and (t * 2 + 1) m) (t * 2 + 1) (λ h. omega arith)

-- place 0, and then the others
put_front : (i : ℕ) (x v : Bool) (s : State) → put (suc i) x (front v s) ≡ front v (put i x s)
put_front i x v s = fun_ext at
  where
    at : (j : ℕ) → put (suc i) x (front v s) j ≡ front v (put i x s) j
    at zero = ap (λ b. cond b x v) (eqb-suc-zero i)
    at (suc j) = ap (λ b. cond b x (s j)) (eqb-suc-suc i j)

over_front : (is : List ℕ) (v : Bool) (s : State) (f : State → ℕ) → over (map suc is) (front v s) f ≡ over is s (λ t. f (front v t))
over_front [] v s f = refl
over_front (i ∷ is) v s f =
    let side : (x : Bool) → over (map suc is) (put (suc i) x (front v s)) f ≡ over is (put i x s) (λ t. f (front v t)) = λ x.
    ap (λ q. over (map suc is) q f) (put_front i x v s) ∙ over_front is v (put i x s) f in
    ap₂ ◌+◌ (side true) (side false)

start_front : (v : Bool) → put 0 v all_failed ≡ front v all_failed
start_front v = fun_ext at
  where
    at : (j : ℕ) → put 0 v all_failed j ≡ front v all_failed j
    at zero = refl
    at (suc j) = ap (λ b. cond b v false) (eqb-zero-suc j)

failed_front : all_failed ≡ front false all_failed
failed_front = fun_ext at
  where
    at : (j : ℕ) → all_failed j ≡ front false all_failed j
    at zero = refl
    at (suc j) = refl

keep_map : (q : ℕ → Bool) (f : ℕ → ℕ) (xs : List ℕ) → keep q (map f xs) ≡ map f (keep (λ x. q (f x)) xs)
keep_map q f [] = refl
keep_map q f (x ∷ xs) = at (q (f x)) (keep_map q f xs)
  where
    at : (b : Bool) → keep q (map f xs) ≡ map f (keep (λ x. q (f x)) xs) → cond b (f x ∷ keep q (map f xs)) (keep q (map f xs)) ≡ map f (cond b (x ∷ keep (λ x. q (f x)) xs) (keep (λ x. q (f x)) xs))
    at true ih = ap (λ ys. f x ∷ ys) ih
    at false ih = ih

keep_range : (m w : ℕ) → keep (bit m) (range 1 w) ≡ map suc (keep (bit (m / 2)) (range 0 w))
keep_range m w = ap (keep (bit m)) (range_suc 0 w) ∙ keep_map (bit m) suc (range 0 w) ∙ ap (λ q. map suc (keep q (range 0 w))) (fun_ext (bit_suc m))

-- the sum over the subsets of a set is the sum over the states of its places
pub subset_sum : (w m : ℕ) → m < 2 ^ w → (f : State → ℕ) → sum_below (2 ^ w) (inner m f) ≡ over (keep (bit m) (range 0 w)) all_failed f
unfolding sum_below
subset_sum zero m lt f =
    let e : m ≡ 0 = omega arith in
    zero-add _ ∙ ap (λ b. cond b (f (bit 0)) 0) (eq-eqb (bit_and 0 m) 0 (and_zero_l m)) ∙ ap f (fun_ext bit_none)
subset_sum (suc w) m lt f =
    let p = pow-suc 2 w in
    let ks = keep (bit (m / 2)) (range 0 w) in
    let ih : (g : State → ℕ) → sum_below (2 ^ w) (inner (m / 2) g) ≡ over ks all_failed g = subset_sum w (m / 2) (omega arith) in
    let even : (i : ℕ) → inner m f (i * 2) ≡ inner (m / 2) (λ t. f (front false t)) i = λ i. ap₂ (λ b s. cond b (f s) 0) (inside_even i m) (bit_even i) in
    let split : sum_below (2 ^ suc w) (inner m f) ≡ sum_below (2 ^ w) (λ i. inner m f (i * 2) + inner m f (i * 2 + 1)) = ap (λ n. sum_below n (inner m f)) p ∙ twos (2 ^ w) (inner m f) in
    split
    ∙ ⊎_elim
    (λ odd.
    let one = eqb-true (m % 2) 1 odd in
    let both : (i : ℕ) → inner m f (i * 2) + inner m f (i * 2 + 1) ≡ inner (m / 2) (λ t. f (front false t) + f (front true t)) i = λ i.
    ap₂ ◌+◌ (even i) (ap₂ (λ b s. cond b (f s) 0) (inside_odd i m one) (bit_odd i)) ∙ together (inside i (m / 2)) (f (front false (bit i))) (f (front true (bit i))) in
    ap (sum_below (2 ^ w)) (fun_ext both) ∙ ih (λ t. f (front false t) + f (front true t)) ∙ over_plus ks all_failed (λ t. f (front false t)) (λ t. f (front true t))
    ∙ omega (arith, side ks f true, side ks f false)
    ∙ ap (λ is. over (0 ∷ is) all_failed f) (sym (keep_range m w))
    ∙ ap (λ b. over (cond b (0 ∷ keep (bit m) (range 1 w)) (keep (bit m) (range 1 w))) all_failed f) (sym (bit_zero m ∙ odd)))
    (λ off.
    let low : m % 2 ≡ 0 = let ne = eqb-false (m % 2) 1 off in omega arith in
    let only : (i : ℕ) → inner m f (i * 2) + inner m f (i * 2 + 1) ≡ inner (m / 2) (λ t. f (front false t)) i = λ i.
    ap₂ ◌+◌ (even i) (ap (λ b. cond b (f (bit (i * 2 + 1))) 0) (outside_odd i m low)) ∙ add-zero _ in
    ap (sum_below (2 ^ w)) (fun_ext only) ∙ ih (λ t. f (front false t)) ∙ sym (over_front ks false all_failed f)
    ∙ ap₂ (λ is s. over is s f) (sym (keep_range m w)) (sym failed_front)
    ∙ ap (λ b. over (cond b (0 ∷ keep (bit m) (range 1 w)) (keep (bit m) (range 1 w))) all_failed f) (sym (bit_zero m ∙ off)))
    (cases_Bool (eqb (m % 2) 1))
  where
    together : (b : Bool) (x y : ℕ) → cond b x 0 + cond b y 0 ≡ cond b (x + y) 0
    together true x y = refl
    together false x y = refl

    side : (ks : List ℕ) (f : State → ℕ) (v : Bool) → over (map suc ks) (put 0 v all_failed) f ≡ over ks all_failed (λ t. f (front v t))
    side ks f v = ap (λ s. over (map suc ks) s f) (start_front v) ∙ over_front ks v all_failed f

-- f of each of the sets, added up
abbrev pub sum_over : (State → ℕ) → List PlaceSet → ℕ
sum_over f sets = total 0 ◌+◌ (λ s. f (members s)) sets

sum_over_kept : (set : PlaceSet) (n : ℕ) (f : State → ℕ) → sum_over f (keep (is_subset set) (sets_below n)) ≡ sum_below n (inner set.mask f)
unfolding sum_below
sum_over_kept set zero f = refl
sum_over_kept set (suc n) f = at (inside n set.mask) ∙ ap (λ m. m + inner set.mask f n) (sum_over_kept set n f)
  where
    rest : List PlaceSet
    rest = keep (is_subset set) (sets_below n)

    at : (b : Bool) → sum_over f (cond b (record { mask = n } ∷ rest) rest) ≡ sum_over f rest + cond b (f (bit n)) 0
    at true = add_comm (f (bit n)) (sum_over f rest)
    at false = sym (add-zero (sum_over f rest))

pub sum_over_subsets : (set : PlaceSet) → set.mask < 2 ^ 16 → (f : State → ℕ) → sum_over f (subsets_of set) ≡ over (keep (members set) (range 0 16)) all_failed f
unfolding subsets_of
sum_over_subsets set small f = sum_over_kept set 65536 f ∙ subset_sum 16 set.mask small f
