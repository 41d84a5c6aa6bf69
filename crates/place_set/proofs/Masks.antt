-- The bits of masks.
use Rattle.std.proofs.Common.{◌≡◌, ℕ, zero, suc, ◌+◌, ◌-◌, ◌*◌, ◌/◌, ◌%◌, ◌^◌, ◌<◌, ◌≤◌, Bool, true, false, cond, not, ◌&&◌, ◌||◌, eqb, ltb, List, [], ◌∷◌, map, sym, refl, ap, ◌∙◌, ap₂, ⊎_elim, pow-suc, one-add, arith}
use mathlib.Core.Path.{fun_ext}
use lib.Bits.{bit_and, bit_or, and_step, and_le_l, and_shr, and_mod, or_shr, or_mod}
use lib.Count.{ones, ones_step}
use lib.Dec.{eqb-suc-suc, eqb-zero-suc, eqb-suc-zero}
use Rattle.std.proofs.lemmas.Nat.{shr-shr, one_shl, pow_below}
use Rattle.std.proofs.lemmas.Bool.{cases_lt, cases_Bool, lt-ltb, le-ltb, eqb-true, eqb-false, and_parts}
use Rattle.rules.specs.Trees.{State}
use Rattle.sums.specs.States.{put, range, count}
use Rattle.place_set.specs.declared.PlaceSet.{PlaceSet}
use Rattle.place_set.specs.Sets.{bit, adding, either, both, less, others, members, Within, NextBelow}

pub bit_zero : (m : ℕ) → bit m 0 ≡ eqb (m % 2) 1
bit_zero m = let e : m / 1 ≡ m = omega arith in ap (λ n. eqb (n % 2) 1) e

pub bit_suc : (m i : ℕ) → bit m (suc i) ≡ bit (m / 2) i
bit_suc m i = ap (λ n. eqb (m / 2 ^ n % 2) 1) (sym (one-add i)) ∙ ap (λ n. eqb (n % 2) 1) (sym (shr-shr m 1 i))

pub bit_none : (i : ℕ) → bit 0 i ≡ false
bit_none zero = refl
bit_none (suc i) = bit_suc 0 i ∙ bit_none i

-- a mask of w bits has no place from w on
pub bit_above : (w m i : ℕ) → m < 2 ^ w → w ≤ i → bit m i ≡ false
bit_above zero m i h k = let e : m ≡ 0 = omega arith in ap (λ n. bit n i) e ∙ bit_none i
bit_above (suc w) m zero h k = absurd (omega arith)
bit_above (suc w) m (suc i) h k = let p = pow-suc 2 w in bit_suc m i ∙ bit_above w (m / 2) i (omega arith) (omega arith)

-- a mask without a place is 0
pub bit_some : (w m : ℕ) → m < 2 ^ w → (m ≡ 0 → ⊥) → (i : ℕ) × (bit m i ≡ true)
bit_some zero m h ne = absurd (ne (omega arith))
bit_some (suc w) m h ne =
    let p = pow-suc 2 w in
    ⊎_elim
    (λ odd. (0, bit_zero m ∙ odd))
    (λ even.
    let off = eqb-false (m % 2) 1 even in
    let rest = bit_some w (m / 2) (omega arith) (λ z. ne (omega arith)) in
    (suc rest.0, bit_suc m rest.0 ∙ rest.1))
    (cases_Bool (eqb (m % 2) 1))

pub bit_pow : (k i : ℕ) → bit (2 ^ k) i ≡ eqb k i
bit_pow zero zero = refl
bit_pow zero (suc i) = bit_suc 1 i ∙ bit_none i ∙ sym (eqb-zero-suc i)
bit_pow (suc k) zero = let p = pow-suc 2 k in let e : 2 ^ suc k % 2 ≡ 0 = omega arith in bit_zero (2 ^ suc k) ∙ ap (λ n. eqb n 1) e ∙ sym (eqb-suc-zero k)
bit_pow (suc k) (suc i) =
    let p = pow-suc 2 k in
    let e : 2 ^ suc k / 2 ≡ 2 ^ k = omega arith in
    bit_suc (2 ^ suc k) i ∙ ap (λ n. bit n i) e ∙ bit_pow k i ∙ sym (eqb-suc-suc k i)

-- one digit of two masks put together
digits : (f : ℕ → ℕ → ℕ) (g : Bool → Bool → Bool) → eqb (f 0 0) 1 ≡ g false false → eqb (f 0 1) 1 ≡ g false true → eqb (f 1 0) 1 ≡ g true false → eqb (f 1 1) 1 ≡ g true true
    → (x y : ℕ) → x < 2 → y < 2 → eqb (f x y) 1 ≡ g (eqb x 1) (eqb y 1)
digits f g a b c d zero zero h k = a
digits f g a b c d zero (suc zero) h k = b
digits f g a b c d (suc zero) zero h k = c
digits f g a b c d (suc zero) (suc zero) h k = d
digits f g a b c d zero (suc (suc y)) h k = absurd (omega arith)
digits f g a b c d (suc zero) (suc (suc y)) h k = absurd (omega arith)
digits f g a b c d (suc (suc x)) y h k = absurd (omega arith)

pub bits_of_and : (a b i : ℕ) → bit (bit_and a b) i ≡ (bit a i && bit b i)
bits_of_and a b i =
    ap (λ n. eqb (n % 2) 1) (and_shr a b i) ∙ ap (λ n. eqb n 1) (and_mod (a / 2 ^ i) (b / 2 ^ i) 1)
    ∙ digits bit_and ◌&&◌ refl refl refl refl (a / 2 ^ i % 2) (b / 2 ^ i % 2) (omega arith) (omega arith)

pub bits_of_or : (a b i : ℕ) → bit (bit_or a b) i ≡ (bit a i || bit b i)
bits_of_or a b i =
    ap (λ n. eqb (n % 2) 1) (or_shr a b i) ∙ ap (λ n. eqb n 1) (or_mod (a / 2 ^ i) (b / 2 ^ i) 1)
    ∙ digits bit_or ◌||◌ refl refl refl refl (a / 2 ^ i % 2) (b / 2 ^ i % 2) (omega arith) (omega arith)

-- a digit turned over
turn : (a b : ℕ) → a + b ≡ 1 → eqb a 1 ≡ not (eqb b 1)
turn zero zero e = absurd (omega arith)
turn zero (suc zero) e = refl
turn zero (suc (suc b)) e = absurd (omega arith)
turn (suc zero) zero e = refl
turn (suc zero) (suc b) e = absurd (omega arith)
turn (suc (suc a)) b e = absurd (omega arith)

pub bit_flip : (w m i : ℕ) → m < 2 ^ w → i < w → bit (2 ^ w - 1 - m) i ≡ not (bit m i)
bit_flip zero m i h k = absurd (omega arith)
bit_flip (suc w) m zero h k =
    let p = pow-suc 2 w in
    bit_zero (2 ^ suc w - 1 - m) ∙ turn ((2 ^ suc w - 1 - m) % 2) (m % 2) (omega arith) ∙ ap not (sym (bit_zero m))
bit_flip (suc w) m (suc i) h k =
    let p = pow-suc 2 w in
    let half : (2 ^ suc w - 1 - m) / 2 ≡ 2 ^ w - 1 - m / 2 = omega arith in
    bit_suc (2 ^ suc w - 1 - m) i ∙ ap (λ n. bit n i) half ∙ bit_flip w (m / 2) i (omega arith) (omega arith) ∙ ap not (sym (bit_suc m i))

-- the operations on sets of places
pub members_and : (a b : ℕ) → bit (bit_and a b) ≡ both (bit a) (bit b)
members_and a b = fun_ext (bits_of_and a b)

pub members_or : (a b : ℕ) → bit (bit_or a b) ≡ either (bit a) (bit b)
members_or a b = fun_ext (bits_of_or a b)

pub members_others : (m : ℕ) → m < 2 ^ 16 → bit (65535 - m) ≡ others (bit m)
members_others m h = fun_ext (λ i. ⊎_elim (low i) (high i) (cases_lt i 16))
  where
    low : (i : ℕ) → i < 16 → bit (65535 - m) i ≡ others (bit m) i
    low i lt = let t = lt-ltb i 16 lt in bit_flip 16 m i h lt ∙ rw t refl

    high : (i : ℕ) → 16 ≤ i → bit (65535 - m) i ≡ others (bit m) i
    high i le = let t = le-ltb i 16 le in bit_above 16 (65535 - m) i (omega arith) le ∙ rw t refl

pub members_less : (a b : ℕ) → a < 2 ^ 16 → b < 2 ^ 16 → bit (bit_and a (65535 - b)) ≡ less (bit a) (bit b)
members_less a b h k = fun_ext (λ i. bits_of_and a (65535 - b) i ∙ ap (λ s. bit a i && s i) (members_others b k) ∙ ⊎_elim (low i) (high i) (cases_lt i 16))
  where
    low : (i : ℕ) → i < 16 → (bit a i && others (bit b) i) ≡ less (bit a) (bit b) i
    low i lt = let t = lt-ltb i 16 lt in rw t refl

    high : (i : ℕ) → 16 ≤ i → (bit a i && others (bit b) i) ≡ less (bit a) (bit b) i
    high i le = let e = bit_above 16 a i h le in rw e refl

pub members_without : (m k : ℕ) → m < 2 ^ 16 → k < 16 → bit (bit_and m (65535 - (1 * 2 ^ k) % 65536)) ≡ put k false (bit m)
members_without m k h lt =
    let one : (1 * 2 ^ k) % 65536 ≡ 2 ^ k = one_shl k 16 lt in
    ap (λ n. bit (bit_and m (65535 - n))) one ∙ members_less m (2 ^ k) h (pow_below k 16 lt)
    ∙ fun_ext (λ i. ap (λ b. bit m i && not b) (bit_pow k i) ∙ at (eqb k i) (bit m i))
  where
    at : (x y : Bool) → (y && not x) ≡ cond x false y
    at true true = refl
    at true false = refl
    at false true = refl
    at false false = refl

pub without_above : (m k : ℕ) → m < 2 ^ 16 → 16 ≤ k → bit m ≡ put k false (bit m)
without_above m k h le = fun_ext (λ i. at i (eqb k i) refl)
  where
    at : (i : ℕ) (x : Bool) → eqb k i ≡ x → bit m i ≡ cond x false (bit m i)
    at i true e = bit_above 16 m i h (let same = eqb-true k i e in omega arith)
    at i false e = refl

pub members_with : (m k : ℕ) → k < 16 → bit (bit_or m ((1 * 2 ^ k) % 65536)) ≡ adding k (bit m)
members_with m k lt =
    let one : (1 * 2 ^ k) % 65536 ≡ 2 ^ k = one_shl k 16 lt in
    ap (λ n. bit (bit_or m n)) one ∙ fun_ext (λ i. bits_of_or m (2 ^ k) i ∙ ap (λ b. bit m i || b) (bit_pow k i) ∙ at i (eqb k i) refl (bit m i))
  where
    swap : (x y : Bool) → (x || y) ≡ (y || x)
    swap true true = refl
    swap true false = refl
    swap false true = refl
    swap false false = refl

    at : (i : ℕ) (x : Bool) → eqb k i ≡ x → (y : Bool) → (y || x) ≡ ((x && ltb i 16) || y)
    at i true e y = let same = eqb-true k i e in let t : ltb i 16 ≡ true = lt-ltb i 16 (omega arith) in rw t (swap y true)
    at i false e y = swap y false

-- how many bits are 1
pub range_suc : (k n : ℕ) → range (suc k) n ≡ map suc (range k n)
range_suc k zero = refl
range_suc k (suc n) = ap (λ xs. suc k ∷ xs) (range_suc (suc k) n)

pub count_map : {A B : Type 0} (p : B → Bool) (f : A → B) (xs : List A) → count p (map f xs) ≡ count (λ x. p (f x)) xs
count_map p f [] = refl
count_map p f (x ∷ xs) = ap (λ n. cond (p (f x)) 1 0 + n) (count_map p f xs)

pub count_range : (s : State) (w : ℕ) → count s (range 0 (suc w)) ≡ cond (s 0) 1 0 + count (λ i. s (suc i)) (range 0 w)
count_range s w = ap (λ n. cond (s 0) 1 0 + n) (ap (count s) (range_suc 0 w) ∙ count_map s suc (range 0 w))

digit_is : (d : ℕ) → d < 2 → d ≡ cond (eqb d 1) 1 0
digit_is zero h = refl
digit_is (suc zero) h = refl
digit_is (suc (suc d)) h = absurd (omega arith)

pub ones_count : (w m : ℕ) → m < 2 ^ w → ones m ≡ count (bit m) (range 0 w)
unfolding ones
ones_count zero m h = let e : m ≡ 0 = omega arith in ap ones e
ones_count (suc w) m h =
    let p = pow-suc 2 w in
    ones_step m
    ∙ ap₂ ◌+◌ (digit_is (m % 2) (omega arith) ∙ ap (λ b. cond b 1 0) (sym (bit_zero m))) (ones_count w (m / 2) (omega arith) ∙ ap (λ s. count s (range 0 w)) (fun_ext (λ i. sym (bit_suc m i))))
    ∙ sym (count_range (bit m) w)

-- masks with the same bits are equal
same_digit : (x y : ℕ) → x < 2 → y < 2 → eqb x 1 ≡ eqb y 1 → x ≡ y
same_digit x y h k e = digit_is x h ∙ ap (λ b. cond b 1 0) e ∙ sym (digit_is y k)

same_bits : (w a b : ℕ) → a < 2 ^ w → b < 2 ^ w → ((i : ℕ) → bit a i ≡ bit b i) → a ≡ b
same_bits zero a b h k same = omega arith
same_bits (suc w) a b h k same =
    let p = pow-suc 2 w in
    let half : a / 2 ≡ b / 2 = same_bits w (a / 2) (b / 2) (omega arith) (omega arith) (λ i. sym (bit_suc a i) ∙ same (suc i) ∙ bit_suc b i) in
    let low : a % 2 ≡ b % 2 = same_digit (a % 2) (b % 2) (omega arith) (omega arith) (sym (bit_zero a) ∙ same 0 ∙ bit_zero b) in
    omega arith

-- a subset is what it has in common with the set
pub within_and : (w a m : ℕ) → a < 2 ^ w → Within (bit a) (bit m) → bit_and a m ≡ a
within_and w a m h within = let le = and_le_l a m in same_bits w (bit_and a m) a (omega arith) h (λ i. bits_of_and a m i ∙ at (bit a i) (bit m i) (within i))
  where
    at : (x y : Bool) → (x ≡ true → y ≡ true) → (x && y) ≡ x
    at true y f = f refl
    at false y f = refl

pub and_within : (a m : ℕ) → bit_and a m ≡ a → Within (bit a) (bit m)
and_within a m e i on = (and_parts (bit a i) (bit m i) (sym (bits_of_and a m i) ∙ ap (λ n. bit n i) e ∙ on)).1

-- below a subset s, the highest subset is what s − 1 has in common with the set
highest_and : (w s t m : ℕ) → s < 2 ^ w → bit_and s m ≡ s → bit_and t m ≡ t → t < s → t ≤ bit_and (s - 1) m
highest_and zero s t m small si ti lt = absurd (omega arith)
highest_and (suc w) s t m small si ti lt =
    let p = pow-suc 2 w in
    let s-step = and_step s m in
    let t-step = and_step t m in
    let n-step = and_step (s - 1) m in
    let s-half : bit_and (s / 2) (m / 2) ≡ s / 2 = omega arith in
    let t-half : bit_and (t / 2) (m / 2) ≡ t / 2 = omega arith in
    let t-low : t % 2 ≤ m % 2 = omega arith in
    ⊎_elim
    (λ odd.
    let one = eqb-true (s % 2) 1 odd in
    let half : (s - 1) / 2 ≡ s / 2 = omega arith in
    let same : bit_and ((s - 1) / 2) (m / 2) ≡ s / 2 = ap (λ n. bit_and n (m / 2)) half ∙ s-half in
    omega arith)
    (λ even.
    let ne = eqb-false (s % 2) 1 even in
    let half : (s - 1) / 2 ≡ s / 2 - 1 = omega arith in
    let low : (s - 1) % 2 ≡ 1 = omega arith in
    let ih = highest_and w (s / 2) (t / 2) (m / 2) (omega arith) s-half t-half (omega arith) in
    let same : bit_and ((s - 1) / 2) (m / 2) ≡ bit_and (s / 2 - 1) (m / 2) = ap (λ n. bit_and n (m / 2)) half in
    omega arith)
    (cases_Bool (eqb (s % 2) 1))

pub next_below : (set s : PlaceSet) → s.mask < 2 ^ 16 → 0 < s.mask → Within (members s) (members set) → NextBelow set s (record { mask = bit_and (s.mask - 1) set.mask })
next_below set s small some within = record {
  subset = λ i on. (and_parts (bit (s.mask - 1) i) (bit set.mask i) (sym (bits_of_and (s.mask - 1) set.mask i) ∙ on)).1;
  lower = let le = and_le_l (s.mask - 1) set.mask in omega arith;
  highest = λ u part lt.
      highest_and 16 s.mask u.mask set.mask small (within_and 16 s.mask set.mask small within) (within_and 16 u.mask set.mask (omega arith) part) lt;
}
