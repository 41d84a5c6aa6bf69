-- Laws of tests over the numbers from 1 to m.
use Rattle.std.proofs.Common.{◌≡◌, ℕ, zero, suc, ◌+◌, ◌<◌, ◌≤◌, Bool, true, false, cond, not, ◌&&◌, ◌||◌, eqb, ◌⊎◌, List, [], ◌∷◌, length, sym, refl, ap, ◌∙◌, inl, inr, ⊎_elim, arith}
use Rattle.std.proofs.lemmas.Bool.{cases_eq, eq-eqb, ne_eqb, cond-true, cond-false, or_left, or_right, both_ways}
use Rattle.rules.specs.History.{has, any_upto, how_many}

-- where two numbers are compared, one of two ways is taken
pub cond_cases : {X : Type 0} (a b : ℕ) (x y : X) → ((a ≡ b) × (cond (eqb a b) x y ≡ x)) ⊎ ((a ≡ b → ⊥) × (cond (eqb a b) x y ≡ y))
cond_cases a b x y = ⊎_elim (λ e. inl (e, cond-true _ _ _ (eq-eqb a b e))) (λ ne. inr (ne, cond-false _ _ _ (ne_eqb a b ne))) (cases_eq a b)

pub any_same : (p q : ℕ → Bool) (m : ℕ) → ((n : ℕ) → 0 < n → n ≤ m → p n ≡ q n) → any_upto m p ≡ any_upto m q
any_same p q zero same = refl
any_same p q (suc m) same =
    ap (λ b. b || any_upto m p) (same (suc m) (omega arith) (omega arith))
    ∙ ap (λ b. q (suc m) || b) (any_same p q m (λ n a b. same n a (omega arith)))

pub any_none : (p : ℕ → Bool) (m : ℕ) → ((n : ℕ) → 0 < n → n ≤ m → p n ≡ false) → any_upto m p ≡ false
any_none p zero none = refl
any_none p (suc m) none =
    ap (λ b. b || any_upto m p) (none (suc m) (omega arith) (omega arith)) ∙ any_none p m (λ n a b. none n a (omega arith))

pub any_has : (p : ℕ → Bool) (m n : ℕ) → 0 < n → n ≤ m → p n ≡ true → any_upto m p ≡ true
any_has p zero n pos le e = absurd (omega arith)
any_has p (suc m) n pos le e =
    ⊎_elim
    (λ (z : n ≡ suc m). or_left _ _ (ap p (sym z) ∙ e))
    (λ z. or_right _ _ (any_has p m n pos (omega arith) e))
    (cases_eq n (suc m))

pub how_many_same : (p q : ℕ → Bool) (m : ℕ) → ((n : ℕ) → 0 < n → n ≤ m → p n ≡ q n) → how_many m p ≡ how_many m q
how_many_same p q zero same = refl
how_many_same p q (suc m) same =
    let a = ap {B = ℕ} (λ (x : Bool). cond x 1 0) (same (suc m) (omega arith) (omega arith)) in
    let b = how_many_same p q m (λ n lo hi. same n lo (omega arith)) in
    omega arith

pub how_many_more_numbers : (p : ℕ → Bool) (k m : ℕ) → k ≤ m → how_many k p ≤ how_many m p
how_many_more_numbers p k zero le = let e : k ≡ 0 = omega arith in omega (arith, ap (λ (j : ℕ). how_many j p) e)
how_many_more_numbers p k (suc m) le =
    ⊎_elim
    (λ (e : k ≡ suc m). omega (arith, ap (λ (j : ℕ). how_many j p) e))
    (λ ne. omega (arith, how_many_more_numbers p k m (omega arith)))
    (cases_eq k (suc m))

-- one number passes q and not p, and all else is alike
pub how_many_one : (p q : ℕ → Bool) (a m : ℕ) → 0 < a → a ≤ m → p a ≡ false → q a ≡ true → ((n : ℕ) → (n ≡ a → ⊥) → q n ≡ p n) → how_many m q ≡ suc (how_many m p)
how_many_one p q a zero pos le off on same = absurd (omega arith)
how_many_one p q a (suc m) pos le off on same =
    ⊎_elim
    (λ (e : suc m ≡ a).
    let x : ◌≡◌ {A = ℕ} (cond (q (suc m)) 1 0) 1 = cond-true _ _ _ (ap q e ∙ on) in
    let y : ◌≡◌ {A = ℕ} (cond (p (suc m)) 1 0) 0 = cond-false _ _ _ (ap p e ∙ off) in
    let z = how_many_same p q m (λ n lo hi. sym (same n (λ f. omega arith))) in
    omega arith)
    (λ (ne : suc m ≡ a → ⊥).
    let x = ap {B = ℕ} (λ (v : Bool). cond v 1 0) (same (suc m) ne) in
    let z = how_many_one p q a m pos (let w : (a ≡ suc m) → ⊥ = λ f. ne (sym f) in omega arith) off on same in
    omega arith)
    (cases_eq (suc m) a)

-- none twice in a list
abbrev pub Distinct : List ℕ → Type 0
Distinct [] = Unit {0}
Distinct (m ∷ ms) = (has ms m ≡ false) × Distinct ms

-- numbers of a list join those that pass
pub how_many_more : (ms : List ℕ) (p : ℕ → Bool) (m : ℕ) → Distinct ms → ((n : ℕ) → has ms n ≡ true → (0 < n) × (n ≤ m) × (p n ≡ false)) → how_many m (λ n. has ms n || p n) ≡ length ms + how_many m p
how_many_more [] p m d out = omega arith
how_many_more (a ∷ ms) p m d out =
    let here = out a (or_left _ _ (eq-eqb a a refl)) in
    let rest = how_many_more ms p m d.1 (λ n e. out n (or_right (eqb n a) _ e)) in
    let step = how_many_one (λ n. has ms n || p n) (λ n. (eqb n a || has ms n) || p n) a m here.0 here.1
    (ap (λ (x : Bool). x || p a) d.0 ∙ here.2)
    (or_left _ _ (or_left _ _ (eq-eqb a a refl)))
    (λ n ne. ap (λ (x : Bool). (x || has ms n) || p n) (ne_eqb n a ne)) in
    omega arith

-- a test that none can pass but by another
pub how_many_split : (p q : ℕ → Bool) (m : ℕ) → ((n : ℕ) → q n ≡ true → p n ≡ true) → how_many m p ≡ how_many m (λ n. p n && not (q n)) + how_many m q
how_many_split p q zero sub = refl
how_many_split p q (suc m) sub =
    let rest = how_many_split p q m sub in
    let one : cond {A = ℕ} (p (suc m)) 1 0 ≡ cond {A = ℕ} (p (suc m) && not (q (suc m))) 1 0 + cond {A = ℕ} (q (suc m)) 1 0 = both (p (suc m)) (q (suc m)) (sub (suc m)) in
    omega arith
  where
    both : (x y : Bool) → (y ≡ true → x ≡ true) → cond {A = ℕ} x 1 0 ≡ cond {A = ℕ} (x && not y) 1 0 + cond {A = ℕ} y 1 0
    both true true s = refl
    both true false s = refl
    both false true s = absurd (both_ways false refl (s refl))
    both false false s = refl

-- a test that is harder to pass is passed by fewer
pub how_many_fewer : (p q : ℕ → Bool) (m : ℕ) → ((n : ℕ) → p n ≡ true → q n ≡ true) → how_many m p ≤ how_many m q
how_many_fewer p q m sub = omega (arith, how_many_split q p m sub)
