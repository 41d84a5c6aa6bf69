-- The search for the first of a byte.
use Rattle.std.proofs.Common.{◌≡◌, ℕ, suc, ◌+◌, ◌<◌, ◌≤◌, cond, eqb, ltb, List, [], ◌∷◌, length, take, drop, Some, None, refl, ap, ◌∙◌, ⊎_elim, arith, ltb-true, ltb-false}
use Rattle.std.proofs.lemmas.Bool.{cases_Bool}
use Rattle.std.proofs.lemmas.Option.{cond_some}
use Rattle.std.proofs.lemmas.List.Recursion.{is_position_or_len}
use Rattle.std.specs.List.{position, position_or_len}
use Rattle.text.specs.Texts.{before, after}

-- how many bytes stand before the first byte b, or all where there is none
abbrev up_to : ℕ → List ℕ → ℕ
up_to b [] = 0
up_to b (x ∷ xs) = cond (eqb x b) 0 (suc (up_to b xs))

up_to_position : (b : ℕ) (s : List ℕ) → up_to b s ≡ position_or_len (λ x. eqb x b) s
up_to_position b s = is_position_or_len (up_to b) (λ x. eqb x b) refl (λ x xs. ap (cond (eqb x b) 0) (omega arith)) s

before_is : (b : ℕ) (s : List ℕ) → take (up_to b s) s ≡ before b s
before_is b [] = refl
before_is b (x ∷ s) = ⊎_elim (λ e. rw e) (λ e. rw e (ap (λ l. x ∷ l) (before_is b s))) (cases_Bool (eqb x b))

after_some : (b : ℕ) (s : List ℕ) → up_to b s < length s → Some (drop (suc (up_to b s)) s) ≡ after b s
after_some b [] h = absurd (omega arith)
after_some b (x ∷ s) h =
    ⊎_elim
    (λ e. rw e)
    (λ e. let h' : suc (up_to b s) < suc (length s) = rw e at h in rw e (after_some b s (omega arith)))
    (cases_Bool (eqb x b))

all_before : (b : ℕ) (s : List ℕ) → length s ≤ up_to b s → s ≡ before b s
all_before b [] h = refl
all_before b (x ∷ s) h =
    ⊎_elim
    (λ e. let h' : suc (length s) ≤ 0 = rw e at h in absurd (omega arith))
    (λ e. let h' : suc (length s) ≤ suc (up_to b s) = rw e at h in rw e (ap (λ l. x ∷ l) (all_before b s (omega arith))))
    (cases_Bool (eqb x b))

none_after : (b : ℕ) (s : List ℕ) → length s ≤ up_to b s → None ≡ after b s
none_after b [] h = refl
none_after b (x ∷ s) h =
    ⊎_elim
    (λ e. let h' : suc (length s) ≤ 0 = rw e at h in absurd (omega arith))
    (λ e. let h' : suc (length s) ≤ suc (up_to b s) = rw e at h in rw e (none_after b s (omega arith)))
    (cases_Bool (eqb x b))

-- the text is cut at its first byte b
pub cut_at : (b i : ℕ) (s : List ℕ) → position (λ x. eqb x b) s ≡ Some i → (take i s ≡ before b s) × (Some (drop (i + 1) s) ≡ after b s)
cut_at b i s e =
    let here = up_to_position b s in
    let n = position_or_len (λ x. eqb x b) s in
    let k = cond_some (ltb n (length s)) n i e in
    let short = ltb-true n (length s) k.0 in
    let at : i ≡ up_to b s = omega (arith, k.1) in
    let past : i + 1 ≡ suc (up_to b s) = omega arith in
    (ap (λ m. take m s) at ∙ before_is b s, ap (λ m. Some (drop m s)) past ∙ after_some b s (omega arith))

-- without one it stays whole
pub uncut : (b : ℕ) (s : List ℕ) → position (λ x. eqb x b) s ≡ None → (s ≡ before b s) × (None ≡ after b s)
uncut b s e =
    let here = up_to_position b s in
    let n = position_or_len (λ x. eqb x b) s in
    ⊎_elim
    (λ t. let h : Some n ≡ None = rw t at e in absurd (let z : ◌≡◌ {A = ℕ} 0 1 = cc in omega arith))
    (λ f. let long = ltb-false n (length s) f in (all_before b s (omega arith), none_after b s (omega arith)))
    (cases_Bool (ltb n (length s)))

-- with a byte b the text is what stands before it, the byte, and what follows it
pub after_length : (b : ℕ) (s r : List ℕ) → after b s ≡ Some r → length s ≡ length (before b s) + suc (length r)
after_length b [] r h = absurd (let z : ◌≡◌ {A = ℕ} 0 1 = cc in omega arith)
after_length b (x ∷ s) r h =
    ⊎_elim
    (λ e. let h' : Some s ≡ Some r = rw e at h in let q : s ≡ r = cc in let k = ap length q in rw e (omega arith))
    (λ e. let h' : after b s ≡ Some r = rw e at h in let q = after_length b s r h' in rw e (omega arith))
    (cases_Bool (eqb x b))

-- what stands before it is no longer than the text
pub before_length : (b : ℕ) (s : List ℕ) → length (before b s) ≤ length s
before_length b [] = omega arith
before_length b (x ∷ s) = let h = before_length b s in ⊎_elim (λ e. rw e (omega arith)) (λ e. rw e (omega arith)) (cases_Bool (eqb x b))
