-- Each line and each token is the part of the text at its place.
use Rattle.std.proofs.Common.{◌≡◌, ℕ, suc, ◌+◌, ◌≤◌, eqb, List, [], ◌∷◌, ◌++◌, length, Some, None, Option, sym, refl, ap, ◌∙◌, subst, ⊎_elim, append_assoc, arith, length-append, eqb-true}
use Rattle.std.specs.List.{AllByRecursion, last_or}
use Rattle.std.proofs.lemmas.Bool.{cases_Bool}
use Rattle.text.specs.declared.token.Verb.{Verb}
use Rattle.text.specs.Texts.{Line, longer, lines_in, words_in, numbered, lines_of}
use Rattle.text.specs.Tokens.{word, verb_of, letter_or, token_of, placed}
use Rattle.text.specs.Laws.{Stands, TokenStands, LineStands}
use Rattle.text.proofs.Writing.{spaced, spaced_words, verb_told}

token_stands : (t : List ℕ) (p : ℕ) (w : List ℕ) → Stands t p w → TokenStands t (token_of w p)
token_stands t p [] s = s
token_stands t p (b ∷ []) s = at (verb_of b) refl
  where
    at : (o : Option Verb) → verb_of b ≡ o → TokenStands t (letter_or o p (word (b ∷ []) p))
    at None e = s
    at (Some v) e = subst (λ x. Stands t p (x ∷ [])) (verb_told b v e) s
token_stands t p (a ∷ b ∷ w) s = s

-- the words of a line that stands at the place p
words_stand : (t front rest : List ℕ) (p : ℕ) (ws : List (List ℕ)) → t ≡ front ++ (spaced ws ++ rest) → length front ≡ p → AllByRecursion (TokenStands t) (placed p ws)
words_stand t front rest p [] is long = tt
words_stand t front rest p (w ∷ []) is long = (token_stands t p w (front, rest, is, long), tt)
words_stand t front rest p (w ∷ v ∷ ws) is long =
    let here : t ≡ front ++ (w ++ (32 ∷ (spaced (v ∷ ws) ++ rest))) = is ∙ ap (λ l. front ++ l) (append_assoc w (32 ∷ spaced (v ∷ ws)) rest) in
    let on : t ≡ (front ++ (w ++ 32 ∷ [])) ++ (spaced (v ∷ ws) ++ rest) = here ∙ sym (simp append_assoc) in
    let more : length (front ++ (w ++ 32 ∷ [])) ≡ p + suc (length w) = simp length-append (omega arith) in
    (token_stands t p w (front, 32 ∷ (spaced (v ∷ ws) ++ rest), here, long), words_stand t (front ++ (w ++ 32 ∷ [])) rest (p + suc (length w)) (v ∷ ws) on more)

-- lines, each ended by byte 10
abbrev ended_lines : List (List ℕ) → List ℕ
ended_lines [] = []
ended_lines (l ∷ ls) = l ++ 10 ∷ ended_lines ls

lines_joined : (t : List ℕ) → (rest : List ℕ) × (t ≡ ended_lines (lines_in t) ++ rest)
lines_joined [] = ([], refl)
lines_joined (b ∷ t) =
    let k = lines_joined t in
    ⊎_elim
    (λ e. let here : b ≡ 10 = eqb-true b 10 e in rw e (k.0, ap (λ x. x ∷ t) here ∙ ap (λ l. 10 ∷ l) k.1))
    (λ e. rw e (longer-joined b t (lines_in t) k.0 k.1))
    (cases_Bool (eqb b 10))
  where
    longer-joined : (b : ℕ) (t : List ℕ) (ls : List (List ℕ)) (rest : List ℕ) → t ≡ ended_lines ls ++ rest → (rest : List ℕ) × (b ∷ t ≡ ended_lines (longer b ls) ++ rest)
    longer-joined b t [] rest is = (b ∷ t, refl)
    longer-joined b t (l ∷ ls) rest is = (rest, ap (λ s. b ∷ s) is)

lines_laid : (t front rest : List ℕ) (n p : ℕ) (ls : List (List ℕ)) → t ≡ front ++ (ended_lines ls ++ rest) → length front ≡ p → AllByRecursion (LineStands t) (numbered n p ls)
lines_laid t front rest n p [] is long = tt
lines_laid t front rest n p (l ∷ ls) is long =
    let here : t ≡ front ++ (l ++ (10 ∷ (ended_lines ls ++ rest))) = is ∙ ap (λ s. front ++ s) (append_assoc l (10 ∷ ended_lines ls) rest) in
    let line : t ≡ front ++ ((l ++ 10 ∷ []) ++ (ended_lines ls ++ rest)) = here ∙ sym (simp append_assoc) in
    let words : t ≡ front ++ (spaced (words_in l) ++ (10 ∷ (ended_lines ls ++ rest))) = here ∙ ap (λ s. front ++ (s ++ (10 ∷ (ended_lines ls ++ rest)))) (sym (spaced_words l)) in
    let on : t ≡ (front ++ (l ++ 10 ∷ [])) ++ (ended_lines ls ++ rest) = here ∙ sym (simp append_assoc) in
    let more : length (front ++ (l ++ 10 ∷ [])) ≡ p + suc (length l) = simp length-append (omega arith) in
    (((front, ended_lines ls ++ rest, line, long), words_stand t front (10 ∷ (ended_lines ls ++ rest)) p (words_in l) words long), lines_laid t (front ++ (l ++ 10 ∷ [])) rest (suc n) (p + suc (length l)) ls on more)

pub lines_stand : (t : List ℕ) → AllByRecursion (LineStands t) (lines_of t)
lines_stand t = let k = lines_joined t in lines_laid t [] k.0 1 0 (lines_in t) k.1 refl

last_keeps : {X : Type 0} (P : X → Type 0) (o : Option X) (xs : List X) (x : X) → AllByRecursion P xs → (o ≡ Some x → P x) → last_or o xs ≡ Some x → P x
last_keeps P o [] x all before is = before is
last_keeps P o (y ∷ ys) x all before is = last_keeps P (Some y) ys x all.1 (λ e. let same : y ≡ x = cc in subst P same all.0) is

-- the last line begins within the text
pub last_within : (t : List ℕ) (line : Line) → last_or None (lines_of t) ≡ Some line → line.place ≤ length t
last_within t line is =
    let (front, rest, whole, long) = (last_keeps (LineStands t) None (lines_of t) line (lines_stand t) (λ none. absurd (let z : ◌≡◌ {A = ℕ} 0 1 = cc in omega arith)) is).0 in
    omega (arith, long, ap length whole, length-append front ((line.bytes ++ 10 ∷ []) ++ rest))
