-- The first word of a line and the first line of a text, each with what follows it.
use Rattle.std.proofs.Common.{◌≡◌, ℕ, suc, ◌+◌, eqb, List, [], ◌∷◌, length, Some, None, Option, refl, ap, ◌∙◌, ⊎_elim, add-one, arith}
use Rattle.std.proofs.lemmas.Bool.{cases_Bool}
use Rattle.text.specs.Texts.{longer, lines_in, words_in, before, after, numbered}
use Rattle.text.specs.Tokens.{token_of, placed, tokens}
use Rattle.text.specs.Cursors.{tokens_at}
use Rattle.text.proofs.Finding.{after_length}

abbrev pub words_after : Option (List ℕ) → List (List ℕ)
words_after None = []
words_after (Some s) = words_in s

pub first_word : (s : List ℕ) → words_in s ≡ before 32 s ∷ words_after (after 32 s)
first_word [] = refl
first_word (b ∷ s) = ⊎_elim (λ e. rw e) (λ e. rw e (ap (longer b) (first_word s))) (cases_Bool (eqb b 32))

placed_after : (p : ℕ) (o : Option (List ℕ)) → placed p (words_after o) ≡ tokens_at p o
placed_after p None = refl
placed_after p (Some s) = refl

pub first_token : (p : ℕ) (s : List ℕ) → tokens p s ≡ token_of (before 32 s) p ∷ tokens_at (p + suc (length (before 32 s))) (after 32 s)
first_token p s =
    ap (placed p) (first_word s)
    ∙ ap (λ ts. token_of (before 32 s) p ∷ ts) (placed_after (p + suc (length (before 32 s))) (after 32 s))

pub first_line_of : (t r : List ℕ) → after 10 t ≡ Some r → lines_in t ≡ before 10 t ∷ lines_in r
first_line_of [] r h = absurd (let z : ◌≡◌ {A = ℕ} 0 1 = cc in omega arith)
first_line_of (b ∷ t) r h =
    ⊎_elim
    (λ e. let h' : Some t ≡ Some r = rw e at h in let q : t ≡ r = cc in rw e (ap (λ l. [] ∷ lines_in l) q))
    (λ e. let h' : after 10 t ≡ Some r = rw e at h in rw e (ap (longer b) (first_line_of t r h')))
    (cases_Bool (eqb b 10))

pub no_line : (t : List ℕ) → after 10 t ≡ None → lines_in t ≡ []
no_line [] h = refl
no_line (b ∷ t) h =
    ⊎_elim
    (λ e. let h' : Some t ≡ None = rw e at h in absurd (let z : ◌≡◌ {A = ℕ} 0 1 = cc in omega arith))
    (λ e. let h' : after 10 t ≡ None = rw e at h in rw e (ap (longer b) (no_line t h')))
    (cases_Bool (eqb b 10))

-- a word taken from the words that are left, which begin with s at the place p
pub next_token : (p : ℕ) (left r : Option (List ℕ)) (s w : List ℕ) → left ≡ Some s → w ≡ before 32 s → r ≡ after 32 s → tokens_at p left ≡ token_of w p ∷ tokens_at (p + (length w + 1)) r
next_token p left r s w is front rest = rw (is, front, rest, add-one) (first_token p s)

-- a line taken from the lines that are left, which are those of t at the place p
pub next_line : (n p : ℕ) (t r l : List ℕ) → after 10 t ≡ Some r → l ≡ before 10 t → numbered (suc n) p (lines_in t) ≡ record { bytes = l; number = n + 1; place = p } ∷ numbered (suc (n + 1)) (p + (length l + 1)) (lines_in r)
next_line n p t r l is front = rw (first_line_of t r is, front, add-one, add-one)

pub line_length : (t r l : List ℕ) → after 10 t ≡ Some r → l ≡ before 10 t → length t ≡ length l + suc (length r)
line_length t r l is front = let long = after_length 10 t r is in let same = ap length front in omega arith
