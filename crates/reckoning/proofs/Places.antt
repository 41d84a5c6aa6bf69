-- The places of standing lines.
use Rattle.std.proofs.Common.{◌≡◌, ℕ, zero, suc, ◌<◌, ◌≤◌, Bool, true, false, cond, List, length, get_or, take, is_some, Some, None, Option, sym, refl, ap, ◌∙◌, subst, ⊎_elim, arith}
use mathlib.Core.Logic.{∥∥₁_elim}
use Rattle.std.specs.Option.{option_map}
use Rattle.std.proofs.lemmas.Bool.{both_ways, cond-true}
use Rattle.std.proofs.lemmas.List.{length-take-le, get_or-take}
use Rattle.rules.specs.declared.line.Line.{Line}
use Rattle.rules.specs.declared.line.Part.{Part}
use Rattle.rules.specs.declared.line.Part.TheVariants.{Block}
use Rattle.rules.specs.declared.kind.Kind.{Kind}
use Rattle.rules.specs.declared.part_number.PartNumber.{PartNumber}
use Rattle.rules.specs.declared.refusal.Refusal.{Refusal}
use Rattle.rules.specs.Tables.{no_line, At, Missing}
use Rattle.rules.specs.History.{History, given, standing, is_built_in, line_of, lines_of, place_in}
use Rattle.rules.specs.Rules.{Refused}
use Rattle.rules.specs.Ruled.{naming, Lawful}
use Rattle.rules.proofs.Counting.{how_many_same, how_many_more_numbers}
use Rattle.rules.proofs.Listings.{listing_has, listing-place}
use Rattle.rules.proofs.Sound.{sound, some_low, some_positive}
use Rattle.rules.proofs.Tables.{line, part_there, laid_number}
use Rattle.book.specs.declared.book.Book.{Book}
use Rattle.book.specs.Keeps.{Keeps, Tells, Named}
use Rattle.sums.proofs.Forest.{lines_stand, lines_low}

some_laid : (p : Option Part) (f : Part → Line) → is_some (option_map f p) ≡ is_some p
some_laid None f = refl
some_laid (Some p) f = refl

some_is : (p : Option Part) → is_some p ≡ true → (q : Part) × (p ≡ Some q)
some_is None e = absurd (both_ways false refl e)
some_is (Some q) e = (q, refl)

-- a line's place is how many lines with lower numbers stand
pub at_place : (h : History) → (n i : ℕ) → 0 < n → At (lines_of h) n i → i ≡ place_in h n
at_place h zero i pos a = absurd (omega arith)
at_place h (suc n) i pos a =
    listing-place (λ (l : Line). l.number.value) (line_of h) (laid_number (standing h) (is_built_in h)) no_line n (given h) i a.0 a.1
    ∙ how_many_same (λ m. is_some (line_of h m)) (λ m. is_some (standing h m)) n (λ m lo hi. some_laid (standing h m) (λ p. line m p (is_built_in h m)))

pub stands_at : (h : History) → Lawful h → (n : ℕ) → is_some (standing h n) ≡ true → At (lines_of h) n (place_in h n)
stands_at h l n e =
    let s = sound h l in
    let pos = some_positive (standing h) (given h) s n e in
    let p = some_is (standing h n) e in
    let r = listing_has (line_of h) (given h) n (line n p.0 (is_built_in h n)) no_line pos (some_low (standing h) (given h) s n e)
    (ap (λ (x : Option Part). option_map (λ q. line n q (is_built_in h n)) x) p.1) in
    let a : At (lines_of h) n r.0 = (r.1, ap (λ (x : Line). x.number.value) r.2) in
    subst (At (lines_of h) n) (at_place h n r.0 pos a) a

-- a line with a lower number stands at an earlier place
pub lower_earlier : (h : History) → Lawful h → (m n : ℕ) → m < n → is_some (standing h m) ≡ true → place_in h m < place_in h n
lower_earlier h l zero n lt e = absurd (omega (arith, some_positive (standing h) (given h) (sound h l) 0 e))
lower_earlier h l (suc m) zero lt e = absurd (omega arith)
lower_earlier h l (suc m) (suc n) lt e =
    let p : ℕ → Bool = λ k. is_some (standing h k) in
    let one : cond {A = ℕ} (p (suc m)) 1 0 ≡ 1 = cond-true _ _ _ e in
    let z = how_many_more_numbers p (suc m) n (omega arith) in
    omega arith

-- what stands at a place of a book
pub line_at : (h : History) (i : ℕ) → i < length (lines_of h) → standing h (get_or (lines_of h) i no_line).number.value ≡ Some (get_or (lines_of h) i no_line).part
line_at h i lt = (part_there (standing h) (is_built_in h) (given h) i _ lt refl).0

pub line_among : (h : History) (xs : List Line) (i : ℕ) → xs ≡ lines_of h → i < length xs → standing h (get_or xs i no_line).number.value ≡ Some (get_or xs i no_line).part
line_among h xs i e lt =
    subst (λ (ys : List Line). standing h (get_or ys i no_line).number.value ≡ Some (get_or ys i no_line).part) (sym e) (line_at h i (omega (arith, ap length e)))

-- the line at a place of a book has that place
pub placed : (h : History) → Lawful h → (n i : ℕ) → At (lines_of h) n i → i ≡ place_in h n
placed h l n i at =
    let here = (get_or (lines_of h) i no_line).number.value in
    let pos = some_positive (standing h) (given h) (sound h l) here (ap is_some (line_at h i at.0)) in
    subst (λ (m : ℕ). i ≡ place_in h m) at.1 (at_place h here i pos (at.0, refl))

-- a line that stands may be named
pub not_refused : (h : History) → Lawful h → (n : ℕ) (e : Refusal) → is_some (standing h n) ≡ true → Refused (naming h n) e → ⊥
not_refused h l n e on w =
    let s = sound h l in
    let pos = some_positive (standing h) (given h) s n on in
    let le = some_low (standing h) (given h) s n on in
    ⊎_elim
    (λ v. ⊎_elim (λ z. omega arith) (λ lt. omega arith) v.0)
    (λ v. ⊎_elim (λ u. both_ways (is_some (standing h n)) (ap is_some u.0) on) (λ u. u.1) v.1)
    w

-- some history has the book
pub from_kept : (b : Book) → ((h : History) → Keeps h b → ⊥) → ⊥
from_kept b f = ∥∥₁_elim b.kept (λ x y. absurd x) (λ k. f k.0 k.1)

-- where a book names a line, that line stands in each of its histories
pub found : (b : Book) (n i : ℕ) → Named n b i → (h : History) → Keeps h b → At (lines_of h) n i
found b n i s h k = subst (λ (xs : List Line). At xs n i) k.lines s.0

-- a line with a lower number than the line at the place i is among those before it
pub stands_before : (h : History) → Lawful h → (xs : List Line) (m n i : ℕ) → xs ≡ lines_of h → At xs n i → m < n → is_some (standing h m) ≡ true → At (take i xs) m (place_in h m)
stands_before h l xs m n i e at lt on =
    let here = subst (λ (ys : List Line). At ys m (place_in h m)) (sym e) (stands_at h l m on) in
    let place = placed h l n i (subst (λ (ys : List Line). At ys n i) e at) in
    let earlier : place_in h m < i = omega (arith, lower_earlier h l m n lt on) in
    (omega (arith, length-take-le i xs (omega (arith, at.0))), ap (λ (x : Line). x.number.value) (get_or-take i xs (place_in h m) no_line earlier) ∙ here.1)

-- a line found among those before the place i has the place that each history gives it
pub placed_before : (h : History) → Lawful h → (xs : List Line) (m i j : ℕ) → xs ≡ lines_of h → i ≤ length xs → At (take i xs) m j → j ≡ place_in h m
placed_before h l xs m i j e within at =
    let earlier : j < i = omega (arith, at.0, length-take-le i xs within) in
    placed h l m j (subst (λ (ys : List Line). At ys m j) e (omega arith, sym (ap (λ (x : Line). x.number.value) (get_or-take i xs j no_line earlier)) ∙ at.1))

-- both lines of the block at the place i stand among those before it
module _ (v : Book) (xs : List Line) (i : ℕ) (k : Kind) (a b : PartNumber) (are : Tells v (λ h. xs ≡ lines_of h)) (lt : i < length xs) (is : (get_or xs i no_line).part ≡ Block k a b) where
  both : (h : History) → Keeps h v → At (take i xs) a.value (place_in h a.value) × At (take i xs) b.value (place_in h b.value)
  both h kept =
      let here = line_among h xs i (are h kept) lt ∙ ap Some is in
      let low = lines_low h kept.lawful _ k a b here in
      let on = lines_stand h kept.lawful _ k a b here in
      (stands_before h kept.lawful xs _ _ i (are h kept) (lt, refl) low.0 on.0, stands_before h kept.lawful xs _ _ i (are h kept) (lt, refl) low.1 on.1)

  pub lines_before : (Missing (take i xs) a.value → ⊥) × (Missing (take i xs) b.value → ⊥)
  lines_before = (
    λ missing. from_kept v (λ h kept. let at = (both h kept).0 in missing _ at.0 at.1),
    λ missing. from_kept v (λ h kept. let at = (both h kept).1 in missing _ at.0 at.1),
  )
