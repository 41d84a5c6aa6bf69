-- The lines of a table stand in rising number, and what a search for a number finds.
use Rattle.std.proofs.Common.{◌≡◌, ℕ, zero, suc, ◌-◌, ◌<◌, ◌≤◌, Bool, false, List, [], ◌++◌, ◌+◌, length, get_or, Some, None, Option, Result, Ok, Err, MatchOption, sym, refl, ap, ◌∙◌, subst, ⊎_elim, arith}
use Rattle.std.specs.Option.{option_to_list}
use Rattle.std.specs.Result.{result_ok}
use Rattle.std.specs.List.{remove}
use Rattle.std.specs.List.Sorted.{IsSearchInRange, IsBinarySearchResult, IsNonDecreasingBy}
use Rattle.std.specs.Ordering.{nat_cmp, ordering_index}
use Rattle.std.proofs.lemmas.Bool.{cases_lt, cases_eq}
use Rattle.std.proofs.lemmas.Bool.Decides.{nat_tests}
use Rattle.std.proofs.lemmas.Cmp.{ranked}
use Rattle.std.proofs.lemmas.List.{append-nil, get_or_default, get_or-set_same, get_or-set_other, length-set}
use Rattle.std.proofs.lemmas.List.Edits.{length-remove, get_or-remove_below, get_or-remove_above}
use Rattle.std.proofs.lemmas.List.Sorted.{IsNonDecreasingBy-short, IsNonDecreasingBy-push}
use Rattle.rules.specs.declared.line.Line.{Line}
use Rattle.rules.specs.Tables.{with_mark, no_line, marked, At, Missing, Released}
use Rattle.rules.specs.History.{History, given, standing, is_built_in, line_of, listing, lines_of}
use Rattle.rules.proofs.Listings.{listing_in}
use Rattle.rules.proofs.Tables.{laid_number}
use Rattle.book.specs.Tables.{Rising}

-- the standing lines of a history
pub rising_lines : (h : History) → Rising (lines_of h)
rising_lines h = upto (given h)
  where
    last_below : (m : ℕ) (d : Line) → 0 < length (listing (line_of h) m) → (get_or (listing (line_of h) m) (length (listing (line_of h) m) - 1) d).number.value ≤ m
    last_below m d some =
        let r = listing_in (line_of h) m (length (listing (line_of h) m) - 1) d (omega arith) in
        omega (arith, r.2, laid_number (standing h) (is_built_in h) r.0 _ r.3)

    more : (m : ℕ) (o : Option Line) → line_of h (suc m) ≡ o → Rising (listing (line_of h) m) → Rising (listing (line_of h) m ++ option_to_list o)
    more m None e up = subst Rising (sym (append-nil (listing (line_of h) m))) up
    more m (Some l) e up =
        IsNonDecreasingBy-push (λ (x : Line). x.number.value) (listing (line_of h) m) l up
        (λ d some. omega (arith, last_below m d some, laid_number (standing h) (is_built_in h) (suc m) l e))

    upto : (m : ℕ) → Rising (listing (line_of h) m)
    upto zero = IsNonDecreasingBy-short (λ (x : Line). x.number.value) [] (omega arith)
    upto (suc m) = more m (line_of h (suc m)) refl (upto m)

-- a line taken out
pub rising_removed : (xs : List Line) (i : ℕ) → i < length xs → Rising xs → Rising (remove xs i)
rising_removed xs i lt up j k d le below =
    let number = λ (x : Line). x.number.value in
    let short = length-remove xs i lt in
    ⊎_elim
    (λ (b : k < i). omega (arith, up j k d le (omega arith), ap number (get_or-remove_below xs i d j (omega arith) lt), ap number (get_or-remove_below xs i d k b lt)))
    (λ (a : i ≤ k). ⊎_elim
    (λ (b : j < i). omega (arith, up j (k + 1) d (omega arith) (omega arith), ap number (get_or-remove_below xs i d j b lt), ap number (get_or-remove_above xs i d k a lt)))
    (λ (b : i ≤ j). omega (arith, up (j + 1) (k + 1) d (omega arith) (omega arith), ap number (get_or-remove_above xs i d j b lt), ap number (get_or-remove_above xs i d k a lt)))
    (cases_lt j i))
    (cases_lt k i)

-- another mark changes no number
number_marked : (xs : List Line) (i : ℕ) (v : Bool) (k : ℕ) (d : Line) → i < length xs → (get_or (marked xs i v) k d).number.value ≡ (get_or xs k d).number.value
number_marked xs i v k d lt =
    let number = λ (x : Line). x.number.value in
    let l = get_or xs i no_line in
    ⊎_elim
    (λ (e : k ≡ i). subst (λ (j : ℕ). (get_or (marked xs i v) j d).number.value ≡ (get_or xs j d).number.value) (sym e)
    (ap number (get_or-set_same xs i (with_mark v l) d lt) ∙ ap number (get_or_default xs i no_line d lt)))
    (λ (e : k ≡ i → ⊥). ap number (get_or-set_other xs i k (with_mark v l) d e))
    (cases_eq k i)

-- a line made free
pub rising_released : (n : ℕ) (xs ys : List Line) → Released n xs ys → Rising xs → Rising ys
rising_released n xs ys r up =
    ⊎_elim
    (λ w. subst Rising (sym w.1) up)
    (λ w. subst Rising (sym w.2)
    (λ j k d le lt. omega (
      arith,
      number_marked xs w.0 false j d w.1.0,
      number_marked xs w.0 false k d w.1.0,
      up j k d le (omega (arith, lt, length-set xs w.0 (with_mark false (get_or xs w.0 no_line)))),
    )))
    r

module _ (xs : List Line) (n : ℕ) (up : Rising xs) where
  -- the comparisons with n rise along the table, as a binary search asks
  comparisons_rise : IsNonDecreasingBy (λ l. ordering_index (nat_cmp l.number.value n)) xs
  comparisons_rise i j d le lt = let numbers = up i j d le lt in grind (arith, nat_tests)

  -- a binary search ends at the line n, if there is one
  pub searched : (r : Result ℕ ℕ) → IsSearchInRange r (length xs) → IsBinarySearchResult (λ l. nat_cmp l.number.value n) xs r → MatchOption (result_ok r) (Missing xs n) (At xs n)
  searched (Ok i) lt equal = (lt, ranked _ n _ (sym (equal no_line)))
  searched (Err i) le parted = λ k lt same.
      let sides = parted comparisons_rise in
      ⊎_elim
      (λ (b : k < i). omega (arith, ranked _ n _ (sym (sides.0 k no_line (omega arith) b)), same))
      (λ (a : i ≤ k). omega (arith, ranked _ n _ (sym (sides.1 k no_line a lt)), same))
      (cases_lt k i)
