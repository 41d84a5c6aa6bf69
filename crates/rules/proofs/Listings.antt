-- What stands where in a listing.
use Rattle.std.proofs.Common.{◌≡◌, ℕ, zero, suc, ◌<◌, ◌≤◌, Bool, cond, List, [], ◌∷◌, ◌++◌, length, get_or, take, drop, set, is_some, Some, None, count_by, Option, sym, refl, ap, ◌∙◌, subst, ⊎_elim, arith}
use Rattle.std.specs.Option.{option_to_list}
use Rattle.std.specs.List.{remove}
use Rattle.std.proofs.lemmas.List.{append-nil, append_assoc, length_push, length-append, get_or_push, get_or_append_left, set_at, set-append_left, take_at, drop_all, take-append-le, drop-append-le}
use Rattle.std.proofs.lemmas.List.Sums.{sum_by-append}
use Rattle.std.proofs.lemmas.Bool.{cases_lt, cases_eq}
use Rattle.rules.specs.History.{listing, how_many}

-- the last place of a list with at most one element more
last_in : {X : Type 0} (xs : List X) (o : Option X) (i : ℕ) (d : X) → length xs ≤ i → i < length (xs ++ option_to_list o) → (o ≡ Some (get_or (xs ++ option_to_list o) i d)) × (i ≡ length xs)
last_in xs None i d le lt = absurd (omega (arith, ap length (append-nil xs)))
last_in xs (Some x) i d le lt =
    let e : length xs ≡ i = omega (arith, length_push xs x) in
    (ap Some (sym (get_or_push xs x d i e)), sym e)

removed_push : {X : Type 0} (xs : List X) (x : X) (i : ℕ) → length xs ≡ i → remove (xs ++ x ∷ []) i ≡ xs
removed_push {X = X} xs x i e =
    ap (λ (ys : List X). ys ++ drop (suc i) (xs ++ x ∷ [])) (take_at xs (x ∷ []) i e)
    ∙ ap (λ (ys : List X). xs ++ ys) (drop_all (suc i) (xs ++ x ∷ []) (omega (arith, length_push xs x)))
    ∙ append-nil xs

removed_left : {X : Type 0} (xs ys : List X) (i : ℕ) → i < length xs → remove (xs ++ ys) i ≡ remove xs i ++ ys
removed_left {X = X} xs ys i lt =
    ap (λ (zs : List X). zs ++ drop (suc i) (xs ++ ys)) (take-append-le i xs ys (omega arith))
    ∙ ap (λ (zs : List X). take i xs ++ zs) (drop-append-le (suc i) xs ys (omega arith))
    ∙ sym (append_assoc (take i xs) (drop (suc i) xs) ys)

module _ {X : Type 0} where
  pub listing_same : (f g : ℕ → Option X) (m : ℕ) → ((n : ℕ) → 0 < n → n ≤ m → f n ≡ g n) → listing f m ≡ listing g m
  listing_same f g zero same = refl
  listing_same f g (suc m) same =
      ap (λ xs. xs ++ option_to_list (f (suc m))) (listing_same f g m (λ n lo hi. same n lo (omega arith)))
      ∙ ap (λ o. listing g m ++ option_to_list o) (same (suc m) (omega arith) (omega arith))

  -- each place of a listing holds what f has at some number
  pub listing_in : (f : ℕ → Option X) (m i : ℕ) (d : X) → i < length (listing f m) → (n : ℕ) × (0 < n) × (n ≤ m) × (f n ≡ Some (get_or (listing f m) i d))
  listing_in f zero i d lt = absurd (omega arith)
  listing_in f (suc m) i d lt =
      ⊎_elim
      (λ a. let r = listing_in f m i d a in
      (r.0, r.1, omega (arith, r.2), r.3 ∙ ap Some (sym (get_or_append_left (listing f m) (option_to_list (f (suc m))) d i a))))
      (λ b. (suc m, omega arith, omega arith, (last_in (listing f m) (f (suc m)) i d b lt).0))
      (cases_lt i (length (listing f m)))

  -- what f has at a number stands at some place
  pub listing_has : (f : ℕ → Option X) (m n : ℕ) (x d : X) → 0 < n → n ≤ m → f n ≡ Some x → (i : ℕ) × (i < length (listing f m)) × (get_or (listing f m) i d ≡ x)
  listing_has f zero n x d pos le e = absurd (omega arith)
  listing_has f (suc m) n x d pos le e =
      ⊎_elim
      (λ (a : n ≡ suc m).
      let g : f (suc m) ≡ Some x = subst (λ (k : ℕ). f k ≡ Some x) a e in (
        length (listing f m),
        subst (λ (o : Option X). length (listing f m) < length (listing f m ++ option_to_list o)) (sym g) (omega (arith, length_push (listing f m) x)),
        subst (λ (o : Option X). get_or (listing f m ++ option_to_list o) (length (listing f m)) d ≡ x) (sym g) (get_or_push (listing f m) x d (length (listing f m)) refl),
      ))
      (λ a. let r = listing_has f m n x d pos (omega arith) e in (
        r.0,
        omega (arith, r.1, length-append (listing f m) (option_to_list (f (suc m)))),
        get_or_append_left (listing f m) (option_to_list (f (suc m))) d r.0 r.1 ∙ r.2,
      ))
      (cases_eq n (suc m))

  -- how many pass a test of what f has
  pub listing_count : (f : ℕ → Option X) (p : X → Bool) (q : ℕ → Bool) (m : ℕ) → ((n : ℕ) → count_by p (option_to_list (f n)) ≡ cond (q n) 1 0) → count_by p (listing f m) ≡ how_many m q
  listing_count f p q zero each = refl
  listing_count f p q (suc m) each =
      omega (arith, sum_by-append (λ x. cond {A = ℕ} (p x) 1 0) (listing f m) (option_to_list (f (suc m))), listing_count f p q m each, each (suc m))

  pub listing_length : (f : ℕ → Option X) (m : ℕ) → length (listing f m) ≡ how_many m (λ n. is_some (f n))
  listing_length f zero = refl
  listing_length f (suc m) = omega (arith, length-append (listing f m) (option_to_list (f (suc m))), one (f (suc m)), listing_length f m)
    where
      one : (o : Option X) → length (option_to_list o) ≡ cond (is_some o) 1 0
      one None = refl
      one (Some x) = refl

  -- each element carries its number
  module _ (number : X → ℕ) (f : ℕ → Option X) (numbered : (n : ℕ) (x : X) → f n ≡ Some x → number x ≡ n) (d : X) where
    -- where the number a stands in a listing of one number more
    late : (a m i : ℕ) → a ≡ suc m → i < length (listing f (suc m)) → number (get_or (listing f (suc m)) i d) ≡ a → length (listing f m) ≤ i
    late a m i s lt at =
        ⊎_elim
        (λ (lo : i < length (listing f m)). let r = listing_in f m i d lo in
        let z = numbered r.0 (get_or (listing f m) i d) r.3 in
        let w = ap number (get_or_append_left (listing f m) (option_to_list (f (suc m))) d i lo) in
        absurd (omega (arith, r.2, z, w, at, s)))
        (λ hi. hi)
        (cases_lt i (length (listing f m)))

    early : (a m i : ℕ) → (a ≡ suc m → ⊥) → i < length (listing f (suc m)) → number (get_or (listing f (suc m)) i d) ≡ a → i < length (listing f m)
    early a m i s lt at =
        ⊎_elim
        (λ lo. lo)
        (λ hi. let p = last_in (listing f m) (f (suc m)) i d hi lt in absurd (s (sym at ∙ numbered (suc m) _ p.0)))
        (cases_lt i (length (listing f m)))

    -- what f has at a number is another
    pub listing-set : (f' : ℕ → Option X) (a : ℕ) (y : X) → ((n : ℕ) → (n ≡ a → ⊥) → f' n ≡ f n) → f' a ≡ Some y → (m i : ℕ) → i < length (listing f m) → number (get_or (listing f m) i d) ≡ a → listing f' m ≡ set (listing f m) i y
    listing-set f' a y same here zero i lt at = absurd (omega arith)
    listing-set f' a y same here (suc m) i lt at =
        ⊎_elim
        (λ (s : a ≡ suc m).
        let p = last_in (listing f m) (f (suc m)) i d (late a m i s lt at) lt in
        ap (λ (xs : List X). xs ++ option_to_list (f' (suc m))) (listing_same f' f m (λ n lo hi. same n (λ e. omega arith)))
        ∙ ap (λ (o : Option X). listing f m ++ option_to_list o) (ap f' (sym s) ∙ here)
        ∙ sym (ap (λ (o : Option X). set (listing f m ++ option_to_list o) i y) p.0 ∙ set_at (listing f m) _ [] y i (sym p.1)))
        (λ (s : a ≡ suc m → ⊥).
        let low = early a m i s lt at in
        ap (λ (xs : List X). xs ++ option_to_list (f' (suc m)))
        (listing-set f' a y same here m i low (sym (ap number (get_or_append_left (listing f m) (option_to_list (f (suc m))) d i low)) ∙ at))
        ∙ ap (λ (o : Option X). set (listing f m) i y ++ option_to_list o) (same (suc m) (λ e. s (sym e)))
        ∙ sym (set-append_left (listing f m) (option_to_list (f (suc m))) i y low))
        (cases_eq a (suc m))

    -- f has nothing at a number any more
    pub listing-removed : (f' : ℕ → Option X) (a : ℕ) → ((n : ℕ) → (n ≡ a → ⊥) → f' n ≡ f n) → f' a ≡ None → (m i : ℕ) → i < length (listing f m) → number (get_or (listing f m) i d) ≡ a → listing f' m ≡ remove (listing f m) i
    listing-removed f' a same here zero i lt at = absurd (omega arith)
    listing-removed f' a same here (suc m) i lt at =
        ⊎_elim
        (λ (s : a ≡ suc m).
        let p = last_in (listing f m) (f (suc m)) i d (late a m i s lt at) lt in
        ap (λ (xs : List X). xs ++ option_to_list (f' (suc m))) (listing_same f' f m (λ n lo hi. same n (λ e. omega arith)))
        ∙ ap (λ (o : Option X). listing f m ++ option_to_list o) (ap f' (sym s) ∙ here)
        ∙ append-nil (listing f m)
        ∙ sym (ap (λ (o : Option X). remove (listing f m ++ option_to_list o) i) p.0 ∙ removed_push (listing f m) _ i (sym p.1)))
        (λ (s : a ≡ suc m → ⊥).
        let low = early a m i s lt at in
        ap (λ (xs : List X). xs ++ option_to_list (f' (suc m)))
        (listing-removed f' a same here m i low (sym (ap number (get_or_append_left (listing f m) (option_to_list (f (suc m))) d i low)) ∙ at))
        ∙ ap (λ (o : Option X). remove (listing f m) i ++ option_to_list o) (same (suc m) (λ e. s (sym e)))
        ∙ sym (removed_left (listing f m) (option_to_list (f (suc m))) i low))
        (cases_eq a (suc m))

    -- an element stands after as many as have lower numbers
    pub listing-place : (n m i : ℕ) → i < length (listing f m) → number (get_or (listing f m) i d) ≡ suc n → i ≡ how_many n (λ k. is_some (f k))
    listing-place n zero i lt at = absurd (omega arith)
    listing-place n (suc m) i lt at =
        ⊎_elim
        (λ (s : suc n ≡ suc m).
        let p = last_in (listing f m) (f (suc m)) i d (late (suc n) m i s lt at) lt in
        let e : n ≡ m = omega arith in
        p.1 ∙ listing_length f m ∙ ap (λ (k : ℕ). how_many k (λ j. is_some (f j))) (sym e))
        (λ (s : suc n ≡ suc m → ⊥).
        let low = early (suc n) m i s lt at in
        listing-place n m i low (sym (ap number (get_or_append_left (listing f m) (option_to_list (f (suc m))) d i low)) ∙ at))
        (cases_eq (suc n) (suc m))
