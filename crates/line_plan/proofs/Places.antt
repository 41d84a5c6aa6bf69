-- The place of an item in a list.
use Rattle.std.proofs.Common.{◌≡◌, ℕ, zero, suc, ◌+◌, Bool, true, false, not, cond, ◌&&◌, ◌||◌, ltb, eqb, List, [], ◌∷◌, length, Some, None, Option, MatchOption, sym, refl, ap, ◌∙◌, ⊎_elim, arith}
use Rattle.std.specs.List.{position_or_len, position}
use Rattle.std.proofs.lemmas.Option.{cond_some, none-some}
use Rattle.std.proofs.lemmas.Bool.{cases_Bool, eqb-true, eqb-false, eq-eqb, ne_eqb, lt-ltb, true≢false, and_left}
use Rattle.std.proofs.lemmas.Bool.Decides.{nat_tests}
use Rattle.rules.specs.History.{has}
use Rattle.rules.specs.Trees.{State}
use Rattle.sums.specs.Order.{place_of, placed}
use Rattle.line_plan.specs.declared.item_list.TypedItem.{TypedItem}
use Rattle.line_plan.specs.Items.{numbers, state_of}

-- whether the item is the one with the number
abbrev pub is_it : ℕ → TypedItem → Bool
is_it n i = eqb i.number.value n

turned : (m n : ℕ) → eqb m n ≡ eqb n m
turned m n = ⊎_elim (λ e. e ∙ sym (eq-eqb n m (sym (eqb-true m n e)))) (λ e. e ∙ sym (ne_eqb n m (λ z. eqb-false m n e (sym z)))) (cases_Bool (eqb m n))

later : (a b : ℕ) → ltb (1 + a) (suc b) ≡ ltb a b
later a b = grind (arith, nat_tests)

-- a list with one item more in front
step : (x y on : Bool) (long at place : ℕ) → x ≡ y → (on ≡ ltb at long) × (on ≡ true → place ≡ at)
    → ((y || on) ≡ ltb (cond (not x) (1 + at) 0) (suc long)) × ((y || on) ≡ true → cond x zero (suc place) ≡ cond (not x) (1 + at) 0)
step true true on long at place e r = (sym (lt-ltb 0 (suc long) (omega arith)), λ _. refl)
step true false on long at place e r = absurd (true≢false e)
step false true on long at place e r = absurd (true≢false (sym e))
step false false on long at place e r = (r.0 ∙ sym (later at long), λ w. ap suc (r.1 w) ∙ (omega arith))

-- where a number stands first
first : (n : ℕ) (is : List TypedItem) → (has (numbers is) n ≡ ltb (position_or_len (is_it n) is) (length is)) × (has (numbers is) n ≡ true → place_of (numbers is) n ≡ position_or_len (is_it n) is)
first n [] = (refl, λ e. absurd (true≢false (sym e)))
first n (i ∷ is) = step (eqb i.number.value n) (eqb n i.number.value) (has (numbers is) n) (length is) (position_or_len (is_it n) is) (place_of (numbers is) n) (turned i.number.value n) (first n is)

no_place : (b : Bool) (i : ℕ) → cond b (Some i) None ≡ None → b ≡ false
no_place true i e = absurd (none-some i (sym e))
no_place false i e = refl

-- whether the item n works, where o is the first place at which it stands
pub works_at : (n : ℕ) (is : List TypedItem) (q : State) (o : Option ℕ) (r : Bool) (Q : ℕ → Type 0) → o ≡ position (is_it n) is
    → MatchOption o (r ≡ false) Q → ((i : ℕ) → Q i → r ≡ q i) → r ≡ state_of is q n
works_at n is q (Some i) r Q e found says =
    let p = cond_some _ _ _ (sym e) in
    let on = (first n is).0 ∙ p.0 in
    says i found ∙ ap q (sym ((first n is).1 on ∙ p.1)) ∙ sym (ap (λ x. x && placed (numbers is) q n) on)
works_at n is q None r Q e off says = off ∙ sym (and_left _ _ ((first n is).0 ∙ no_place _ _ (sym e)))
