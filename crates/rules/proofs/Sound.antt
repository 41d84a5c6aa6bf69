-- What holds of the lines that stand after a lawful history.
use Rattle.std.proofs.Common.{◌≡◌, ℕ, zero, suc, ◌<◌, ◌≤◌, Bool, true, false, cond, ◌||◌, eqb, ◌⊎◌, List, [], ◌∷◌, is_some, Some, None, Option, sym, refl, ap, ◌∙◌, subst, inl, inr, ⊎_elim, arith}
use Rattle.std.specs.Option.{option_map}
use Rattle.std.proofs.lemmas.Bool.{cases_Bool, cases_lt, eqb-true, eq-eqb, ne_eqb, cond-true, cond-false, or_cases, or_from, both_ways}
use Rattle.rules.specs.declared.change.Change.TheVariants.{Issue, Join, Withdraw}
use Rattle.rules.specs.declared.item_type.ItemType.{ItemType}
use Rattle.rules.specs.declared.kind.Kind.{Kind}
use Rattle.rules.specs.declared.line.Part.{Part}
use Rattle.rules.specs.declared.line.Part.TheVariants.{Item, Block}
use Rattle.rules.specs.declared.part_number.PartNumber.{PartNumber}
use Rattle.rules.specs.Types.{type_numbered}
use Rattle.rules.specs.History.{History, given, standing, has, under, any_upto, is_built_in}
use Rattle.rules.specs.Rules.{Allowed}
use Rattle.rules.specs.Ruled.{using_line, change_rules, Lawful}
use Rattle.rules.proofs.Counting.{cond_cases, any_same, any_none, any_has, Distinct}

-- what stands, but for the number x
abbrev pub changed : (ℕ → Option Part) → ℕ → Option Part → ℕ → Option Part
changed o x p n = cond (eqb n x) p (o n)

-- whether n lies beneath a block that stands under a number from 1 to g
abbrev pub built : (ℕ → Option Part) → ℕ → ℕ → Bool
built o g n = any_upto g (λ m. has (under (o m)) n)

-- what holds of the lines that stand, numbered up to g
pub record Sound (o : ℕ → Option Part) (g : ℕ) : Type 0 where
  pub above : (n : ℕ) → g < n → o n ≡ None
  pub at_zero : o 0 ≡ None
  pub low : (m n : ℕ) → has (under (o m)) n ≡ true → n < m
  pub stands : (m n : ℕ) → has (under (o m)) n ≡ true → is_some (o n) ≡ true
  pub once : (i j n : ℕ) → has (under (o i)) n ≡ true → has (under (o j)) n ≡ true → i ≡ j
  pub distinct : (m : ℕ) → Distinct (under (o m))

module _ (o : ℕ → Option Part) (g : ℕ) (s : Sound o g) where
  pub some_low : (n : ℕ) → is_some (o n) ≡ true → n ≤ g
  some_low n e = ⊎_elim (λ lt. absurd (both_ways (is_some (o n)) (ap is_some (s.above n lt)) e)) (λ le. le) (cases_lt g n)

  pub some_positive : (n : ℕ) → is_some (o n) ≡ true → 0 < n
  some_positive n e =
      ⊎_elim (λ pos. pos)
      (λ (z : n ≤ 0). let y : n ≡ 0 = omega arith in absurd (both_ways (is_some (o n)) (ap (λ (k : ℕ). is_some (o k)) y ∙ ap is_some s.at_zero) e))
      (cases_lt 0 n)

  pub over_some : (m n : ℕ) → has (under (o m)) n ≡ true → is_some (o m) ≡ true
  over_some m n e = at (o m) e
    where
      at : (p : Option Part) → has (under p) n ≡ true → is_some p ≡ true
      at None f = absurd (both_ways false refl f)
      at (Some p) f = refl

  -- a line beneath a standing block is built in, and no other
  pub over_built : (m n : ℕ) → has (under (o m)) n ≡ true → built o g n ≡ true
  over_built m n e = any_has _ g m (omega (arith, s.low m n e)) (some_low m (over_some m n e)) e

  pub not_over : (n : ℕ) → built o g n ≡ false → (m : ℕ) → has (under (o m)) n ≡ true → ⊥
  not_over n off m e = both_ways (built o g n) off (over_built m n e)

  -- a line that is built in stands
  pub built_some : (n : ℕ) → built o g n ≡ true → is_some (o n) ≡ true
  built_some n e = find g e
    where
      find : (m : ℕ) → any_upto m (λ k. has (under (o k)) n) ≡ true → is_some (o n) ≡ true
      find zero f = absurd (both_ways false refl f)
      find (suc m) f = ⊎_elim (λ f. s.stands (suc m) n f) (λ f. find m f) (or_cases _ _ f)

  pub next_not_built : built o g (suc g) ≡ false
  next_not_built = any_none _ g (λ m lo hi. ⊎_elim (λ y. absurd (let z = s.low m (suc g) y in omega arith)) (λ y. y) (cases_Bool (has (under (o m)) (suc g))))

  -- a line p is made under the next number
  pub sound_add : (p : Option Part) → ((n : ℕ) → has (under p) n ≡ true → (is_some (o n) ≡ true) × ((m : ℕ) → has (under (o m)) n ≡ true → ⊥)) → Distinct (under p) → Sound (changed o (suc g) p) (suc g)
  sound_add p good d = record {
    above = λ n lt. ⊎_elim (λ w. absurd (omega (arith, w.0))) (λ w. w.1 ∙ s.above n (omega arith)) (view n);
    at_zero = ⊎_elim (λ w. absurd (let z = w.0 in omega arith)) (λ w. w.1 ∙ s.at_zero) (view 0);
    low = λ m n e. ⊎_elim
        (λ w. let z = some_low n (good n (to n w.1 e)).0 in omega (arith, w.0))
        (λ w. s.low m n (to n w.1 e)) (view m);
    stands = λ m n e. kept n (⊎_elim (λ w. (good n (to n w.1 e)).0) (λ w. s.stands m n (to n w.1 e)) (view m));
    once = λ i j n e f. ⊎_elim
        (λ v. ⊎_elim (λ w. v.0 ∙ sym w.0) (λ w. absurd ((good n (to n v.1 e)).1 j (to n w.1 f))) (view j))
        (λ v. ⊎_elim (λ w. absurd ((good n (to n w.1 f)).1 i (to n v.1 e))) (λ w. s.once i j n (to n v.1 e) (to n w.1 f)) (view j))
        (view i);
    distinct = λ m. ⊎_elim (λ w. subst (λ (q : Option Part). Distinct (under q)) (sym w.1) d) (λ w. subst (λ (q : Option Part). Distinct (under q)) (sym w.1) (s.distinct m)) (view m);
  }
    where
      view : (n : ℕ) → ((n ≡ suc g) × (changed o (suc g) p n ≡ p)) ⊎ ((n ≡ suc g → ⊥) × (changed o (suc g) p n ≡ o n))
      view n = cond_cases n (suc g) p (o n)

      to : {q r : Option Part} (n : ℕ) → q ≡ r → has (under q) n ≡ true → has (under r) n ≡ true
      to n e f = subst (λ (q : Option Part). has (under q) n ≡ true) e f

      kept : (n : ℕ) → is_some (o n) ≡ true → is_some (changed o (suc g) p n) ≡ true
      kept n e = ⊎_elim (λ w. absurd (let z = some_low n e in omega (arith, w.0))) (λ w. ap is_some w.1 ∙ e) (view n)

  -- a free line is taken out
  pub sound_out : (x : ℕ) → ((m : ℕ) → has (under (o m)) x ≡ true → ⊥) → Sound (changed o x None) g
  sound_out x free = record {
    above = λ n lt. ⊎_elim (λ w. w.1) (λ w. w.1 ∙ s.above n lt) (view n);
    at_zero = ⊎_elim (λ w. w.1) (λ w. w.1 ∙ s.at_zero) (view 0);
    low = λ m n e. ⊎_elim (λ w. nothing n (to n w.1 e)) (λ w. s.low m n (to n w.1 e)) (view m);
    stands = λ m n e. ⊎_elim (λ w. nothing n (to n w.1 e)) (λ w. kept m n (to n w.1 e)) (view m);
    once = λ i j n e f. ⊎_elim
        (λ v. nothing n (to n v.1 e))
        (λ v. ⊎_elim (λ w. nothing n (to n w.1 f)) (λ w. s.once i j n (to n v.1 e) (to n w.1 f)) (view j))
        (view i);
    distinct = λ m. ⊎_elim (λ w. subst (λ (q : Option Part). Distinct (under q)) (sym w.1) tt) (λ w. subst (λ (q : Option Part). Distinct (under q)) (sym w.1) (s.distinct m)) (view m);
  }
    where
      view : (n : ℕ) → ((n ≡ x) × (changed o x None n ≡ None)) ⊎ ((n ≡ x → ⊥) × (changed o x None n ≡ o n))
      view n = cond_cases n x None (o n)

      to : {q r : Option Part} (n : ℕ) → q ≡ r → has (under q) n ≡ true → has (under r) n ≡ true
      to n e f = subst (λ (q : Option Part). has (under q) n ≡ true) e f

      nothing : {X : Type 0} (n : ℕ) → has (under None) n ≡ true → X
      nothing n e = absurd (both_ways false refl e)

      kept : (m n : ℕ) → has (under (o m)) n ≡ true → is_some (changed o x None n) ≡ true
      kept m n e = ⊎_elim (λ w. absurd (free m (subst (λ (k : ℕ). has (under (o m)) k ≡ true) w.0 e))) (λ w. ap is_some w.1 ∙ s.stands m n e) (view n)

  -- the marks once a line p is made
  pub built_add : (p : Option Part) (n : ℕ) → built (changed o (suc g) p) (suc g) n ≡ (has (under p) n || built o g n)
  built_add p n =
      ap (λ (q : Option Part). has (under q) n || any_upto g (λ m. has (under (changed o (suc g) p m)) n)) (cond-true _ _ _ (eq-eqb (suc g) (suc g) refl))
      ∙ ap (λ (x : Bool). has (under p) n || x) (any_same _ _ g (λ m lo hi. ap (λ (q : Option Part). has (under q) n) (cond-false _ _ _ (ne_eqb m (suc g) (λ e. omega arith)))))

  -- the marks once the line x is taken out: what lay beneath it is free
  pub built_out : (x n : ℕ) → built (changed o x None) g n ≡ cond (has (under (o x)) n) false (built o g n)
  built_out x n =
      ⊎_elim
      (λ on. any_none _ g (λ m lo hi. ⊎_elim (λ w. ap (λ (q : Option Part). has (under q) n) w.1)
      (λ w. ap (λ (q : Option Part). has (under q) n) w.1 ∙ ⊎_elim (λ z. absurd (w.0 (s.once m x n z on))) (λ z. z) (cases_Bool (has (under (o m)) n))) (view m))
      ∙ sym (cond-true _ _ _ on))
      (λ off. any_same _ _ g (λ m lo hi. ⊎_elim
      (λ w. ap (λ (q : Option Part). has (under q) n) w.1 ∙ sym (ap (λ (k : ℕ). has (under (o k)) n) w.0 ∙ off))
      (λ w. ap (λ (q : Option Part). has (under q) n) w.1) (view m))
      ∙ sym (cond-false _ _ _ off))
      (cases_Bool (has (under (o x)) n))
    where
      view : (n : ℕ) → ((n ≡ x) × (changed o x None n ≡ None)) ⊎ ((n ≡ x → ⊥) × (changed o x None n ≡ o n))
      view n = cond_cases n x None (o n)

-- a line that a change may use
pub record Usable (h : History) (n : ℕ) : Type 0 where
  pub positive : 0 < n
  pub given : n ≤ given h
  pub some : is_some (standing h n) ≡ true
  pub free : is_built_in h n ≡ false

pub usable : (h : History) (n : ℕ) → Allowed (using_line h n) → Usable h n
usable h n a = record {
  positive = ⊎_elim (λ lt. lt) (λ (z : n ≤ 0). absurd (a.0 (inl (omega arith)))) (cases_lt 0 n);
  given = ⊎_elim (λ lt. absurd (a.0 (inr lt))) (λ le. le) (cases_lt (given h) n);
  some = there (standing h n) a.1.0;
  free = ⊎_elim (λ on. absurd (a.1.1.0 on)) (λ off. off) (cases_Bool (is_built_in h n));
}
  where
    there : (p : Option Part) → (p ≡ None → ⊥) → is_some p ≡ true
    there None f = absurd (f refl)
    there (Some p) f = refl

-- two lines that may be joined
pub record Joinable (h : History) (a b : ℕ) : Type 0 where
  pub first : Usable h a
  pub second : Usable h b
  pub differ : a ≡ b → ⊥

pub joinable : (h : History) (k : Kind) (a b : PartNumber) → Allowed (change_rules h (Join k a b)) → Joinable h a.value b.value
joinable h k a b w = record {
  first = usable h a.value (w.0, (w.1.0, (w.1.1.0, tt)));
  second = usable h b.value (w.1.1.1.0, (w.1.1.1.1.0, (w.1.1.1.1.1.0, tt)));
  differ = w.1.1.1.1.1.1.0;
}

pub item_under : (t : Option ItemType) → under (option_map Item t) ≡ []
item_under None = refl
item_under (Some t) = refl

no_item_under : (t : Option ItemType) (n : ℕ) → has (under (option_map Item t)) n ≡ true → ⊥
no_item_under t n e = both_ways false refl (sym (ap (λ (ms : List ℕ). has ms n) (item_under t)) ∙ e)

pub sound : (h : History) → Lawful h → Sound (standing h) (given h)
sound [] l = record {
  above = λ n lt. refl;
  at_zero = refl;
  low = λ m n e. absurd (both_ways false refl e);
  stands = λ m n e. absurd (both_ways false refl e);
  once = λ i j n e f. absurd (both_ways false refl e);
  distinct = λ m. tt;
}
sound (Issue t ∷ h) l =
    sound_add (standing h) (given h) (sound h l.1) (option_map Item (type_numbered t)) (λ n e. absurd (no_item_under (type_numbered t) n e))
    (subst Distinct (sym (item_under (type_numbered t))) tt)
sound (Join k a b ∷ h) l =
    let s = sound h l.1 in
    let j = joinable h k a b l.0 in
    let open-to : (n : ℕ) → Usable h n → (is_some (standing h n) ≡ true) × ((m : ℕ) → has (under (standing h m)) n ≡ true → ⊥) = λ n u. (u.some, not_over (standing h) (given h) s n u.free) in
    let each : (n m : ℕ) → n ≡ m → Usable h m → Usable h n = λ n m e u. subst (Usable h) (sym e) u in
    sound_add (standing h) (given h) s (Some (Block k a b))
    (λ n e. ⊎_elim (λ u. open-to n (each n a.value (eqb-true n a.value u) j.first))
    (λ v. ⊎_elim (λ u. open-to n (each n b.value (eqb-true n b.value u) j.second)) (λ f. absurd (both_ways false refl f)) (or_cases _ _ v))
    (or_cases _ _ e))
    (or_from _ _ (ne_eqb a.value b.value j.differ) refl, (refl, tt))
sound (Withdraw x ∷ h) l =
    let s = sound h l.1 in
    let u = usable h x.value l.0 in
    sound_out (standing h) (given h) s x.value (not_over (standing h) (given h) s x.value u.free)
