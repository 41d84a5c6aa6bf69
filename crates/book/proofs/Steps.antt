-- What calls find in a table, and make of it, told by the history that it holds.
use Rattle.std.proofs.Common.{◌≡◌, ℕ, suc, ◌+◌, ◌<◌, ◌≤◌, Bool, true, false, ◌⊎◌, List, [], ◌∷◌, ◌++◌, length, get_or, is_some, not, Some, None, vec_items, count_by, Result, Ok, Err, MatchResult, sym, refl, ap, ◌∙◌, subst, inl, inr, ⊎_elim, add-one, arith, rules}
use mathlib.Core.Logic.{∥∥₁_elim, ∥∥₁_map}
use native.Mathlib.Bridge.{le_prop}
use Rattle.std.specs.List.{remove}
use Rattle.std.proofs.lemmas.Bool.{cases_lt, and_left}
use Rattle.rules.specs.declared.change.Change.{Change}
use Rattle.rules.specs.declared.change.Change.TheVariants.{Issue, Join, Withdraw}
use Rattle.rules.specs.declared.item_type.ItemType.{ItemType}
use Rattle.rules.specs.declared.kind.Kind.{Kind}
use Rattle.rules.specs.declared.line.Line.{Line}
use Rattle.rules.specs.declared.line.Part.{Part}
use Rattle.rules.specs.declared.line.Part.TheVariants.{Item, Block}
use Rattle.rules.specs.declared.part_number.PartNumber.{PartNumber}
use Rattle.rules.specs.declared.refusal.Refusal.{Refusal}
use Rattle.rules.specs.declared.refusal.Refusal.TheVariants.{Withdrawn}
use Rattle.rules.specs.Types.{type_number, type_numbered}
use Rattle.rules.specs.Tables.{no_line, marked, At, Missing, Released}
use Rattle.rules.specs.History.{History, given, standing, is_built_in, free, is_item, is_item_of, items_standing, items_of_type, line_of, lines_of}
use Rattle.rules.specs.Rules.{Allowed, Refused}
use Rattle.rules.specs.Ruled.{naming, using_line, change_rules, QuestionRuled, Lawful}
use Rattle.rules.proofs.Sound.{sound, joinable}
use Rattle.rules.proofs.Tables.{line_there, part_there, not_there, issue_lines, join_lines, item_out, block_out}
use Rattle.rules.proofs.Limits.{type_of_number, lines_count, issue_room, join_room, few_lines, few_given}
use Rattle.book.specs.declared.book.Book.{Book}
use Rattle.book.specs.Kept.{Holds, Kept}
use Rattle.book.specs.Keeps.{Keeps, Tells}
use Rattle.book.specs.Tables.{item_line, item_line_of, free_line, Rising}
use Rattle.book.proofs.Order.{rising_lines}

module _ {h : History} {xs : List Line} {n : ℕ} (k : Holds h xs n) where
  pub items_are : count_by item_line xs ≡ items_standing h
  items_are = ap (count_by item_line) k.lines ∙ lines_count is_item refl h

  pub of_type_are : (t : ℕ) (u : ItemType) → type_numbered t ≡ Some u → count_by (item_line_of (type_number u)) xs ≡ items_of_type t h
  of_type_are t u e =
      ap (count_by (item_line_of (type_number u))) k.lines
      ∙ lines_count (is_item_of (type_number u)) refl h
      ∙ ap (λ (v : ℕ). items_of_type v h) (type_of_number t u e)

  -- an issue
  pub issue_step : (t m : ℕ) (u : ItemType) (ys : List Line) → Allowed (change_rules h (Issue t)) → type_numbered t ≡ Some u
      → m ≡ n + 1 → ys ≡ xs ++ free_line m (Item u) ∷ [] → Holds (Issue t ∷ h) ys m
  issue_step t m u ys allowed e new added =
      let next : m ≡ suc (given h) = new ∙ add-one n ∙ ap suc k.last in
      record {
        lawful = (allowed, k.lawful);
        lines = added
            ∙ ap (λ (zs : List Line). zs ++ free_line m (Item u) ∷ []) k.lines
            ∙ ap (λ (i : ℕ). lines_of h ++ free_line i (Item u) ∷ []) next
            ∙ sym (issue_lines h t u k.lawful e);
        last = next;
      }

  pub issue_fits : (t : ℕ) → Allowed (change_rules h (Issue t)) → length xs < 31
  issue_fits t allowed = ⊎_elim (λ lt. omega (arith, ap length k.lines, issue_room h k.lawful lt)) (λ le. absurd (allowed.1.0 le)) (cases_lt (items_standing h) 16)

  -- a line that is named
  within : (m : ℕ) → 0 < m → m ≤ n → ((m ≡ 0) ⊎ (given h < m)) → ⊥
  within m pos le w = ⊎_elim (λ e. omega arith) (λ lt. omega (arith, k.last)) w

  at_lines : (m i : ℕ) → At xs m i → At (lines_of h) m i
  at_lines m i a = (omega (arith, a.0, ap length k.lines), ap (λ (ys : List Line). (get_or ys i no_line).number.value) (sym k.lines) ∙ a.1)

  pub name_missing : (m : ℕ) → 0 < m → m ≤ n → Missing xs m → Refused (naming h m) Withdrawn
  name_missing m pos le none =
      inr (
        within m pos le,
        inl (
          not_there (standing h) (is_built_in h) (given h) m pos (omega (arith, k.last))
              (λ i lt at. none i (omega (arith, ap length k.lines)) (ap (λ (ys : List Line). (get_or ys i no_line).number.value) k.lines ∙ at)),
          refl,
        ),
      )

  stands_at : (m i : ℕ) → At xs m i → (standing h m ≡ Some (get_or (lines_of h) i no_line).part) × (is_built_in h m ≡ (get_or (lines_of h) i no_line).built_in)
  stands_at m i a = let b = at_lines m i a in part_there (standing h) (is_built_in h) (given h) i m b.0 b.1

  pub name_there : (m i : ℕ) → 0 < m → m ≤ n → At xs m i → Allowed (naming h m)
  name_there m i pos le a = let there = (stands_at m i a).0 in (within m pos le, ((λ none. cc), tt))

  pub mark_there : (m i : ℕ) → At xs m i → is_built_in h m ≡ (get_or xs i no_line).built_in
  mark_there m i a = (stands_at m i a).1 ∙ ap (λ (ys : List Line). (get_or ys i no_line).built_in) (sym k.lines)

  pub line_is : (m i : ℕ) → At xs m i → line_of h m ≡ Some (get_or xs i no_line)
  line_is m i a =
      let b = at_lines m i a in
      line_there (standing h) (is_built_in h) (given h) i m b.0 b.1 ∙ ap (λ (ys : List Line). Some (get_or ys i no_line)) (sym k.lines)

  -- a joining
  pub join_step : (j : Kind) (a b : PartNumber) (i l m : ℕ) (ys zs us : List Line) → Allowed (change_rules h (Join j a b)) → At xs a.value i → At xs b.value l
      → m ≡ n + 1 → ys ≡ marked xs i true → zs ≡ marked ys l true → us ≡ zs ++ free_line m (Block j a b) ∷ [] → Holds (Join j a b ∷ h) us m
  join_step j a b i l m ys zs us allowed p q new first second added =
      let next : m ≡ suc (given h) = new ∙ add-one n ∙ ap suc k.last in
      let pa = at_lines a.value i p in
      let pb = at_lines b.value l q in
      record {
        lawful = (allowed, k.lawful);
        lines = added
            ∙ ap (λ (ws : List Line). ws ++ free_line m (Block j a b) ∷ []) (second ∙ ap (λ (ws : List Line). marked ws l true) (first ∙ ap (λ (ws : List Line). marked ws i true) k.lines))
            ∙ ap (λ (o : ℕ). marked (marked (lines_of h) i true) l true ++ free_line o (Block j a b) ∷ []) next
            ∙ sym (join_lines h j a b i l (allowed, k.lawful) pa.0 pa.1 pb.0 pb.1);
        last = next;
      }

  pub join_fits : (j : Kind) (a b : PartNumber) → Allowed (change_rules h (Join j a b)) → length xs < 31
  join_fits j a b allowed = omega (arith, ap length k.lines, join_room h k.lawful a.value b.value (joinable h j a b allowed))

  -- a withdrawal
  part_is : (i : ℕ) (p : Part) → (get_or xs i no_line).part ≡ p → (get_or (lines_of h) i no_line).part ≡ p
  part_is i p e = ap (λ (ys : List Line). (get_or ys i no_line).part) (sym k.lines) ∙ e

  pub item_step : (x : PartNumber) (i : ℕ) (t : ItemType) (ys : List Line) → Allowed (using_line h x.value) → At xs x.value i → (get_or xs i no_line).part ≡ Item t → ys ≡ remove xs i → Holds (Withdraw x ∷ h) ys n
  item_step x i t ys allowed p e out =
      let at = at_lines x.value i p in
      record {
        lawful = (allowed, k.lawful);
        lines = out ∙ ap (λ (zs : List Line). remove zs i) k.lines ∙ sym (item_out h x i t k.lawful at.0 at.1 (part_is i (Item t) e));
        last = k.last;
      }

  pub block_step : (x : PartNumber) (i : ℕ) (j : Kind) (a b : PartNumber) (us ys zs : List Line) → Allowed (using_line h x.value) → At xs x.value i → (get_or xs i no_line).part ≡ Block j a b
      → us ≡ remove xs i → Released a.value us ys → Released b.value ys zs → Holds (Withdraw x ∷ h) zs n
  block_step x i j a b us ys zs allowed p e out r s =
      let at = at_lines x.value i p in
      record {
        lawful = (allowed, k.lawful);
        lines = sym (block_out h x i j a b ys zs k.lawful at.0 at.1 (part_is i (Block j a b) e)
            (subst (λ (vs : List Line). Released a.value vs ys) (out ∙ ap (λ (vs : List Line). remove vs i) k.lines) r) s);
        last = k.last;
      }

-- what holds of every history that a book keeps, and says nothing of it, holds
pub kept_bound : (v : Book) (a b : ℕ) → ((h : History) → Keeps h v → a ≤ b) → a ≤ b
kept_bound v a b f = ∥∥₁_elim v.kept (λ x y. le_prop x y) (λ k. f k.0 k.1)

-- a change that joins each history that a book keeps leaves what some history has
pub kept_step : (v : Book) (d : Change) (xs : List Line) (n : ℕ) → Tells v (λ h. Holds (d ∷ h) xs n) → Kept xs n
kept_step v d xs n step = ∥∥₁_map v.kept (λ k. (d ∷ k.0, step k.0 k.1))

-- its lines stand in rising number
pub rising_held : (v : Book) → Rising (vec_items v.table.lines)
rising_held v i j d le lt =
    kept_bound v _ _ (λ h k. subst Rising (sym k.lines) (rising_lines h) i j d le lt)

-- at most 9,999 numbers were given
pub few_numbers : (v : Book) → v.last ≤ 9999
few_numbers v = kept_bound v _ _ (λ h k. omega (arith, k.last, few_given h k.lawful))

-- at most 31 lines stand in a book
pub few_held : (v : Book) → length (vec_items v.table.lines) ≤ 31
few_held v = kept_bound v _ _ (λ h k. omega (arith, ap length k.lines, few_lines h k.lawful))

-- a line that may not be named is not free
pub refused_not_free : (h : History) → Lawful h → (m : ℕ) (e : Refusal) → Refused (naming h m) e → free h m ≡ false
refused_not_free h l m e w =
    let s = sound h l in
    let none : standing h m ≡ None → free h m ≡ false = λ z. and_left _ _ (ap is_some z) in
    none (⊎_elim
    (λ v. ⊎_elim (λ z. ap (standing h) z ∙ s.at_zero) (λ lt. s.above m lt) v.0)
    (λ v. ⊎_elim (λ u. u.0) (λ u. absurd u.1) v.1)
    w)

-- a line is free if it may be named and is not built in
pub free_answer : (h : History) → Lawful h → (m : ℕ) (r : Result Line Refusal) (b : Bool) → QuestionRuled h m r → MatchResult r (λ l. b ≡ not l.built_in) (λ _. b ≡ false) → b ≡ free h m
free_answer h l m (Ok x) b asked is = search rules
free_answer h l m (Err e) b asked is = is ∙ sym (refused_not_free h l m e asked)
