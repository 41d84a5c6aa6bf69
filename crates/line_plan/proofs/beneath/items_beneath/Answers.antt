use Rattle.std.proofs.Common.{◌≡◌, ℕ, ◌+◌, ◌/◌, ◌%◌, ◌^◌, ◌<◌, ◌≤◌, Bool, true, false, List, ◌++◌, length, get_or, drop, is_some, sym, refl, ap, ◌∙◌, subst, arith}
use lib.Bits.{bit_and}
use Rattle.std.proofs.lemmas.List.{append-nil, append_assoc, drop_all, length-append}
use Rattle.std.proofs.lemmas.Nat.Bits.{shr_and_one}
use Rattle.std.proofs.lemmas.Bool.{eq-eqb, ne_eqb}
use Rattle.rules.specs.declared.line.Line.{Line}
use Rattle.rules.specs.Lines.{type_of_part}
use Rattle.rules.specs.Tables.{no_line, At}
use Rattle.rules.specs.History.{History, standing, has, lines_of}
use Rattle.rules.specs.Ruled.{Lawful}
use Rattle.rules.specs.Trees.{items, tree_of}
use Rattle.rules.proofs.Limits.{few_lines}
use Rattle.place_set.specs.Sets.{bit}
use Rattle.book.specs.declared.book.Book.{Book}
use Rattle.book.specs.Keeps.{Tells}
use Rattle.book.proofs.Steps.{kept_bound}
use Rattle.line_plan.specs.declared.item_list.ItemList.{ItemList}
use Rattle.line_plan.specs.declared.item_list.TypedItem.{TypedItem}
use Rattle.line_plan.specs.Items.{listed}
use Rattle.line_plan.specs.Beneath.{stands_and, Marks, ItemsBeneath}
use Rattle.line_plan.proofs.Picking.{picked, picked_one, passed_other, passed_block, beneath_picked, few_picked}
use Rattle.line_plan.proofs.Trees.{stands_tree}
use Rattle.line_plan.proofs.beneath.items_beneath.Goals as goal
use Rattle.line_plan.proofs.beneath.items_beneath.Goals.{in-Item+then-marks-place-eq1, in-Item+else-marks-place-eq1, in_default}

-- the test of a bit
bit_on : (m i : ℕ) → bit_and (m / 2 ^ i) 1 ≡ 1 → bit m i ≡ true
bit_on m i e = eq-eqb (m / 2 ^ i % 2) 1 (sym (shr_and_one m i) ∙ e)

bit_off : (m i : ℕ) → (bit_and (m / 2 ^ i) 1 ≡ 1 → ⊥) → bit m i ≡ false
bit_off m i ne = ne_eqb (m / 2 ^ i % 2) 1 (λ e. ne (shr_and_one m i ∙ e))

-- where the line at the place i is marked as an item beneath a standing line, the line's tree has it
in_tree : (h : History) → Lawful h → (n : ℕ) → is_some (standing h n) ≡ true → (marks : ℕ) → Marks h marks (λ m. stands_and h n (λ x. has (items x) m))
    → (ls : List Line) → ls ≡ lines_of h → (i : ℕ) → i < length ls → (v : Bool) → bit marks i ≡ v → has (items (tree_of h n)) (get_or ls i no_line).number.value ≡ v
in_tree h l n on marks told ls are i lt v e =
    let m = (get_or ls i no_line).number.value in
    sym (told i m (subst (λ (ys : List Line). At ys m i) are (lt, refl)) ∙ stands_tree h l (λ x. has (items x) m) n on) ∙ e

-- at most 31 lines stand
few : (b : Book) (ls : List Line) → Tells b (λ h. ls ≡ lines_of h) → length ls ≤ 31
few b ls are = kept_bound b _ _ (λ h k. omega (arith, ap length (are h k), few_lines h k.lawful))

pub overflow_cast-place : goal.overflow_cast-place
overflow_cast-place c = omega (arith, few c.args.book.now _ c.lines-line-items.ensures)

pub overflow_shr-marks : goal.overflow_shr-marks
overflow_shr-marks c = omega (arith, few c.args.book.now _ c.lines-line-items.ensures)

pub add-requires : goal.add-requires
add-requires c = kept_bound c.args.book.now _ _ (λ h k.
    let n = c.args.number.value in
    let is = items (tree_of h n) in
    let ls = c.lines-line-items.result.now in
    let i = c.loop-place.place in
    let marks = c.marked_beneath-marks.result in
    let on = in_tree h k.lawful n (c.requires h k) marks (c.marked_beneath-marks.ensures h k) ls (c.lines-line-items.ensures h k) i c.loop-place-test.true true (bit_on marks i c.if-marks-place-eq1.true) in
    omega (
      arith,
      ap length (c.loop-place.invariant h k),
      length-append (listed c.loop-place.items) (picked is (drop i ls)),
      ap length (picked_one is ls i c.loop-place-test.true c.in-Item.item_type on c.in-Item.is),
      few_picked h k.lawful n (c.requires h k),
    ))

pub loop-place-preserved : goal.loop-place-preserved
loop-place-preserved c h k =
    let n = c.args.number.value in
    let is = items (tree_of h n) in
    let ls = c.lines-line-items.result.now in
    let i = c.loop-place.place in
    let lt = c.loop-place-test.true in
    let marks = c.marked_beneath-marks.result in
    let old = listed c.loop-place.items in
    let rest = picked is (drop (i + 1) ls) in
    let at = in_tree h k.lawful n (c.requires h k) marks (c.marked_beneath-marks.ensures h k) ls (c.lines-line-items.ensures h k) i lt in
    elim c.match-line.branch [
      | in-Item+then-marks-place-eq1 w ↦
          let on = at true (bit_on marks i w.if-marks-place-eq1.true) in
          ap (λ (l : ItemList). listed l ++ rest) w.items-is
          ∙ ap (λ (js : List TypedItem). js ++ rest) w.add.ensures
          ∙ append_assoc old _ rest
          ∙ ap (λ (js : List TypedItem). old ++ js) (sym (picked_one is ls i lt w.in-Item.item_type on w.in-Item.is))
          ∙ c.loop-place.invariant h k
      | in-Item+else-marks-place-eq1 w ↦
          let off = at false (bit_off marks i w.if-marks-place-eq1.false) in
          ap (λ (l : ItemList). listed l ++ rest) w.items-is
          ∙ ap (λ (js : List TypedItem). old ++ js) (sym (passed_other is ls i lt off))
          ∙ c.loop-place.invariant h k
      | in_default w ↦
          ap (λ (l : ItemList). listed l ++ rest) w.items-is
          ∙ ap (λ (js : List TypedItem). old ++ js) (sym (passed_block is ls i lt (ap type_of_part w.in_default.is)))
          ∙ c.loop-place.invariant h k
    ]

pub returns : goal.returns
returns c h k =
    let is = items (tree_of h c.args.number.value) in
    subst (ItemsBeneath h c.args.number.value)
    (sym (sym (append-nil (listed c.loop-place.items))
    ∙ ap (λ (ls : List Line). listed c.loop-place.items ++ picked is ls) (sym (drop_all c.loop-place.place c.lines-line-items.result.now c.loop-place-test.false))
    ∙ c.loop-place.invariant h k))
    (beneath_picked h k.lawful c.args.number.value (c.requires h k))
