-- The figures of standing lines, one place after another.
use Rattle.std.proofs.Common.{◌≡◌, ℕ, ◌+◌, ◌<◌, ◌≢◌, List, length, get_or, drop, set, Some, sym, ap, ◌∙◌, subst, ⊎_elim, arith}
use Rattle.std.proofs.lemmas.List.{get_or-set_same, get_or-set_other, drop-set-lt, drop-drop}
use Rattle.std.proofs.lemmas.Bool.{cases_lt}
use Rattle.rules.specs.declared.item_type.ItemType.{ItemType}
use Rattle.rules.specs.declared.kind.Kind.{Kind}
use Rattle.rules.specs.declared.line.Part.TheVariants.{Item, Block}
use Rattle.rules.specs.declared.part_number.PartNumber.{PartNumber}
use Rattle.rules.specs.Tables.{no_line, At}
use Rattle.rules.specs.History.{History, standing, lines_of, place_in}
use Rattle.rules.specs.Ruled.{Lawful}
use Rattle.rules.specs.Trees.{Tree, tree_of, type_at, type_in}
use Rattle.sums.proofs.Forest.{tree_item, tree_block, lines_stand, lines_low}
use Rattle.reckoning.specs.Figures.{IsFigure, FiguredBefore}
use Rattle.reckoning.proofs.Places.{stands_at, lower_earlier, placed}

module _ {F : Type 0} (ItemGives : ItemType → F → Type 0) (BlockGives : Kind → F → F → F → Type 0) (h : History) (l : Lawful h) where
  pub item_figure : (n : ℕ) (t : ItemType) (v : F) → standing h n ≡ Some (Item t) → ItemGives t v → IsFigure ItemGives BlockGives (type_in h) (tree_of h n) v
  item_figure n t v e gives = subst (λ (x : Tree). IsFigure ItemGives BlockGives (type_in h) x v) (sym (tree_item h l n t e)) (t, ap type_at e, gives)

  -- a block's figure comes from those at the places of its lines
  pub block_figure : (n i : ℕ) (k : Kind) (a b : PartNumber) (figures : List F) (x y v : F) → At (lines_of h) n i → standing h n ≡ Some (Block k a b) → FiguredBefore ItemGives BlockGives h i figures
      → x ≡ get_or figures (place_in h a.value) x → y ≡ get_or figures (place_in h b.value) y → BlockGives k x y v → IsFigure ItemGives BlockGives (type_in h) (tree_of h n) v
  block_figure n i k a b figures x y v at e before ex ey gives =
      let here = placed h l n i at in
      let low = lines_low h l n k a b e in
      let on = lines_stand h l n k a b e in
      let types = type_in h in
      subst (λ (z : Tree). IsFigure ItemGives BlockGives types z v) (sym (tree_block h l n k a b e)) (
        x,
        y,
        subst (IsFigure ItemGives BlockGives types (tree_of h a.value)) (sym ex) (before a.value on.0 (omega (arith, lower_earlier h l a.value n low.0 on.0)) x),
        subst (IsFigure ItemGives BlockGives types (tree_of h b.value)) (sym ey) (before b.value on.1 (omega (arith, lower_earlier h l b.value n low.1 on.1)) y),
        gives,
      )

  -- one place more
  pub one_more : (n i : ℕ) (figures : List F) (v : F) → At (lines_of h) n i → i < length figures → FiguredBefore ItemGives BlockGives h i figures
      → IsFigure ItemGives BlockGives (type_in h) (tree_of h n) v → FiguredBefore ItemGives BlockGives h (i + 1) (set figures i v)
  one_more n i figures v at long before here m on lt d =
      let types = type_in h in
      ⊎_elim
      (λ earlier.
      let ne : place_in h m ≢ i = omega arith in
      subst (IsFigure ItemGives BlockGives types (tree_of h m)) (sym (get_or-set_other figures i (place_in h m) v d ne)) (before m on earlier d))
      (λ past.
      let e : place_in h m ≡ i = omega arith in
      let same : n ≡ m = sym at.1 ∙ ap (λ (j : ℕ). (get_or (lines_of h) j no_line).number.value) (sym e) ∙ (stands_at h l m on).1 in
      subst (IsFigure ItemGives BlockGives types (tree_of h m)) (sym (ap (λ (j : ℕ). get_or (set figures i v) j d) e ∙ get_or-set_same figures i v d long))
      (subst (λ (j : ℕ). IsFigure ItemGives BlockGives types (tree_of h j) v) same here))
      (cases_lt (place_in h m) i)

pub rest_more : {X : Type 0} (places old : List X) (i : ℕ) (v : X) → drop i places ≡ drop i old → drop (i + 1) (set places i v) ≡ drop (i + 1) old
rest_more places old i v same = drop-set-lt (i + 1) places i v (omega arith) ∙ sym (drop-drop 1 i places) ∙ ap (drop 1) same ∙ drop-drop 1 i old
