-- The tree beneath each standing line.
use Rattle.std.proofs.Common.{◌≡◌, ℕ, suc, ◌<◌, ◌≤◌, true, false, cond, ◌||◌, eqb, ◌⊎◌, List, [], ◌∷◌, length, is_some, Some, None, Option, sym, refl, ap, ◌∙◌, subst, ap₂, inl, inr, ⊎_elim, arith}
use mathlib.Core.List.Memᴰ
use Rattle.std.specs.Option.{option_map}
use Rattle.std.proofs.lemmas.Bool.{cases_Bool, cases_eq, eqb-true, eq-eqb, ne_eqb, cond-true, cond-false, or_cases, or_left, or_right, both_ways}
use Rattle.rules.specs.declared.change.Change.TheVariants.{Issue, Join, Withdraw}
use Rattle.rules.specs.declared.item_type.ItemType.{ItemType}
use Rattle.rules.specs.declared.kind.Kind.{Kind}
use Rattle.rules.specs.declared.line.Part.{Part}
use Rattle.rules.specs.declared.line.Part.TheVariants.{Item, Block}
use Rattle.rules.specs.declared.part_number.PartNumber.{PartNumber}
use Rattle.rules.specs.Types.{type_numbered}
use Rattle.rules.specs.History.{History, given, standing, has, under, is_item}
use Rattle.rules.specs.Ruled.{Lawful}
use Rattle.rules.specs.Trees.{Tree, item, block, items, IsTree, tree_of, type_at}
use Rattle.rules.proofs.Counting.{cond_cases, how_many_more, how_many_fewer, Distinct as Unlike}
use Rattle.rules.proofs.Sound.{changed, Sound, sound, some_low, some_positive, not_over, Usable, usable, joinable}
use Rattle.rules.proofs.Limits.{known_type, few_items}
use Rattle.sums.specs.Members.{◌∈◌, Apart, Distinct, Once}
use Rattle.sums.specs.Forest.{TreesStand}
use Rattle.sums.proofs.Members.{has_from, once_distinct}

-- two lines of a block lie beneath it
over_left : (p : Option Part) (k : Kind) (a b : PartNumber) → p ≡ Some (Block k a b) → has (under p) a.value ≡ true
over_left p k a b e = ap (λ (q : Option Part). has (under q) a.value) e ∙ or_left _ _ (eq-eqb a.value a.value refl)

over_right : (p : Option Part) (k : Kind) (a b : PartNumber) → p ≡ Some (Block k a b) → has (under p) b.value ≡ true
over_right p k a b e = ap (λ (q : Option Part). has (under q) b.value) e ∙ or_right _ _ (or_left _ _ (eq-eqb b.value b.value refl))

-- the lines of a standing block stand
pub lines_stand : (h : History) → Lawful h → (n : ℕ) (k : Kind) (a b : PartNumber) → standing h n ≡ Some (Block k a b) → (is_some (standing h a.value) ≡ true) × (is_some (standing h b.value) ≡ true)
lines_stand h l n k a b e =
    let s = sound h l in
    (s.stands n a.value (over_left (standing h n) k a b e), s.stands n b.value (over_right (standing h n) k a b e))

-- and have lower numbers
pub lines_low : (h : History) → Lawful h → (n : ℕ) (k : Kind) (a b : PartNumber) → standing h n ≡ Some (Block k a b) → (a.value < n) × (b.value < n)
lines_low h l n k a b e =
    let s = sound h l in
    (s.low n a.value (over_left (standing h n) k a b e), s.low n b.value (over_right (standing h n) k a b e))

-- a tree stays where what stands in it does
carry : (h h' : History) (Q : ℕ → Type 0) → ((n : ℕ) (p : Part) → Q n → standing h n ≡ Some p → standing h' n ≡ Some p)
    → ((n c : ℕ) → Q n → has (under (standing h n)) c ≡ true → Q c) → (x : Tree) (n : ℕ) → Q n → IsTree h n x → IsTree h' n x
carry h h' Q keep down (item j) n q e = (e.0, keep n _ q e.1, e.2)
carry h h' Q keep down (block k x y) n q e = (
  e.0,
  e.1,
  keep n _ q e.2,
  carry h h' Q keep down x e.0.value (down n e.0.value q (over_left (standing h n) k e.0 e.1 e.2)) e.3,
  carry h h' Q keep down y e.1.value (down n e.1.value q (over_right (standing h n) k e.0 e.1 e.2)) e.4,
)

-- a line more leaves the trees
added : (h : History) → Lawful h → (p : Option Part) (n : ℕ) (q : Part) → standing h n ≡ Some q → changed (standing h) (suc (given h)) p n ≡ Some q
added h l p n q e = cond-false _ _ _ (ne_eqb n (suc (given h)) (λ z. let le = some_low (standing h) (given h) (sound h l) n (ap is_some e) in omega arith)) ∙ e

some_out : (h : History) (w n : ℕ) → is_some (changed (standing h) w None n) ≡ true → (n ≡ w → ⊥) × (is_some (standing h n) ≡ true)
some_out h w n e =
    ⊎_elim (λ v. absurd (both_ways false refl (sym (ap is_some v.1) ∙ e))) (λ v. (v.0, sym (ap is_some v.1) ∙ e)) (cond_cases n w None (standing h n))

-- a standing line has its tree
pub tree_stands : (h : History) → Lawful h → (n : ℕ) → is_some (standing h n) ≡ true → IsTree h n (tree_of h n)
tree_stands [] l n e = absurd (both_ways false refl e)
tree_stands (Issue t ∷ h) l n e =
    let u = known_type t l.0.0 in
    ⊎_elim
    (λ y. subst (IsTree (Issue t ∷ h) n) (sym (cond-true _ _ _ y)) (u.0, cond-true _ _ _ y ∙ ap (option_map Item) u.1, refl))
    (λ y. subst (IsTree (Issue t ∷ h) n) (sym (cond-false _ _ _ y))
    (carry h (Issue t ∷ h) (λ _. Unit {0}) (λ m p _ f. added h l.1 _ m p f) (λ _ _ _ _. tt) (tree_of h n) n tt (tree_stands h l.1 n (sym (ap is_some (cond-false _ _ _ y)) ∙ e))))
    (cases_Bool (eqb n (suc (given h))))
tree_stands (Join k a b ∷ h) l n e =
    let j = joinable h k a b l.0 in
    let kept : (x : Tree) (m : ℕ) → IsTree h m x → IsTree (Join k a b ∷ h) m x = λ x m. carry h (Join k a b ∷ h) (λ _. Unit {0}) (λ i p _ f. added h l.1 _ i p f) (λ _ _ _ _. tt) x m tt in
    ⊎_elim
    (λ y. subst (IsTree (Join k a b ∷ h) n) (sym (cond-true _ _ _ y)) (
      a,
      b,
      cond-true _ _ _ y,
      kept (tree_of h a.value) a.value (tree_stands h l.1 a.value j.first.some),
      kept (tree_of h b.value) b.value (tree_stands h l.1 b.value j.second.some),
    ))
    (λ y. subst (IsTree (Join k a b ∷ h) n) (sym (cond-false _ _ _ y)) (kept (tree_of h n) n (tree_stands h l.1 n (sym (ap is_some (cond-false _ _ _ y)) ∙ e))))
    (cases_Bool (eqb n (suc (given h))))
tree_stands (Withdraw w ∷ h) l n e =
    let u = usable h w.value l.0 in
    let q = some_out h w.value n e in
    carry h (Withdraw w ∷ h) (λ m. m ≡ w.value → ⊥) (λ m p ne f. cond-false _ _ _ (ne_eqb m w.value ne) ∙ f)
    (λ m c ne o z. not_over (standing h) (given h) (sound h l.1) w.value u.free m (ap (has (under (standing h m))) (sym z) ∙ o))
    (tree_of h n) n q.0 (tree_stands h l.1 n q.1)

-- and no other
pub tree_only : (h : History) (x y : Tree) (n : ℕ) → IsTree h n x → IsTree h n y → x ≡ y
tree_only h (item i) (item j) n p q = ap item (p.2 ∙ sym q.2)
tree_only h (item i) (block k x y) n p q =
    absurd (let f : Some (Item p.0) ≡ Some (Block k q.0 q.1) = sym p.1 ∙ q.2 in let z : ◌≡◌ {A = ℕ} 0 1 = cc in omega arith)
tree_only h (block k x y) (item i) n p q =
    absurd (let f : Some (Item q.0) ≡ Some (Block k p.0 p.1) = sym q.1 ∙ p.2 in let z : ◌≡◌ {A = ℕ} 0 1 = cc in omega arith)
tree_only h (block k x y) (block m u v) n p q =
    let f : Some (Block k p.0 p.1) ≡ Some (Block m q.0 q.1) = sym p.2 ∙ q.2 in
    let fk : k ≡ m = cc in
    let fa : p.0 ≡ q.0 = cc in
    let fb : p.1 ≡ q.1 = cc in
    ap (λ (c : Kind). block c x y) fk
    ∙ ap₂ (block m) (tree_only h x u q.0.value (subst (λ (c : PartNumber). IsTree h c.value x) fa p.3) q.3) (tree_only h y v q.1.value (subst (λ (c : PartNumber). IsTree h c.value y) fb p.4) q.4)

pub tree_item : (h : History) → Lawful h → (n : ℕ) (t : ItemType) → standing h n ≡ Some (Item t) → tree_of h n ≡ item n
tree_item h l n t e = tree_only h (tree_of h n) (item n) n (tree_stands h l n (ap is_some e)) (t, e, refl)

pub tree_block : (h : History) → Lawful h → (n : ℕ) (k : Kind) (a b : PartNumber) → standing h n ≡ Some (Block k a b) → tree_of h n ≡ block k (tree_of h a.value) (tree_of h b.value)
tree_block h l n k a b e =
    let s = lines_stand h l n k a b e in
    tree_only h (tree_of h n) (block k (tree_of h a.value) (tree_of h b.value)) n (tree_stands h l n (ap is_some e))
    (a, b, e, tree_stands h l a.value s.0, tree_stands h l b.value s.1)

-- the items of a tree stand
pub item_stands : (h : History) (x : Tree) (n : ℕ) → IsTree h n x → (i : ℕ) → i ∈ items x → (t : ItemType) × (standing h i ≡ Some (Item t))
item_stands h (item j) n e i m = (e.0, ap (standing h) (Memᴰ.eq_of_singleton m ∙ e.2) ∙ e.1)
item_stands h (block k x y) n e i m =
    ⊎_elim (λ p. item_stands h x e.0.value e.3 i p) (λ p. item_stands h y e.1.value e.4 i p) (Memᴰ.append_cases (items x) m)

-- no item is in both trees
abbrev Parted : Tree → Tree → Type 0
Parted x y = Apart (items x) (items y)

swapped : (x y : Tree) → Parted x y → Parted y x
swapped x y p j m n = p j n m

-- n stands, and beneath no block
abbrev Free : (ℕ → Option Part) → ℕ → Type 0
Free o n = (is_some (o n) ≡ true) × ((m : ℕ) → has (under (o m)) n ≡ true → ⊥)

free_from : (h : History) → Lawful h → (n : ℕ) → Usable h n → Free (standing h) n
free_from h l n u = (u.some, not_over (standing h) (given h) (sound h l) n u.free)

-- free lines have no item in common, and no line has one twice
abbrev FreeParted : (ℕ → Option Part) → (ℕ → Tree) → Type 0
FreeParted o tree = (a b : ℕ) → Free o a → Free o b → (a ≡ b → ⊥) → Parted (tree a) (tree b)

abbrev AllOnce : (ℕ → Option Part) → (ℕ → Tree) → Type 0
AllOnce o tree = (n : ℕ) → is_some (o n) ≡ true → Once (tree n)

-- a new line with the part p, and the tree x, under the next number
module _ (o : ℕ → Option Part) (g : ℕ) (s : Sound o g) (tree : ℕ → Tree) (p : Option Part) (x : Tree) where
  abbrev tree-now : ℕ → Tree
  tree-now n = cond (eqb n (suc g)) x (tree n)

  free_before : (n : ℕ) → (n ≡ suc g → ⊥) → Free (changed o (suc g) p) n → Free o n × (has (under p) n ≡ true → ⊥)
  free_before n old f = (
    (
      sym (ap is_some (cond-false _ _ _ (ne_eqb n (suc g) old))) ∙ f.0,
      λ m e. ⊎_elim
          (λ (z : m ≡ suc g). both_ways (has (under (o m)) n) (ap (λ (q : Option Part). has (under q) n) (s.above m (omega arith))) e)
          (λ z. f.1 m (ap (λ (q : Option Part). has (under q) n) (cond-false _ _ _ (ne_eqb m (suc g) z)) ∙ e))
          (cases_eq m (suc g)),
    ),
    λ e. f.1 (suc g) (ap (λ (q : Option Part). has (under q) n) (cond-true _ _ _ (eq-eqb (suc g) (suc g) refl)) ∙ e),
  )

  add_parted : FreeParted o tree → ((b : ℕ) → Free o b → (has (under p) b ≡ true → ⊥) → Parted x (tree b)) → FreeParted (changed o (suc g) p) tree-now
  add_parted before new a b fa fb ne =
      ⊎_elim
      (λ ya. ⊎_elim
      (λ yb. absurd (ne (ya.0 ∙ sym yb.0)))
      (λ nb. let q = free_before b nb.0 fb in
      subst (λ (t : Tree). Parted t (tree-now b)) (sym ya.1) (subst (λ (t : Tree). Parted x t) (sym nb.1) (new b q.0 q.1)))
      (cond_cases b (suc g) x (tree b)))
      (λ na. ⊎_elim
      (λ yb. let q = free_before a na.0 fa in
      subst (λ (t : Tree). Parted t (tree-now b)) (sym na.1) (subst (λ (t : Tree). Parted (tree a) t) (sym yb.1) (swapped x (tree a) (new a q.0 q.1))))
      (λ nb.
      subst (λ (t : Tree). Parted t (tree-now b)) (sym na.1) (subst (λ (t : Tree). Parted (tree a) t) (sym nb.1) (before a b (free_before a na.0 fa).0 (free_before b nb.0 fb).0 ne)))
      (cond_cases b (suc g) x (tree b)))
      (cond_cases a (suc g) x (tree a))

  add_once : AllOnce o tree → Once x → AllOnce (changed o (suc g) p) tree-now
  add_once before new n e =
      ⊎_elim
      (λ y. subst Once (sym y.1) new)
      (λ y. subst Once (sym y.1) (before n (sym (ap is_some (cond-false _ _ _ (ne_eqb n (suc g) y.0))) ∙ e)))
      (cond_cases n (suc g) x (tree n))

-- a block over a
over_block : (p : Option Part) (a : ℕ) → has (under p) a ≡ true → (k : Kind) × (c d : PartNumber) × (p ≡ Some (Block k c d)) × ((a ≡ c.value) ⊎ (a ≡ d.value))
over_block None a e = absurd (both_ways false refl e)
over_block (Some (Item t)) a e = absurd (both_ways false refl e)
over_block (Some (Block k c d)) a e =
    (k, c, d, refl, ⊎_elim (λ y. inl (eqb-true a c.value y)) (λ v. ⊎_elim (λ y. inr (eqb-true a d.value y)) (λ f. absurd (both_ways false refl f)) (or_cases _ _ v)) (or_cases _ _ e))

module _ (h : History) (l : Lawful h) (w : ℕ) where
  -- what is beneath a line of w is beneath w
  within : (a : ℕ) → has (under (standing h w)) a ≡ true → (j : ℕ) → j ∈ items (tree_of h a) → j ∈ items (tree_of h w)
  within a o j m =
      let r = over_block (standing h w) a o in
      let t = tree_block h l w r.0 r.1 r.2 r.3 in
      subst (λ (x : Tree). j ∈ items x) (sym t)
      (⊎_elim
      (λ (e : a ≡ r.1.value). Memᴰ.append_left (items (tree_of h r.2.value)) (subst (λ (n : ℕ). j ∈ items (tree_of h n)) e m))
      (λ (e : a ≡ r.2.value). Memᴰ.append_right (items (tree_of h r.1.value)) (subst (λ (n : ℕ). j ∈ items (tree_of h n)) e m))
      r.4)

  -- the two lines of w have no item in common
  lines_parted : Once (tree_of h w) → (a b : ℕ) → has (under (standing h w)) a ≡ true → has (under (standing h w)) b ≡ true → (a ≡ b → ⊥) → Parted (tree_of h a) (tree_of h b)
  lines_parted once a b oa ob ne =
      let r = over_block (standing h w) a oa in
      let q = over_block (standing h w) b ob in
      let f : Some (Block r.0 r.1 r.2) ≡ Some (Block q.0 q.1 q.2) = sym r.3 ∙ q.3 in
      let gc : r.1 ≡ q.1 = cc in
      let gd : r.2 ≡ q.2 = cc in
      let fc = ap (λ (c : PartNumber). c.value) gc in
      let fd = ap (λ (c : PartNumber). c.value) gd in
      let t = subst Once (tree_block h l w r.0 r.1 r.2 r.3) once in
      let apart : Parted (tree_of h r.1.value) (tree_of h r.2.value) = t.0 in
      let at : (c d : ℕ) → a ≡ c → b ≡ d → Parted (tree_of h c) (tree_of h d) → Parted (tree_of h a) (tree_of h b) = λ c d ec ed s.
      subst (λ (n : ℕ). Parted (tree_of h n) (tree_of h b)) (sym ec) (subst (λ (n : ℕ). Parted (tree_of h c) (tree_of h n)) (sym ed) s) in
      ⊎_elim
      (λ (ea : a ≡ r.1.value). ⊎_elim
      (λ (eb : b ≡ q.1.value). absurd (ne (ea ∙ fc ∙ sym eb)))
      (λ (eb : b ≡ q.2.value). at r.1.value r.2.value ea (eb ∙ sym fd) apart)
      q.4)
      (λ (ea : a ≡ r.2.value). ⊎_elim
      (λ (eb : b ≡ q.1.value). at r.2.value r.1.value ea (eb ∙ sym fc) (swapped (tree_of h r.1.value) (tree_of h r.2.value) apart))
      (λ (eb : b ≡ q.2.value). absurd (ne (ea ∙ fd ∙ sym eb)))
      q.4)
      r.4

  -- what is free after the withdrawal of w was free before it, or beneath w
  free_after : (a : ℕ) → Free (changed (standing h) w None) a → has (under (standing h w)) a ≡ false → Free (standing h) a
  free_after a f o = (
    (some_out h w a f.0).1,
    λ m e. ⊎_elim
        (λ v. both_ways (has (under (standing h w)) a) o (ap (λ (n : ℕ). has (under (standing h n)) a) (sym v.0) ∙ e))
        (λ v. f.1 m (ap (λ (q : Option Part). has (under q) a) v.1 ∙ e))
        (cond_cases m w None (standing h m)),
  )

  out_parted : Free (standing h) w → FreeParted (standing h) (tree_of h) → AllOnce (standing h) (tree_of h) → FreeParted (changed (standing h) w None) (tree_of h)
  out_parted free before once a b fa fb ne =
      let na = (some_out h w a fa.0).0 in
      let nb = (some_out h w b fb.0).0 in
      ⊎_elim
      (λ oa. ⊎_elim
      (λ ob. lines_parted (once w free.0) a b oa ob ne)
      (λ ob j m n. before w b free (free_after b fb ob) (λ z. nb (sym z)) j (within a oa j m) n)
      (cases_Bool (has (under (standing h w)) b)))
      (λ oa. ⊎_elim
      (λ ob j m n. before a w (free_after a fa oa) free na j m (within b ob j n))
      (λ ob. before a b (free_after a fa oa) (free_after b fb ob) ne)
      (cases_Bool (has (under (standing h w)) b)))
      (cases_Bool (has (under (standing h w)) a))

parted_once : (h : History) → Lawful h → FreeParted (standing h) (tree_of h) × AllOnce (standing h) (tree_of h)
parted_once [] l = ((λ a b fa fb ne. absurd (both_ways false refl fa.0)), λ n e. absurd (both_ways false refl e))
parted_once (Issue t ∷ h) l =
    let r = parted_once h l.1 in
    let s = sound h l.1 in
    let o = standing h in
    let g = given h in
    let p = option_map Item (type_numbered t) in
    let same : (n : ℕ) → tree_of (Issue t ∷ h) n ≡ cond (eqb n (suc g)) (item (suc g)) (tree_of h n) = λ n. new-tree n g (tree_of h n) in (
      (λ a b fa fb ne. subst (λ (x : Tree). Parted x (tree_of (Issue t ∷ h) b)) (sym (same a)) (subst (λ (y : Tree). Parted (cond (eqb a (suc g)) (item (suc g)) (tree_of h a)) y) (sym (same b))
          (add_parted o g s (tree_of h) p (item (suc g)) r.0
          (λ b fb _ j m n.
          let z = Memᴰ.eq_of_singleton m in
          let le = some_low o g s j (ap is_some (item_stands h (tree_of h b) b (tree_stands h l.1 b fb.0) j n).1) in
          omega arith) a b fa fb ne))),
      λ n e. subst Once (sym (same n)) (add_once o g s (tree_of h) p (item (suc g)) r.1 tt n e),
    )
  where
    new-tree : (n g : ℕ) (x : Tree) → cond (eqb n (suc g)) (item n) x ≡ cond (eqb n (suc g)) (item (suc g)) x
    new-tree n g x = ⊎_elim (λ y. cond-true _ _ _ y ∙ ap item (eqb-true n (suc g) y) ∙ sym (cond-true _ _ _ y)) (λ y. cond-false _ _ _ y ∙ sym (cond-false _ _ _ y)) (cases_Bool (eqb n (suc g)))
parted_once (Join k a b ∷ h) l =
    let r = parted_once h l.1 in
    let s = sound h l.1 in
    let j = joinable h k a b l.0 in
    let fa = free_from h l.1 a.value j.first in
    let fb = free_from h l.1 b.value j.second in
    let x : Tree = block k (tree_of h a.value) (tree_of h b.value) in (
      add_parted (standing h) (given h) s (tree_of h) (Some (Block k a b)) x r.0
          (λ c fc off i m n.
          ⊎_elim
          (λ u. r.0 a.value c fa fc (λ z. off (or_left _ _ (eq-eqb c a.value (sym z)))) i u n)
          (λ u. r.0 b.value c fb fc (λ z. off (or_right _ _ (or_left _ _ (eq-eqb c b.value (sym z))))) i u n)
          (Memᴰ.append_cases (items (tree_of h a.value)) m)),
      add_once (standing h) (given h) s (tree_of h) (Some (Block k a b)) x r.1 (r.0 a.value b.value fa fb j.differ, r.1 a.value fa.0, r.1 b.value fb.0),
    )
parted_once (Withdraw w ∷ h) l =
    let r = parted_once h l.1 in
    let u = usable h w.value l.0 in (
      out_parted h l.1 w.value (free_from h l.1 w.value u) r.0 r.1,
      λ n e. r.1 n (some_out h w.value n e).1,
    )

pub tree_once : (h : History) → Lawful h → (n : ℕ) → is_some (standing h n) ≡ true → Once (tree_of h n)
tree_once h l n e = (parted_once h l).1 n e

pub trees_stand_lem : TreesStand
trees_stand_lem h l n e = record {
  is_tree = tree_stands h l n e;
  only = λ x p. tree_only h x (tree_of h n) n p (tree_stands h l n e);
  once = tree_once h l n e;
  typed = λ i m. let r = item_stands h (tree_of h n) n (tree_stands h l n e) i m in (r.0, ap type_at r.1);
}

distinct_has : (is : List ℕ) → Distinct is → Unlike is
distinct_has [] d = tt
distinct_has (i ∷ is) d = (⊎_elim (λ on. absurd (d.0 (has_from is i on))) (λ off. off) (cases_Bool (has is i)), distinct_has is d.1)

-- at most 16 items lie beneath a line
pub few_beneath : (h : History) → Lawful h → (n : ℕ) → is_some (standing h n) ≡ true → length (items (tree_of h n)) ≤ 16
few_beneath h l n on =
    let is = items (tree_of h n) in
    let s = sound h l in
    let at : (i : ℕ) → has is i ≡ true → (t : ItemType) × (standing h i ≡ Some (Item t)) = λ i e. item_stands h (tree_of h n) n (tree_stands h l n on) i (has_from is i e) in
    let stands : (i : ℕ) → has is i ≡ true → is_some (standing h i) ≡ true = λ i e. ap is_some (at i e).1 in
    let all = how_many_more is (λ _. false) (given h) (distinct_has is (once_distinct (tree_of h n) (tree_once h l n on)))
    (λ i e. (some_positive (standing h) (given h) s i (stands i e), some_low (standing h) (given h) s i (stands i e), refl)) in
    let fewer = how_many_fewer (λ i. has is i || false) (λ i. is_item (standing h i)) (given h)
    (λ i e. ap is_item (at i (⊎_elim (λ y. y) (λ y. absurd (both_ways false refl y)) (or_cases _ _ e))).1) in
    omega (arith, few_items h l)
