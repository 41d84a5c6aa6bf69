-- The list of standing lines, and what each change makes of it.
use Rattle.std.proofs.Common.{◌≡◌, ℕ, suc, ◌<◌, ◌≤◌, Bool, true, false, cond, ◌||◌, eqb, ◌≢◌, List, [], ◌∷◌, ◌++◌, length, get_or, Some, None, Option, sym, refl, ap, ◌∙◌, subst, ⊎_elim, arith}
use Rattle.std.specs.Option.{option_map, option_to_list}
use Rattle.std.specs.List.{remove}
use Rattle.std.proofs.lemmas.List.{length-set, get_or-set_other}
use Rattle.std.proofs.lemmas.Bool.{cases_Bool, eqb-true, eq-eqb, ne_eqb, cond-true, cond-false, or_from}
use Rattle.rules.specs.declared.change.Change.TheVariants.{Issue, Join, Withdraw}
use Rattle.rules.specs.declared.item_type.ItemType.{ItemType}
use Rattle.rules.specs.declared.kind.Kind.{Kind}
use Rattle.rules.specs.declared.line.Line.{Line}
use Rattle.rules.specs.declared.line.Part.{Part}
use Rattle.rules.specs.declared.line.Part.TheVariants.{Item, Block}
use Rattle.rules.specs.declared.part_number.PartNumber.{PartNumber}
use Rattle.rules.specs.Types.{type_numbered}
use Rattle.rules.specs.Tables.{with_mark, no_line, marked, Released}
use Rattle.rules.specs.History.{History, given, standing, has, under, is_built_in, line_of, listing, lines_of}
use Rattle.rules.specs.Ruled.{Lawful}
use Rattle.rules.proofs.Listings.{listing_same, listing_in, listing_has, listing-set, listing-removed}
use Rattle.rules.proofs.Sound.{changed, built, sound, next_not_built, built_add, built_out, joinable}

-- the line n of a part, with its mark
abbrev pub line : ℕ → Part → Bool → Line
line n p v = record { number = record { value = n }; part = p; built_in = v }

-- the lines of parts and marks
abbrev pub laid : (ℕ → Option Part) → (ℕ → Bool) → ℕ → Option Line
laid o v n = option_map (λ p. line n p (v n)) (o n)

mapped_some : (g : Part → Line) (o : Option Part) (l : Line) → option_map g o ≡ Some l → (p : Part) × (o ≡ Some p) × (g p ≡ l)
mapped_some g None l e = absurd (let z : ◌≡◌ {A = ℕ} 0 1 = cc in omega arith)
mapped_some g (Some p) l e = (p, refl, cc)

pub laid_number : (o : ℕ → Option Part) (v : ℕ → Bool) (n : ℕ) (l : Line) → laid o v n ≡ Some l → l.number.value ≡ n
laid_number o v n l e = let r = mapped_some (λ p. line n p (v n)) (o n) l e in sym (ap (λ (x : Line). x.number.value) r.2)

-- the line with the number n stands at a place of the table
pub line_there : (o : ℕ → Option Part) (v : ℕ → Bool) (g i n : ℕ) → i < length (listing (laid o v) g) → (get_or (listing (laid o v) g) i no_line).number.value ≡ n → laid o v n ≡ Some (get_or (listing (laid o v) g) i no_line)
line_there o v g i n lt at =
    let l = get_or (listing (laid o v) g) i no_line in
    let r = listing_in (laid o v) g i no_line lt in
    subst (λ (k : ℕ). laid o v k ≡ Some l) (sym (laid_number o v r.0 l r.3) ∙ at) r.3

-- its part and its mark
pub part_there : (o : ℕ → Option Part) (v : ℕ → Bool) (g i n : ℕ) → i < length (listing (laid o v) g) → (get_or (listing (laid o v) g) i no_line).number.value ≡ n
    → (o n ≡ Some (get_or (listing (laid o v) g) i no_line).part) × (v n ≡ (get_or (listing (laid o v) g) i no_line).built_in)
part_there o v g i n lt at =
    let r = mapped_some (λ p. line n p (v n)) (o n) _ (line_there o v g i n lt at) in
    (r.1 ∙ ap (λ (l : Line). Some l.part) r.2, ap (λ (l : Line). l.built_in) r.2)

-- a number that no line of the table has does not stand
pub not_there : (o : ℕ → Option Part) (v : ℕ → Bool) (g n : ℕ) → 0 < n → n ≤ g → ((i : ℕ) → i < length (listing (laid o v) g) → (get_or (listing (laid o v) g) i no_line).number.value ≡ n → ⊥) → o n ≡ None
not_there o v g n pos le none = at (o n) refl
  where
    at : (p : Option Part) → o n ≡ p → o n ≡ None
    at None e = e
    at (Some p) e =
        let r = listing_has (laid o v) g n (line n p (v n)) no_line pos le (ap (λ (x : Option Part). option_map (λ p. line n p (v n)) x) e) in
        absurd (none r.0 r.1 (ap (λ (x : Line). x.number.value) r.2))

-- another mark for the line a
pub mark_laid : (o : ℕ → Option Part) (v : ℕ → Bool) (w : Bool) (a g i : ℕ) → i < length (listing (laid o v) g) → (get_or (listing (laid o v) g) i no_line).number.value ≡ a
    → marked (listing (laid o v) g) i w ≡ listing (laid o (λ n. cond (eqb n a) w (v n))) g
mark_laid o v w a g i lt at =
    let l = get_or (listing (laid o v) g) i no_line in
    let q = mapped_some (λ p. line a p (v a)) (o a) l (line_there o v g i a lt at) in
    sym (listing-set (λ (x : Line). x.number.value) (laid o v) (laid_number o v) no_line (laid o (λ n. cond (eqb n a) w (v n))) a (with_mark w l)
    (λ n ne. ap (λ (b : Bool). option_map (λ p. line n p b) (o n)) (cond-false _ _ _ (ne_eqb n a ne)))
    (ap (λ (x : Option Part). option_map (λ p. line a p (cond (eqb a a) w (v a))) x) q.1
    ∙ ap (λ (b : Bool). Some (line a q.0 b)) (cond-true _ _ _ (eq-eqb a a refl))
    ∙ ap (λ (x : Line). Some (with_mark w x)) q.2)
    g i lt at)

-- the line a taken out
pub out_laid : (o : ℕ → Option Part) (v : ℕ → Bool) (a g i : ℕ) → i < length (listing (laid o v) g) → (get_or (listing (laid o v) g) i no_line).number.value ≡ a
    → remove (listing (laid o v) g) i ≡ listing (laid (changed o a None) v) g
out_laid o v a g i lt at =
    sym (listing-removed (λ (x : Line). x.number.value) (laid o v) (laid_number o v) no_line (laid (changed o a None) v) a
    (λ n ne. ap (λ (x : Option Part). option_map (λ p. line n p (v n)) x) (cond-false _ _ _ (ne_eqb n a ne)))
    (ap (λ (x : Option Part). option_map (λ p. line a p (v a)) x) (cond-true _ _ _ (eq-eqb a a refl)))
    g i lt at)

-- a line more
add_laid : (o : ℕ → Option Part) (v v' : ℕ → Bool) (g : ℕ) (p : Part) → ((n : ℕ) → 0 < n → n ≤ g → v' n ≡ v n) → v' (suc g) ≡ false
    → listing (laid (changed o (suc g) (Some p)) v') (suc g) ≡ listing (laid o v) g ++ line (suc g) p false ∷ []
add_laid o v v' g p same off =
    ap (λ (xs : List Line). xs ++ option_to_list (laid (changed o (suc g) (Some p)) v' (suc g)))
    (listing_same (laid (changed o (suc g) (Some p)) v') (laid o v) g
    (λ n lo hi.
    ap (λ (x : Option Part). option_map (λ q. line n q (v' n)) x) (cond-false _ _ _ (ne_eqb n (suc g) (λ e. omega arith)))
    ∙ ap (λ (b : Bool). option_map (λ q. line n q b) (o n)) (same n lo hi)))
    ∙ ap (λ (x : Option Line). listing (laid o v) g ++ option_to_list x)
    (ap (λ (x : Option Part). option_map (λ q. line (suc g) q (v' (suc g))) x) (cond-true _ _ _ (eq-eqb (suc g) (suc g) refl))
    ∙ ap (λ (b : Bool). Some (line (suc g) p b)) off)

-- the table after an issue
pub issue_lines : (h : History) (t : ℕ) (k : ItemType) → Lawful h → type_numbered t ≡ Some k → lines_of (Issue t ∷ h) ≡ lines_of h ++ line (suc (given h)) (Item k) false ∷ []
issue_lines h t k law e =
    let o = standing h in
    let g = given h in
    let s = sound h law in
    let v : ℕ → Bool = built (changed o (suc g) (Some (Item k))) (suc g) in
    ap (λ (p : Option Part). listing (laid (changed o (suc g) p) (built (changed o (suc g) p) (suc g))) (suc g)) (ap (option_map Item) e)
    ∙ add_laid o (built o g) v g (Item k) (λ n lo hi. built_add o g s (Some (Item k)) n) (built_add o g s (Some (Item k)) (suc g) ∙ next_not_built o g s)

two_marks : (x y z : Bool) → ((x || (y || false)) || z) ≡ cond y true (cond x true z)
two_marks true true z = refl
two_marks true false z = refl
two_marks false true z = refl
two_marks false false z = refl

-- the table after two lines are joined
pub join_lines : (h : History) (k : Kind) (a b : PartNumber) (i j : ℕ) → Lawful (Join k a b ∷ h)
    → i < length (lines_of h) → (get_or (lines_of h) i no_line).number.value ≡ a.value
    → j < length (lines_of h) → (get_or (lines_of h) j no_line).number.value ≡ b.value
    → lines_of (Join k a b ∷ h) ≡ marked (marked (lines_of h) i true) j true ++ line (suc (given h)) (Block k a b) false ∷ []
join_lines h k a b i j law li ai lj aj =
    let o = standing h in
    let g = given h in
    let s = sound h law.1 in
    let w = joinable h k a b law.0 in
    let p = Block k a b in
    let v : ℕ → Bool = built (changed o (suc g) (Some p)) (suc g) in
    let v1 : ℕ → Bool = λ n. cond (eqb n a.value) true (is_built_in h n) in
    let v2 : ℕ → Bool = λ n. cond (eqb n b.value) true (v1 n) in
    let e1 : marked (lines_of h) i true ≡ listing (laid o v1) g = mark_laid o (is_built_in h) true a.value g i li ai in
    let apart : j ≢ i = λ z. w.differ (sym ai ∙ ap (λ (m : ℕ). (get_or (lines_of h) m no_line).number.value) (sym z) ∙ aj) in
    let lj1 : j < length (listing (laid o v1) g) = omega (arith, lj, ap length e1, length-set (lines_of h) i (with_mark true (get_or (lines_of h) i no_line))) in
    let aj1 : (get_or (listing (laid o v1) g) j no_line).number.value ≡ b.value =
    ap (λ (xs : List Line). (get_or xs j no_line).number.value) (sym e1)
    ∙ ap (λ (x : Line). x.number.value) (get_or-set_other (lines_of h) i j (with_mark true (get_or (lines_of h) i no_line)) no_line apart) ∙ aj in
    let e2 : marked (marked (lines_of h) i true) j true ≡ listing (laid o v2) g =
    ap (λ (xs : List Line). marked xs j true) e1 ∙ mark_laid o v1 true b.value g j lj1 aj1 in
    add_laid o v2 v g p
    (λ n lo hi. built_add o g s (Some p) n ∙ two_marks (eqb n a.value) (eqb n b.value) (is_built_in h n))
    (built_add o g s (Some p) (suc g)
    ∙ or_from _ _ (or_from _ _ (ne_eqb (suc g) a.value (λ e. omega (arith, w.first.given))) (or_from _ _ (ne_eqb (suc g) b.value (λ e. omega (arith, w.second.given))) refl)) (next_not_built o g s))
    ∙ ap (λ (xs : List Line). xs ++ line (suc g) p false ∷ []) (sym e2)

release_laid : (o : ℕ → Option Part) (v : ℕ → Bool) (g a : ℕ) (ys : List Line) → Released a (listing (laid o v) g) ys → ys ≡ listing (laid o (λ n. cond (eqb n a) false (v n))) g
release_laid o v g a ys r =
    ⊎_elim
    (λ w. w.1 ∙ listing_same (laid o v) (laid o (λ n. cond (eqb n a) false (v n))) g
    (λ n lo hi. ⊎_elim
    (λ y. let z : o n ≡ None = not_there o v g n lo hi (λ i lt at. w.0 i lt (at ∙ eqb-true n a y)) in
    ap (λ (x : Option Part). option_map (λ p. line n p (v n)) x) z
    ∙ sym (ap (λ (x : Option Part). option_map (λ p. line n p (cond (eqb n a) false (v n))) x) z))
    (λ y. ap (λ (b : Bool). option_map (λ p. line n p b) (o n)) (sym (cond-false _ _ _ y)))
    (cases_Bool (eqb n a))))
    (λ w. w.2 ∙ mark_laid o v false a g w.0 w.1.0 w.1.1)
    r

-- the table after the withdrawal of an item
pub item_out : (h : History) (x : PartNumber) (i : ℕ) (t : ItemType) → Lawful h → i < length (lines_of h) → (get_or (lines_of h) i no_line).number.value ≡ x.value
    → (get_or (lines_of h) i no_line).part ≡ Item t → lines_of (Withdraw x ∷ h) ≡ remove (lines_of h) i
item_out h x i t law lt at is =
    let o = standing h in
    let g = given h in
    let e : o x.value ≡ Some (Item t) = (part_there o (is_built_in h) g i x.value lt at).0 ∙ ap Some is in
    listing_same (line_of (Withdraw x ∷ h)) (laid (changed o x.value None) (is_built_in h)) g
    (λ n lo hi. ap (λ (b : Bool). option_map (λ p. line n p b) (standing (Withdraw x ∷ h) n))
    (built_out o g (sound h law) x.value n ∙ ap (λ (p : Option Part). cond (has (under p) n) false (is_built_in h n)) e))
    ∙ sym (out_laid o (is_built_in h) x.value g i lt at)

two_frees : (x y z : Bool) → cond (x || (y || false)) false z ≡ cond y false (cond x false z)
two_frees true true z = refl
two_frees true false z = refl
two_frees false true z = refl
two_frees false false z = refl

-- the table after the withdrawal of a block, whose lines are made free
pub block_out : (h : History) (x : PartNumber) (i : ℕ) (k : Kind) (a b : PartNumber) (ys zs : List Line) → Lawful h → i < length (lines_of h) → (get_or (lines_of h) i no_line).number.value ≡ x.value
    → (get_or (lines_of h) i no_line).part ≡ Block k a b → Released a.value (remove (lines_of h) i) ys → Released b.value ys zs → lines_of (Withdraw x ∷ h) ≡ zs
block_out h x i k a b ys zs law lt at is p q =
    let o = standing h in
    let g = given h in
    let o' : ℕ → Option Part = changed o x.value None in
    let e : o x.value ≡ Some (Block k a b) = (part_there o (is_built_in h) g i x.value lt at).0 ∙ ap Some is in
    let f : ys ≡ listing (laid o' (λ n. cond (eqb n a.value) false (is_built_in h n))) g =
    release_laid o' (is_built_in h) g a.value ys (subst (λ (us : List Line). Released a.value us ys) (out_laid o (is_built_in h) x.value g i lt at) p) in
    listing_same (line_of (Withdraw x ∷ h)) (laid o' (λ n. cond (eqb n b.value) false (cond (eqb n a.value) false (is_built_in h n)))) g
    (λ n lo hi. ap (λ (v : Bool). option_map (λ p. line n p v) (standing (Withdraw x ∷ h) n))
    (built_out o g (sound h law) x.value n ∙ ap (λ (p : Option Part). cond (has (under p) n) false (is_built_in h n)) e ∙ two_frees (eqb n a.value) (eqb n b.value) (is_built_in h n)))
    ∙ sym (release_laid o' (λ n. cond (eqb n a.value) false (is_built_in h n)) g b.value zs (subst (λ (us : List Line). Released b.value us zs) f q))
