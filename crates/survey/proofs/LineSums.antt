-- Figures that are the sums of their lines.
use Rattle.std.proofs.Common.{◌≡◌, ℕ, ◌<◌, ◌≤◌, List, ◌++◌, length, get_or, take, drop, is_some, Option, sym, refl, ap, ◌∙◌, ap₂, arith, take-append-drop}
use Rattle.std.proofs.lemmas.List.{ext_get_or, get_or-take, length-map, length-take}
use Rattle.rules.specs.declared.item_type.ItemType.{ItemType}
use Rattle.rules.specs.declared.line.Line.{Line}
use Rattle.rules.specs.Tables.{no_line}
use Rattle.rules.specs.History.{History, lines_of, lines_standing, place_in}
use Rattle.rules.specs.Ruled.{Lawful}
use Rattle.rules.specs.Trees.{Tree, item, block, tree_of, type_in}
use Rattle.rules.proofs.Limits.{lines_length}
use Rattle.sums.specs.Semiring.{Meaning, Semiring}
use Rattle.sums.specs.Sums.{working_sum, failing_sum}
use Rattle.sums.specs.Members.{Once}
use Rattle.sums.specs.Blocks.{block_working, block_failing}
use Rattle.sums.proofs.Blocks.{block_sums_stand_lem}
use Rattle.sums.proofs.Forest.{tree_once}
use Rattle.reckoning.specs.Figures.{IsFigure, Reckoned}
use Rattle.reckoning.proofs.Places.{line_at, placed}
use Rattle.survey.specs.declared.bench.Sums.{Sums}
use Rattle.survey.specs.Surveys.{sums_of, ItemSums, BlockSums, all_sums, left_on}
use Rattle.survey.proofs.Places.{sum_at}

module _ {F : Type 0} (m : Meaning F) (laws : Semiring m) where
  figure_sums : (types : ℕ → Option ItemType) (x : Tree) → Once x → (v : Sums F) → IsFigure (ItemSums m) (BlockSums m) types x v → v ≡ record { working = working_sum m types x; failing = failing_sum m types x }
  figure_sums types (item n) once v is =
      let b = block_sums_stand_lem laws in
      let e = is.2 in
      ap₂ (λ (p q : F). record { working = p; failing = q }) (e.0 ∙ sym (b.item_working types n is.0 is.1)) (e.1 ∙ sym (b.item_failing types n is.0 is.1))
  figure_sums types (block k x y) once v is =
      let b = block_sums_stand_lem laws in
      let e = is.4 in
      let ex = figure_sums types x once.1 is.0 is.2 in
      let ey = figure_sums types y once.2 is.1 is.3 in
      let g = block_working m k in
      let f = block_failing m k in
      ap₂ (λ (p q : F). record { working = p; failing = q })
      (e.0 ∙ ap₂ (λ (p q : Sums F). g p.working p.failing q.working q.failing) ex ey ∙ sym (b.working types k x y once))
      (e.1 ∙ ap₂ (λ (p q : Sums F). f p.working p.failing q.working q.failing) ex ey ∙ sym (b.failing types k x y once))

  -- at the place i
  sums_at : (h : History) → Lawful h → (old new : List (Sums F)) → Reckoned (ItemSums m) (BlockSums m) h old new → (i : ℕ) (d : Sums F) → i < length (lines_of h) → get_or new i d ≡ get_or (all_sums m h) i d
  sums_at h l old new r i d lt =
      let n = (get_or (lines_of h) i no_line).number.value in
      let at = placed h l n i (lt, refl) in
      let on = ap is_some (line_at h i lt) in
      ap (λ (j : ℕ). get_or new j d) at
      ∙ figure_sums (type_in h) (tree_of h n) (tree_once h l n on) (get_or new (place_in h n) d) (r.figured n on (omega (arith, lines_length h)) d)
      ∙ sym (sum_at m h i d lt)

  pub filled : (h : History) → Lawful h → (old new : List (Sums F)) → lines_standing h ≤ length new → Reckoned (ItemSums m) (BlockSums m) h old new → new ≡ left_on m h old
  filled h l old new room r =
      let k = length (lines_of h) in
      let d : Sums F = record { working = m.none; failing = m.none } in
      let count : k ≡ lines_standing h = lines_length h in
      let long : length (take k new) ≡ k = omega (arith, length-take k new) in
      sym (take-append-drop k new)
      ∙ ap₂ ◌++◌
      (ext_get_or d (take k new) (all_sums m h) (long ∙ sym (length-map (lines_of h) (λ (l : Line). sums_of m h l.number.value)))
      (λ i lt. get_or-take k new i d (omega arith) ∙ sums_at h l old new r i d (omega arith)))
      (ap (λ (j : ℕ). drop j new) count ∙ r.behind ∙ sym (ap (λ (j : ℕ). drop j old) count))
