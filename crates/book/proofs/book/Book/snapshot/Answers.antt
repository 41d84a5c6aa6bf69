use Rattle.std.proofs.Common.{◌≡◌, ◌≤◌, List, ◌++◌, length, take, vec_items, sym, refl, ap, ◌∙◌, subst, arith}
use Rattle.std.proofs.lemmas.List.{length-take-le, take_at}
use Rattle.rules.specs.declared.line.Line.{Line}
use Rattle.book.specs.Kept.{Kept}
use Rattle.book.proofs.Steps.{few_held}
use Rattle.book.proofs.book.Book.snapshot.Goals as goal
use Rattle.book.proofs.book.Book.snapshot.Goals.{After-len-count, After-copy_from_slice}

room : (c : After-len-count) → c.len-count.result ≤ 31
room c = omega (arith, few_held c.args.self.now, c.args.self.now.table.lines.ok.0)

pub slice_bounds-lines-end : goal.slice_bounds-lines-end
slice_bounds-lines-end c = room c

pub slice_bounds-copy_from_slice-end : goal.slice_bounds-copy_from_slice-end
slice_bounds-copy_from_slice-end c = sym (length-take-le _ _ (room (goal.at.slice_bounds-copy_from_slice-end c).After-len-count))

pub copy_from_slice-requires : goal.copy_from_slice-requires
copy_from_slice-requires c = length-take-le _ _ (room (goal.at.copy_from_slice-requires c).After-len-count) ∙ c.len-count.ensures ∙ sym c.deref.ensures.len

-- the first lines of the array are the table's
copied : (c : After-copy_from_slice) (blanks : List Line) → take c.len-count.result (c.copy_from_slice.new.self ++ blanks) ≡ vec_items c.args.self.now.table.lines
copied c blanks =
    take_at c.copy_from_slice.new.self blanks _ (ap length c.copy_from_slice.ensures.after ∙ c.deref.ensures.len ∙ sym c.len-count.ensures)
    ∙ c.copy_from_slice.ensures.after ∙ c.deref.ensures.value

pub invariant_of-result : goal.invariant_of-result
invariant_of-result c =
    let past = goal.at.invariant_of-result c in
    let b = c.args.self.now in
    record {
      within = room past.After-len-count;
      kept = subst (λ (xs : List Line). Kept xs b.last) (sym (copied past.After-copy_from_slice _)) b.kept;
    }

pub returns : goal.returns
returns c = record { lines = sym (copied (goal.at.returns c).After-copy_from_slice _); last = refl }
