use Rattle.std.proofs.Common.{List, sym, subst}
use Rattle.rules.specs.declared.line.Line.{Line}
use Rattle.book.specs.Kept.{Kept}
use Rattle.book.proofs.book.Book.restore.Goals as goal

pub invariant_of-self-clause-kept : goal.invariant_of-self-clause-kept
invariant_of-self-clause-kept c =
    let s = c.args.snapshot.now in
    subst (λ (xs : List Line). Kept xs s.last) (sym c.replace.ensures.items) s.kept
