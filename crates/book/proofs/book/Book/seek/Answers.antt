use Rattle.std.proofs.Common.{ℕ, ◌<◌, ◌≤◌, Some, None, Option, MatchOption, vec_items, arith}
use Rattle.std.specs.Option.{ok_or}
use Rattle.rules.specs.declared.refusal.Refusal.TheVariants.{Withdrawn}
use Rattle.rules.specs.Tables.{At, Missing}
use Rattle.book.specs.declared.book.Book.{Book}
use Rattle.book.specs.Keeps.{Seeks}
use Rattle.book.proofs.Steps.{name_missing, name_there, line_is, rising_held}
use Rattle.book.proofs.book.Book.seek.Goals as goal

pub find-requires : goal.find-requires
find-requires c = rising_held c.args.self.now

-- what the table finds under a number that was given
answered : (b : Book) (n : ℕ) (o : Option ℕ) → 0 < n → n ≤ b.last → MatchOption o (Missing (vec_items b.table.lines) n) (At (vec_items b.table.lines) n) → Seeks n b (ok_or o Withdrawn)
answered b n None pos le none = λ h k. name_missing k n pos le none
answered b n (Some i) pos le at =
    let xs = vec_items b.table.lines in
    (at, λ h k. (name_there k n i pos le at, line_is k n i at))

pub returns : goal.returns
returns c = rw c.ok_or.ensures.value (answered c.args.self.now c.args.number.value c.find.result (omega arith) (omega arith) c.find.ensures)
