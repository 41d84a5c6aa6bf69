use Rattle.std.proofs.Common.{sym, ap, ◌∙◌}
use Rattle.std.proofs.lemmas.Option.{same_Some}
use Rattle.cells.specs.declared.table.CellTable.{CellTable}
use Rattle.survey.specs.declared.bench.Sums.{Sums}
use Rattle.row.proofs.Benches.{sums_there, place_there}
use Rattle.row.proofs.first_sum.Goals as goal

pub unwrap-requires : goal.unwrap-requires
unwrap-requires c = place_there c.args.book.now _ _ _ _ _ c.in_ok-place.ensures.answer c.get.ensures

pub returns : goal.returns
returns c =
    let s = c.in_ok-place.ensures in
    record {
      answer = record {
        answer = λ h k. (
          (s.answer.answer h k).0,
          ap (λ (x : Sums CellTable). x.working) (same_Some _ _ (sym c.unwrap.ensures ∙ c.get.ensures ∙ sums_there h c.args.book.now k _ _ _ _ s.answer)),
        );
        left = s.answer.bench;
      };
      same = s.same;
    }
