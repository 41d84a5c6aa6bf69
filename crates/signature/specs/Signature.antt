-- The survival signature's tally: polynomials kept in tables, which drop every index above 7 and
-- hold each coefficient modulo 65,536.
use Rattle.sums.specs.Semiring.{Meaning}
use Rattle.cells.specs.declared.table.CellTable.{CellTable}
use Rattle.cells.specs.Tables.{table_of, at}
use Rattle.signature.specs.Polynomials.{one_at, variable, sum_of, product_of}

abbrev pub signature : Meaning CellTable
signature = record {
  none = table_of (λ a b c. 0);
  unit = table_of (one_at 0 0 0);
  plus = λ x y. table_of (sum_of (at x) (at y));
  times = λ x y. table_of (product_of (at x) (at y));
  working = λ t. table_of (variable t);
  failed = λ t. table_of (one_at 0 0 0);
}
