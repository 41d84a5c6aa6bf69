-- The worked examples, together.
use Rattle.std.proofs.Common.{refl, arith}
use Rattle.rules.specs.declared.change.Change.TheVariants.{Join, Withdraw}
use Rattle.worked.specs.Worked.{WorkedExamples, line, example, without_5, sixteen}
use Rattle.worked.proofs.Deciding.{change_allowed, lawful}
use Rattle.worked.proofs.Cells.{table, line_counted, paths_counted, mirror_counted, lockout_counted}
use Rattle.worked.proofs.Paths.{paths_allowed}
use Rattle.worked.proofs.Figures.{cheapest, failing_65, survival_of_5, survival_of_4}
use Rattle.worked.proofs.Rows.{row_lawful, row_allowed, row_is}
use Rattle.worked.proofs.Refusals.{withdraw_4, survey_5, question_7, items_17, of_type_7, of_type_8, bench_5, bench_4}

pub worked_examples : WorkedExamples
worked_examples = record {
  book_lawful = lawful example refl;
  book_given = refl;
  count_5 = refl;
  signature_5 = table;
  loss_5 = λ p one two. (cheapest p one two, failing_65 p one two);
  survival_5 = survival_of_5;
  survival_4 = survival_of_4;
  plan_5 = line_counted;
  paths_allowed = paths_allowed;
  paths = paths_counted;
  mirror = mirror_counted;
  lockout_allowed = (λ high. omega (arith, high), tt);
  lockout = lockout_counted;
  row_lawful = row_lawful;
  row_allowed = row_allowed;
  row_5 = row_is;
  withdraw_4 = (withdraw_4, refl);
  withdraw_5 = (change_allowed example (Withdraw (line 5)) refl, refl);
  join_3_4 = λ k. (change_allowed without_5 (Join k (line 3) (line 4)) refl, refl);
  survey_5 = λ k places. (survey_5 k places, refl);
  question_7 = λ k. (question_7 k, refl);
  items_16 = lawful sixteen refl;
  items_17 = (items_17, refl);
  of_type_7 = of_type_7;
  of_type_8 = λ t. (of_type_8 t, refl);
  bench_5 = (bench_5, refl);
  bench_4 = (bench_4, refl);
}
