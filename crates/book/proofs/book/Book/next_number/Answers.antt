use Rattle.std.proofs.Common.{arith}
use Rattle.book.proofs.Steps.{few_numbers}
use Rattle.book.proofs.book.Book.next_number.Goals as goal

pub overflow_add-result : goal.overflow_add-result
overflow_add-result c = omega (arith, few_numbers c.args.self.now)
