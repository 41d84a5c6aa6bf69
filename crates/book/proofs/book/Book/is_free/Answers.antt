use Rattle.std.proofs.Common.{rules}
use Rattle.std.proofs.lemmas.Result.{MatchResult-weaker}
use Rattle.book.proofs.Steps.{free_answer}
use Rattle.book.proofs.book.Book.is_free.Goals as goal

pub returns : goal.returns
returns c h k =
    free_answer h k.lawful c.args.number.value c.question.result c.is_ok_and.result (c.question.ensures h k)
    (MatchResult-weaker c.question.result c.is_ok_and.ensures (λ l called. search rules) (λ e is. is))
