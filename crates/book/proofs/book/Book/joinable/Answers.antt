use Rattle.std.proofs.Common.{arith}
use Rattle.std.proofs.lemmas.Bool.Decides.{nat_tests}
use Rattle.book.proofs.book.Book.joinable.Goals as goal

pub returns : goal.returns
returns c =
    let p = c.in_ok-place_a.ensures in
    let q = c.in_ok-place_b.ensures in
    ((p.0, q.0), λ h k. grind (arith, nat_tests, p.1 h k, q.1 h k, c.in_ok-check_number_left.ensures.1 h k))
