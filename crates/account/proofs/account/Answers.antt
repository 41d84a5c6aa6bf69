use Rattle.std.proofs.Common.{◌≡◌, ◌≤◌, length, ap, ◌∙◌, arith}
use mathlib.Core.Logic.{∥∥₁_elim}
use native.Mathlib.Bridge.{le_prop}
use Rattle.rules.specs.History.{History, lines_standing}
use Rattle.rules.proofs.Limits.{balance, lines_length}
use Rattle.book.specs.Keeps.{Keeps}
use Rattle.account.proofs.Law.{whole_runs}
use Rattle.account.specs.Tallies.{meanings}
use Rattle.account.proofs.account.Given as given
use Rattle.account.proofs.account.Goals as goal

-- the lines of the book are those that stand
standing : (g : given.Over) (c : goal.After-lines g) (h : History) → Keeps h c.args.book.now → length c.lines.result.now ≡ lines_standing h
standing g c h k = ap length (c.lines.ensures h k) ∙ lines_length h

few : (g : given.Over) (c : goal.After-lines g) → length c.lines.result.now ≤ c.last_number-given.result
few g c = ∥∥₁_elim c.args.book.now.kept (λ p q. le_prop p q) (λ k. omega (arith, standing g c k.0 k.1, balance k.0 k.1.lawful, c.last_number-given.ensures k.0 k.1))

pub overflow_cast-standing : goal.overflow_cast-standing
overflow_cast-standing g c = omega (arith, few g c)

pub overflow_sub-result : goal.overflow_sub-result
overflow_sub-result g c = few g c

pub returns : goal.returns
returns g c = record {
  runs = whole_runs (meanings g.T.Tally.meaning);
  here = λ h k. let e = c.last_number-given.ensures h k in (e, standing g c h k, omega (arith, standing g c h k, balance h k.lawful));
}
