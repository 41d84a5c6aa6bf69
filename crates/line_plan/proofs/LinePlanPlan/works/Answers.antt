use Rattle.std.proofs.Common.{List, sym, ap, ◌∙◌}
use mathlib.Core.Bool.{Bool-set}
use mathlib.Core.Logic.{∥∥₁_elim}
use Rattle.rules.specs.declared.line.Line.{Line}
use Rattle.sums.specs.States.{all_failed}
use Rattle.place_set.specs.Sets.{members}
use Rattle.line_plan.specs.Items.{listed, state_of}
use Rattle.line_plan.specs.Meanings.{lines_work}
use Rattle.line_plan.proofs.Trees.{line_runs}
use Rattle.line_plan.proofs.LinePlanPlan.works.Goals as goal

pub returns : goal.returns
returns c =
    let p = c.args.self.now in
    let s = state_of (listed p.items) (members c.args.state) in
    ∥∥₁_elim p.book.now.kept (Bool-set _ _) (λ k.
    c.line_works.ensures k.0 k.1
    ∙ sym (ap (λ (ls : List Line). lines_work s all_failed ls p.number.value) k.1.lines ∙ line_runs k.0 k.1.lawful s p.number.value))
