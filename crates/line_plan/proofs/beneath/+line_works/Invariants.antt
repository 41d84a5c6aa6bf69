use Rattle.line_plan.proofs.beneath.+line_works.Given as goal

abbrev pub decreases-line_works : goal.decreases-line_works
decreases-line_works l = l.number.value
