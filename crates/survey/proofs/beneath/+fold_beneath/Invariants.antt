use Rattle.survey.proofs.beneath.+fold_beneath.Given as goal

abbrev pub decreases-fold_beneath : goal.decreases-fold_beneath
decreases-fold_beneath g l = l.number.value
