use Rattle.std.proofs.Common.{sym, ap, ◌∙◌}
use Rattle.cells.specs.Tables.{table_of}
use Rattle.signature.specs.Polynomials.{variable}
use Rattle.signature.proofs.SignatureTally.working.Goals as goal

pub returns-in-One : goal.returns-in-One
returns-in-One c = c.one_at.ensures ∙ ap (λ t. table_of (variable t)) (sym c.in-One.is)

pub returns-in-Two : goal.returns-in-Two
returns-in-Two c = c.one_at-in-Two.ensures ∙ ap (λ t. table_of (variable t)) (sym c.in-Two.is)

pub returns-in-Three : goal.returns-in-Three
returns-in-Three c = c.one_at-in-Three.ensures ∙ ap (λ t. table_of (variable t)) (sym c.in-Three.is)
