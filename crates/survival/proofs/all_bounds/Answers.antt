use Rattle.std.proofs.Common.{arith}
use Rattle.rules.proofs.Limits.{lines_length, few_lines}
use Rattle.survival.specs.Held.{fraction_of}
use Rattle.survival.proofs.Reckoned.{held}
use Rattle.survival.proofs.all_bounds.Goals as goal

pub reckon-requires : goal.reckon-requires
reckon-requires c h k = omega (arith, lines_length h, few_lines h k.lawful)

pub returns-clause-held : goal.returns-clause-held
returns-clause-held c h k =
    held (fraction_of c.args.fractions.now) h k.lawful _ c.reckon.new.figures (c.reckon.ensures h k)
