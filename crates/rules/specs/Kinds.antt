-- When a block works.
use Rattle.std.specs.Prelude.{Bool, ◌&&◌, ◌||◌}
use Rattle.rules.specs.declared.kind.Kind.{Kind}
use Rattle.rules.specs.declared.kind.Kind.TheVariants.{Series, Parallel}

-- a series block works if both its lines do, a parallel block if at least one does
abbrev pub block_works : Kind → Bool → Bool → Bool
block_works Series a b = a && b
block_works Parallel a b = a || b
