use Rattle.std.proofs.Common.{◌*◌, ap₂, mul-le-mul, arith}
use Rattle.survival.proofs.fixed_point.FixedPoint.product.Goals as goal

pub overflow_mul-result : goal.overflow_mul-result
overflow_mul-result c = omega (arith, ap₂ ◌*◌ c.from.ensures c.from-2.ensures, mul-le-mul c.args.self.within c.args.other.within)

pub returns : goal.returns
returns c = record {
  value = ap₂ ◌*◌ c.from.ensures c.from-2.ensures;
  small = omega (arith, ap₂ ◌*◌ c.from.ensures c.from-2.ensures, mul-le-mul c.args.self.within c.args.other.within);
}
