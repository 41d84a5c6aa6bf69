use Rattle.signature.specs.Polynomials.{product_of}
use Rattle.signature.proofs.Cells.{held_by}
use Rattle.signature.proofs.SignatureTally.times.Goals as goal

pub returns : goal.returns
returns c = held_by product_of c.args.a c.args.b c.new.result c.cells.result.now c.cells-2.result.now c.product.result
    c.cells.ensures c.cells-2.ensures c.new.ensures c.product.ensures
