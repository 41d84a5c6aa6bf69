-- What the cells of a line's sums count.
use Rattle.std.specs.Prelude.{◌≡◌, ℕ, ◌%◌, ◌<◌, not, ◌&&◌, Option}
use Rattle.rules.specs.declared.item_type.ItemType.{ItemType}
use Rattle.rules.specs.Trees.{Tree, items, works}
use Rattle.sums.specs.States.{states_passing}
use Rattle.sums.specs.ByType.{numbers_work}
use Rattle.sums.specs.Sums.{working_sum, failing_sum}
use Rattle.cells.specs.Tables.{at}
use Rattle.signature.specs.Signature.{signature}

-- under the signature the cell (a, b, c) of a line's two sums is the number of states with a, b and c
-- items of types 1, 2 and 3 working in which the line works, and in which it does not, modulo 65,536
abbrev pub SignatureStands : Type 0
SignatureStands = (types : ℕ → Option ItemType) (x : Tree) (a b c : ℕ) → a < 8 → b < 8 → c < 8
    → (at (working_sum signature types x) a b c ≡ states_passing (items x) (λ s. works x s && numbers_work types (items x) a b c s) % 65536)
    × (at (failing_sum signature types x) a b c ≡ states_passing (items x) (λ s. not (works x s) && numbers_work types (items x) a b c s) % 65536)
