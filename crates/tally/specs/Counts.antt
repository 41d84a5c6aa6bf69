-- Counts of states, modulo 2^32.
use Rattle.std.specs.Prelude.{◌≡◌, ℕ, ◌+◌, ◌*◌, ◌%◌, ◌≤◌, not, length, Option}
use Rattle.std.proofs.Common.{mod-lt, lit<}
use Rattle.rules.specs.declared.item_type.ItemType.{ItemType}
use Rattle.rules.specs.Trees.{Tree, items, works}
use Rattle.sums.specs.Semiring.{Meaning}
use Rattle.sums.specs.States.{states_passing}
use Rattle.sums.specs.Sums.{working_sum, failing_sum}
use Rattle.tally.specs.declared.state_count.StateCount.{StateCount}

-- the number n, modulo 2^32
abbrev pub counted : ℕ → StateCount
counted n = record { value = n % 4294967296; fits = mod-lt n (lit< tt) }

-- plus and times are those of whole numbers; the figure of every item is 1, whether it works or not
abbrev pub counts : Meaning StateCount
counts = record {
  none = counted 0;
  unit = counted 1;
  plus = λ x y. counted (x.value + y.value);
  times = λ x y. counted (x.value * y.value);
  working = λ t. counted 1;
  failed = λ t. counted 1;
}

-- under count the sums of a line over at most 16 items are the numbers of states in which it works,
-- and in which it does not
abbrev pub CountsStand : Type 0
CountsStand = (types : ℕ → Option ItemType) (x : Tree) → length (items x) ≤ 16
    → ((working_sum counts types x).value ≡ states_passing (items x) (works x))
    × ((failing_sum counts types x).value ≡ states_passing (items x) (λ s. not (works x s)))
