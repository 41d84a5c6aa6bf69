-- The tallies that one run may mix: those of any type T, counts, prices and signature tables.
use Rattle.std.specs.Prelude.{◌⊎◌}
use Rattle.std.proofs.Common.{inl, inr}
use Rattle.sums.specs.Semiring.{Meaning}
use Rattle.tally.specs.declared.count.Count.{Count}
use Rattle.tally.specs.declared.prices.Prices.{Prices}
use Rattle.tally.specs.declared.state_count.StateCount.{StateCount}
use Rattle.tally.specs.declared.loss.Loss.{Loss}
use Rattle.tally.specs.Counts.{counts}
use Rattle.tally.specs.Pricing.{prices}
use Rattle.cells.specs.declared.table.CellTable.{CellTable}
use Rattle.signature.specs.declared.Signature.{Signature}
use Rattle.signature.specs.Signature.{signature}

-- one of them
abbrev pub Tallies : Type 0 → Type 0
Tallies T = T ⊎ (Count ⊎ (Prices ⊎ Signature))

-- its figures
abbrev pub Figures : {T : Type 0} → Type 0 → Tallies T → Type 0
Figures F (inl t) = F
Figures F (inr (inl c)) = StateCount
Figures F (inr (inr (inl p))) = Loss
Figures F (inr (inr (inr s))) = CellTable

-- what it means
abbrev pub meanings : {T F : Type 0} → (T → Meaning F) → (i : Tallies T) → Meaning (Figures F i)
meanings meaning (inl t) = meaning t
meanings meaning (inr (inl c)) = counts
meanings meaning (inr (inr (inl p))) = prices p
meanings meaning (inr (inr (inr s))) = signature
