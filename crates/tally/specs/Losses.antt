-- What the items that fail cost, and the cheapest loss that stops a line.
use Rattle.std.specs.Prelude.{◌≡◌, ℕ, ◌+◌, ◌≤◌, Bool, true, false, List, length, Some, None, Option}
use Rattle.rules.specs.declared.item_type.ItemType.{ItemType}
use Rattle.rules.specs.Trees.{State, Tree, items, works}
use Rattle.sums.specs.States.{total}
use Rattle.sums.specs.Sums.{failing_sum}
use Rattle.tally.specs.declared.prices.Prices.{Prices}
use Rattle.tally.specs.Pricing.{price_of, prices}

-- what an item costs: its type's price if it fails, nothing if it works; what is no item costs nothing
abbrev pub item_loss : Prices → Option ItemType → Bool → ℕ
item_loss p None v = 0
item_loss p (Some t) true = 0
item_loss p (Some t) false = price_of p t

-- the total price of the items that fail in the state s
abbrev pub loss_in : Prices → (ℕ → Option ItemType) → List ℕ → State → ℕ
loss_in p types is s = total 0 ◌+◌ (λ i. item_loss p (types i) (s i)) is

-- c is the cheapest loss that stops the line x: in some state in which it does not work the items
-- that fail cost c, and in none of those states do they cost less
pub record CheapestLoss (p : Prices) (types : ℕ → Option ItemType) (x : Tree) (c : ℕ) : Type 0 where
  pub reached : (s : State) × (works x s ≡ false) × (loss_in p types (items x) s ≡ c)
  pub least : (s : State) → works x s ≡ false → c ≤ loss_in p types (items x) s

-- under prices the failing sum of a line over at most 16 items is the cheapest loss that stops it
abbrev pub CheapestLossStands : Prices → Type 0
CheapestLossStands p = (types : ℕ → Option ItemType) (x : Tree) → length (items x) ≤ 16
    → CheapestLoss p types x (failing_sum (prices p) types x).value
