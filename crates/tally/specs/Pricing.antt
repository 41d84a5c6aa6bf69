-- Prices of items, and what they make of losses.
use Rattle.std.specs.Prelude.{◌≡◌, ℕ, ◌+◌, ◌<◌, min, ◌⊎◌, List, [], ◌∷◌, Result}
use Rattle.std.proofs.Math.Nat.{min-le_right}
use Rattle.rules.specs.declared.item_type.ItemType.{ItemType}
use Rattle.rules.specs.declared.item_type.ItemType.TheVariants.{One, Two, Three}
use Rattle.rules.specs.declared.refusal.Refusal.{Refusal}
use Rattle.rules.specs.declared.refusal.Refusal.TheVariants.{PriceTooHigh}
use Rattle.rules.specs.ByType.{of_type}
use Rattle.rules.specs.Rules.{Rule, ◌when◌, Decided}
use Rattle.sums.specs.Semiring.{Meaning}
use Rattle.tally.specs.declared.loss.Loss.{Loss}
use Rattle.tally.specs.declared.prices.Prices.{Prices}

-- the price of a type
abbrev pub price_of : Prices → ItemType → ℕ
price_of p = of_type p.each

-- why prices for the three types may not be set
abbrev pub pricing : ℕ → ℕ → ℕ → List Rule
pricing one two three = PriceTooHigh when ((1000000 < one) ⊎ (1000000 < two) ⊎ (1000000 < three)) ∷ []

-- the answer to prices that are asked for
abbrev pub PricesRuled : ℕ → ℕ → ℕ → Result Prices Refusal → Type 0
PricesRuled one two three r =
    Decided (pricing one two three) (λ p. (price_of p One ≡ one) × (price_of p Two ≡ two) × (price_of p Three ≡ three)) r

-- a loss of n, or of 4294967295 where n is more
abbrev pub lost : ℕ → Loss
lost n = record { value = min n 4294967295; fits = min-le_right n 4294967295 }

-- plus is the smaller, times the sum; an item that fails costs its type's price, one that works nothing
abbrev pub prices : Prices → Meaning Loss
prices p = record {
  none = lost 4294967295;
  unit = lost 0;
  plus = λ x y. lost (min x.value y.value);
  times = λ x y. lost (x.value + y.value);
  working = λ t. lost 0;
  failed = λ t. lost (price_of p t);
}
