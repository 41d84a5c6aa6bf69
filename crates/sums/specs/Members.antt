-- Lists of numbers by what they hold, and trees in which no item stands twice.
use Rattle.std.specs.Prelude.{ℕ, ◌<◌, List, [], ◌∷◌}
use mathlib.Core.List.{Memᴰ}
use Rattle.rules.specs.Trees.{Tree, item, block, items}

infix 50 ◌∈◌
-- the list has the number
abbrev pub ◌∈◌ : ℕ → List ℕ → Type 0
i ∈ is = Memᴰ i is

-- no number stands in both lists
abbrev pub Apart : List ℕ → List ℕ → Type 0
Apart a b = (i : ℕ) → i ∈ a → i ∈ b → ⊥

-- the lists have the same numbers
abbrev pub Alike : List ℕ → List ℕ → Type 0
Alike a b = (i : ℕ) → (i ∈ a → i ∈ b) × (i ∈ b → i ∈ a)

-- no number stands twice in the list
abbrev pub Distinct : List ℕ → Type 0
Distinct [] = Unit {0}
Distinct (i ∷ is) = (i ∈ is → ⊥) × Distinct is

-- each number is below all that follow it
abbrev pub Rising : List ℕ → Type 0
Rising [] = Unit {0}
Rising (i ∷ is) = ((j : ℕ) → j ∈ is → i < j) × Rising is

-- no item stands twice in the tree
abbrev pub Once : Tree → Type 0
Once (item n) = Unit {0}
Once (block k x y) = Apart (items x) (items y) × Once x × Once y
