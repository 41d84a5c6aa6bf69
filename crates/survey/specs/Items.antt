-- How many items lie beneath a line.
use Rattle.std.specs.Prelude.{◌≡◌, ℕ, length, Result}
use Rattle.rules.specs.declared.refusal.Refusal.{Refusal}
use Rattle.rules.specs.History.{History}
use Rattle.rules.specs.Rules.{Decided}
use Rattle.rules.specs.Ruled.{naming}
use Rattle.rules.specs.Trees.{items, tree_of}

-- the answer to the question how many items lie beneath the line n
abbrev pub ItemsRuled : History → ℕ → Result ℕ Refusal → Type 0
ItemsRuled h n r = Decided (naming h n) (λ m. m ≡ length (items (tree_of h n))) r
