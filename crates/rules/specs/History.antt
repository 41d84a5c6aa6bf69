-- What the accepted changes of a book, and nothing else, tell of it.
use Rattle.std.specs.Prelude.{ℕ, zero, suc, ◌+◌, Bool, true, false, cond, not, ◌&&◌, ◌||◌, List, [], ◌∷◌, ◌++◌, is_some, Some, None, Option, ◌==◌}
use Rattle.std.specs.Option.{option_map, option_to_list}
use Rattle.rules.specs.declared.change.Change.{Change}
use Rattle.rules.specs.declared.change.Change.TheVariants.{Issue, Join, Withdraw}
use Rattle.rules.specs.declared.line.Line.{Line}
use Rattle.rules.specs.declared.line.Part.{Part}
use Rattle.rules.specs.declared.line.Part.TheVariants.{Item, Block}
use Rattle.rules.specs.Types.{type_number, type_numbered}
use Rattle.rules.specs.Lines.{beneath}

-- the accepted changes of a book, the newest first
abbrev pub History : Type 0
History = List Change

-- the last number given, which is how many were given
abbrev pub given : History → ℕ
given [] = 0
given (Issue t ∷ h) = suc (given h)
given (Join k a b ∷ h) = suc (given h)
given (Withdraw n ∷ h) = given h

-- what stands under the number n: a line stands from the change that makes it until it is withdrawn
abbrev pub standing : History → ℕ → Option Part
standing [] n = None
standing (Issue t ∷ h) n = cond (n == suc (given h)) (option_map Item (type_numbered t)) (standing h n)
standing (Join k a b ∷ h) n = cond (n == suc (given h)) (Some (Block k a b)) (standing h n)
standing (Withdraw m ∷ h) n = cond (n == m.value) None (standing h n)

-- how many withdrawals were made
abbrev pub withdrawals : History → ℕ
withdrawals [] = 0
withdrawals (Issue t ∷ h) = withdrawals h
withdrawals (Join k a b ∷ h) = withdrawals h
withdrawals (Withdraw n ∷ h) = suc (withdrawals h)

-- whether a list of numbers has n
abbrev pub has : List ℕ → ℕ → Bool
has [] n = false
has (m ∷ ms) n = n == m || has ms n

-- the lines right beneath what stands
abbrev pub under : Option Part → List ℕ
under None = []
under (Some p) = beneath p

-- whether some number from 1 to m passes the test
abbrev pub any_upto : ℕ → (ℕ → Bool) → Bool
any_upto zero p = false
any_upto (suc m) p = p (suc m) || any_upto m p

-- how many of the numbers from 1 to m pass the test
abbrev pub how_many : ℕ → (ℕ → Bool) → ℕ
how_many zero p = 0
how_many (suc m) p = cond (p (suc m)) 1 0 + how_many m p

-- whether the line n lies beneath a standing block
abbrev pub is_built_in : History → ℕ → Bool
is_built_in h n = any_upto (given h) (λ m. has (under (standing h m)) n)

-- whether the line n stands and is free
abbrev pub free : History → ℕ → Bool
free h n = is_some (standing h n) && not (is_built_in h n)

abbrev pub is_item : Option Part → Bool
is_item None = false
is_item (Some (Item t)) = true
is_item (Some (Block k a b)) = false

abbrev pub is_block : Option Part → Bool
is_block None = false
is_block (Some (Item t)) = false
is_block (Some (Block k a b)) = true

-- whether what stands is an item of the type with the number t
abbrev pub is_item_of : ℕ → Option Part → Bool
is_item_of t None = false
is_item_of t (Some (Item u)) = type_number u == t
is_item_of t (Some (Block k a b)) = false

-- how many lines stand, how many of them free, how many items, of the type with the number t, and blocks
abbrev pub lines_standing : History → ℕ
lines_standing h = how_many (given h) (λ n. is_some (standing h n))

abbrev pub items_standing : History → ℕ
items_standing h = how_many (given h) (λ n. is_item (standing h n))

abbrev pub items_of_type : ℕ → History → ℕ
items_of_type t h = how_many (given h) (λ n. is_item_of t (standing h n))

abbrev pub blocks_standing : History → ℕ
blocks_standing h = how_many (given h) (λ n. is_block (standing h n))

abbrev pub lines_free : History → ℕ
lines_free h = how_many (given h) (free h)

-- the standing line with the number n
abbrev pub line_of : History → ℕ → Option Line
line_of h n = option_map (λ p. record { number = record { value = n }; part = p; built_in = is_built_in h n }) (standing h n)

-- what f has at the numbers from 1 to m, in rising order
abbrev pub listing : {X : Type 0} → (ℕ → Option X) → ℕ → List X
listing f zero = []
listing f (suc m) = listing f m ++ option_to_list (f (suc m))

-- the standing lines, in rising number
abbrev pub lines_of : History → List Line
lines_of h = listing (line_of h) (given h)

-- the place of the line n among the standing lines, from 0: how many lines with lower numbers stand
abbrev pub place_in : History → ℕ → ℕ
place_in h zero = 0
place_in h (suc n) = how_many n (λ m. is_some (standing h m))
