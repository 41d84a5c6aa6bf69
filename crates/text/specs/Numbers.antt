-- What a number word means.
use Rattle.std.specs.Prelude.{ℕ, ◌+◌, ◌-◌, ◌*◌, Bool, true, false, cond, ◌&&◌, List, [], ◌∷◌, length, Some, None, Option, ◌==◌, nat_le}

abbrev pub is_digit : ℕ → Bool
is_digit b = nat_le 48 b && nat_le b 57

-- the value of decimal digits that are written after digits of the value n
abbrev pub decimal_after : ℕ → List ℕ → Option ℕ
decimal_after n [] = Some n
decimal_after n (b ∷ digits) = cond (is_digit b) (decimal_after (n * 10 + (b - 48)) digits) None

-- one to five bytes, and no leading zero but in `0` itself
abbrev pub number_shaped : List ℕ → Bool
number_shaped [] = false
number_shaped (b ∷ digits) = nat_le (length digits) 4 && cond (b == 48) (length digits == 0) true

abbrev pub number_in : List ℕ → Option ℕ
number_in word = cond (number_shaped word) (decimal_after 0 word) None
