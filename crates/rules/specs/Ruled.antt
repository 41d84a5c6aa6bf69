-- Which calls on a book are refused, and what the others answer, told by the accepted changes before them.
use Rattle.std.specs.Prelude.{◌≡◌, ℕ, suc, ◌<◌, ◌≤◌, true, cond, ◌⊎◌, List, [], ◌∷◌, ◌++◌, Some, None, Result}
use Rattle.rules.specs.declared.change.Change.{Change}
use Rattle.rules.specs.declared.change.Change.TheVariants.{Issue, Join, Withdraw}
use Rattle.rules.specs.declared.line.Line.{Line}
use Rattle.rules.specs.declared.part_number.PartNumber.{PartNumber}
use Rattle.rules.specs.declared.refusal.Refusal.{Refusal}
use Rattle.rules.specs.declared.refusal.Refusal.TheVariants.{UnknownType, TooManyItems, TooManyOfType, NumbersUsedUp, NeverGiven, Withdrawn, BuiltIn, SameLine}
use Rattle.rules.specs.Types.{type_numbered}
use Rattle.rules.specs.History.{History, given, standing, is_built_in, free, items_standing, items_of_type, line_of}
use Rattle.rules.specs.Rules.{Rule, ◌when◌, Allowed, Decided}

-- why a call may not name the line n
abbrev pub naming : History → ℕ → List Rule
naming h n =
    NeverGiven when ((n ≡ 0) ⊎ (given h < n))
    ∷ Withdrawn when (standing h n ≡ None)
    ∷ []

-- why a change may not use the line n
abbrev pub using_line : History → ℕ → List Rule
using_line h n = naming h n ++ BuiltIn when (is_built_in h n ≡ true) ∷ []

-- why the lines a and b may not be joined
abbrev pub joining : History → ℕ → ℕ → List Rule
joining h a b =
    using_line h a
    ++ (using_line h b
    ++ SameLine when (a ≡ b)
    ∷ NumbersUsedUp when (9999 ≤ given h)
    ∷ [])

-- why a change may not be made
abbrev pub change_rules : History → Change → List Rule
change_rules h (Issue t) =
    UnknownType when (type_numbered t ≡ None)
    ∷ TooManyItems when (16 ≤ items_standing h)
    ∷ TooManyOfType when (7 ≤ items_of_type t h)
    ∷ NumbersUsedUp when (9999 ≤ given h)
    ∷ []
change_rules h (Join k a b) = joining h a.value b.value
change_rules h (Withdraw n) = using_line h n.value

-- the number that an accepted change answers: the one given, or the one taken out
abbrev pub change_number : History → Change → ℕ
change_number h (Issue t) = suc (given h)
change_number h (Join k a b) = suc (given h)
change_number h (Withdraw n) = n.value

-- the part number that a refusal of the change is about: of a joining the one that may not be used
abbrev pub blamed : History → Change → ℕ
blamed h (Issue t) = 0
blamed h (Join k a b) = cond (free h a.value) b.value a.value
blamed h (Withdraw n) = n.value

-- the answer to a change that is asked for after h
abbrev pub ChangeRuled : History → Change → Result PartNumber Refusal → Type 0
ChangeRuled h d r = Decided (change_rules h d) (λ n. n.value ≡ change_number h d) r

-- the answer to a question about the line n after h
abbrev pub QuestionRuled : History → ℕ → Result Line Refusal → Type 0
QuestionRuled h n r = Decided (naming h n) (λ l. line_of h n ≡ Some l) r

-- each change was allowed when it was made
abbrev pub Lawful : History → Type 0
Lawful [] = Unit {0}
Lawful (d ∷ h) = Allowed (change_rules h d) × Lawful h
