-- The number of each refusal.
use Rattle.std.specs.Prelude.{ℕ}
use Rattle.rules.specs.declared.refusal.Refusal.{Refusal}
use Rattle.rules.specs.declared.refusal.Refusal.TheVariants.{UnknownType, TooManyItems, TooManyOfType, NumbersUsedUp, NeverGiven, Withdrawn, BuiltIn, SameLine, BenchTooShort, ShareTooHigh, MixedTypes, PriceTooHigh, NoPath, EmptyPath, EmptyPlace, TooManyPlaces, TooManyPaths, SheetTooLong, NoClosingLine, WrongLineCount, WrongNextNumber, Unreadable, NoSuchPlace}

abbrev pub number_of : Refusal → ℕ
number_of UnknownType = 11
number_of TooManyItems = 12
number_of TooManyOfType = 13
number_of NumbersUsedUp = 14
number_of NeverGiven = 15
number_of Withdrawn = 16
number_of BuiltIn = 17
number_of SameLine = 18
number_of BenchTooShort = 21
number_of ShareTooHigh = 22
number_of MixedTypes = 23
number_of PriceTooHigh = 24
number_of NoPath = 31
number_of EmptyPath = 32
number_of EmptyPlace = 33
number_of TooManyPlaces = 34
number_of TooManyPaths = 35
number_of SheetTooLong = 41
number_of NoClosingLine = 42
number_of WrongLineCount = 43
number_of WrongNextNumber = 44
number_of Unreadable = 45
number_of NoSuchPlace = 51
