-- A text is a list of bytes. Its lines and their words.
use Rattle.std.specs.Prelude.{ℕ, suc, ◌+◌, ◌-◌, Bool, cond, List, [], ◌∷◌, length, Some, None, Option, ◌==◌, slice_index}

-- one byte more at the front of the first part
abbrev pub longer : ℕ → List (List ℕ) → List (List ℕ)
longer b [] = []
longer b (part ∷ parts) = (b ∷ part) ∷ parts

-- the lines of a text: each is ended by byte 10, and bytes after the last byte 10 are no line
abbrev pub lines_in : List ℕ → List (List ℕ)
lines_in [] = []
lines_in (b ∷ text) = cond (b == 10) ([] ∷ lines_in text) (longer b (lines_in text))

-- the words of a line: one byte 32 stands between a word and the next
abbrev pub words_in : List ℕ → List (List ℕ)
words_in [] = [] ∷ []
words_in (b ∷ line) = cond (b == 32) ([] ∷ words_in line) (longer b (words_in line))

-- whether the last byte of a text is byte 10
abbrev pub ended : List ℕ → Bool
ended text = slice_index text (length text - 1) == 10

-- a line of a text: its bytes but the byte 10, its number from 1, and the place of its first byte from 0
pub record Line : Type 0 where
  pub bytes : List ℕ
  pub number : ℕ
  pub place : ℕ

-- lines one after another, the first with the number n and at the place p
abbrev pub numbered : ℕ → ℕ → List (List ℕ) → List Line
numbered n p [] = []
numbered n p (line ∷ lines) = record { bytes = line; number = n; place = p } ∷ numbered (suc n) (p + suc (length line)) lines

abbrev pub lines_of : List ℕ → List Line
lines_of text = numbered 1 0 (lines_in text)

-- the elements of a list before the last
abbrev pub but_last : {X : Type 0} → List X → List X
but_last [] = []
but_last (x ∷ []) = []
but_last (x ∷ y ∷ xs) = x ∷ but_last (y ∷ xs)

-- the bytes before the first byte b, or all where there is none
abbrev pub before : ℕ → List ℕ → List ℕ
before b [] = []
before b (x ∷ xs) = cond (x == b) [] (x ∷ before b xs)

-- the bytes after the first byte b, if there is one
abbrev pub after : ℕ → List ℕ → Option (List ℕ)
after b [] = None
after b (x ∷ xs) = cond (x == b) (Some xs) (after b xs)
