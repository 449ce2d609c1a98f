-- A text's lines and words. Lines end in a line feed, which the last may lack; words are split by single spaces.
use Rattle.std.specs.Prelude.{◌≡◌, ℕ, ◌+◌, Bool, true, false, not, if◌then◌else◌, List, [], ◌∷◌, length, drop, Some, None, Ok, Err, Option, Result, is_ok, ◌==◌, nat_le}
use Rattle.text.specs.declared.place.Place.{Place}
use Rattle.text.specs.Hex.{number_in}

-- the bytes before the first that is the mark
abbrev pub up_to : ℕ → List ℕ → List ℕ
up_to mark [] = []
up_to mark (c ∷ cs) = if c == mark then [] else (c ∷ up_to mark cs)

-- a byte in front of the first line
abbrev pub onto : ℕ → List (List ℕ) → List (List ℕ)
onto c [] = (c ∷ []) ∷ []
onto c (l ∷ ls) = (c ∷ l) ∷ ls

-- the lines of a text
abbrev pub lines_of : List ℕ → List (List ℕ)
lines_of [] = []
lines_of (c ∷ cs) = if c == 10 then ([] ∷ lines_of cs) else onto c (lines_of cs)

-- a line, its number, and the index in it at which the next word starts
pub record Cursor : Type 0 where
  pub line : List ℕ
  pub number : ℕ
  pub at : ℕ

abbrev pub cursor : List ℕ → ℕ → ℕ → Cursor
cursor line number at = record { line = line; number = number; at = at }

-- the first line, with k before it, and the lines after it; past the last line comes an empty one
abbrev pub first_line : List (List ℕ) → ℕ → Cursor
first_line [] k = cursor [] (k + 1) 0
first_line (l ∷ ls) k = cursor l (k + 1) 0

abbrev pub after_first : List (List ℕ) → List (List ℕ)
after_first [] = []
after_first (l ∷ ls) = ls

abbrev pub number_after : List (List ℕ) → ℕ → ℕ
number_after [] k = k
number_after (l ∷ ls) k = k + 1

abbrev pub no_lines : List (List ℕ) → Bool
no_lines [] = true
no_lines (l ∷ ls) = false

-- the words of lines, with k lines before them
abbrev pub cursors : List (List ℕ) → ℕ → List Cursor
cursors [] k = []
cursors (l ∷ ls) k = cursor l (k + 1) 0 ∷ cursors ls (k + 1)

-- The word that starts at an index of a line. The next one starts, or should start, one space after it;
-- past the line's end there is none.
abbrev pub word_at : List ℕ → ℕ → List ℕ
word_at line at = up_to 32 (drop at line)

abbrev pub next_at : List ℕ → ℕ → ℕ
next_at line at = at + length (word_at line at) + 1

abbrev pub there : List ℕ → ℕ → Bool
there line at = nat_le at (length line)

abbrev pub place_of : ℕ → ℕ → Place
place_of number at = record { line = number; column = at + 1 }

-- where the next word starts, or should start
abbrev pub next_place : Cursor → Place
next_place c = place_of c.number c.at

abbrev pub or_bad : Place → Option ℕ → Result ℕ Place
or_bad place (Some n) = Ok n
or_bad place None = Err place

-- the number at the cursor, or the place of what is no number or missing
abbrev pub number_at : ℕ → Cursor → Result ℕ Place
number_at most c =
    if there c.line c.at then or_bad (next_place c) (number_in most (word_at c.line c.at)) else Err (next_place c)

-- the byte of a word that has just one
abbrev pub letter_of : List ℕ → Option ℕ
letter_of [] = None
letter_of (c ∷ []) = Some c
letter_of (c ∷ d ∷ cs) = None

-- the one letter at the cursor, or the place of what is no letter or missing
abbrev pub letter_at : Cursor → Result ℕ Place
letter_at c =
    if there c.line c.at then or_bad (next_place c) (letter_of (word_at c.line c.at)) else Err (next_place c)

-- no word is left
abbrev pub is_end : Cursor → Bool
is_end c = not (there c.line c.at)

-- the cursor past a word that was taken, or where it was
abbrev pub past : Bool → Cursor → Cursor
past taken c = cursor c.line c.number (if taken then next_at c.line c.at else c.at)

-- a word is taken: the answer is what is read at the cursor, which then stands past the word, if there was one
pub record Takes {A : Type 0} (read : Cursor → Result A Place) (before after : Cursor) (answer : Result A Place) : Type 0 where
  pub reads : answer ≡ read before
  pub moves : after ≡ past (is_ok answer) before
