-- What the structs of lines and words stand for.
use Rattle.std.specs.Prelude.{◌≡◌, ℕ, List, Option}
use Rattle.std.specs.Iterator.{YieldsFirstBy}
use Rattle.text.specs.Lines.{Cursor, cursor, cursors, lines_of, number_after}
use Rattle.text.specs.declared.lines.Lines.{Lines}
use Rattle.text.specs.declared.words.Words.{Words}

abbrev pub words_at : Words → Cursor
words_at w = cursor w.line.now w.number w.at

abbrev pub lines_left : Lines → List (List ℕ)
lines_left l = lines_of l.rest.now

-- how many lines were given out
abbrev pub lines_given : Lines → ℕ
lines_given l = l.number

-- the words of the lines that are left, one after the other
abbrev pub cursors_left : Lines → List Cursor
cursors_left l = cursors (lines_left l) (lines_given l)

-- the first line that is left is given, if there is one, and then one more is given
pub record GivesLine (before : Lines) (line : Option Words) (after : Lines) : Type 0 where
  pub yields : YieldsFirstBy words_at cursors_left before line after
  pub given : lines_given after ≡ number_after (lines_left before) (lines_given before)
