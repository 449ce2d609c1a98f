use Rattle.std.proofs.Common.{◌≡◌, ◌++◌, ℕ, min, List}
use Rattle.std.specs.Fmt.{HasWritten, HasWrittenStyled, IsFlush, IsPlainFormatter}
use Rattle.text.specs.Hex.{hex_digits}
use Rattle.text.proofs.hex.DigitsDisplay.fmt.Given as goal

-- the digits that are done, and those to come
abbrev pub invariant-loop-place : goal.invariant-loop-place
invariant-loop-place g l =
    (done : List ℕ) × (done ++ hex_digits l.place l.self.value ≡ hex_digits (min l.self.count 16) l.self.value)
    × (IsPlainFormatter l.initial.f → HasWritten g.W.Write.write_str_gives l.initial.f done l.f)
    × (IsFlush l.initial.f → HasWrittenStyled g.W.Write.write_str_gives l.initial.f done l.f)
