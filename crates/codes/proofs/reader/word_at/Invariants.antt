use Rattle.std.proofs.Common.{◌≡◌, ◌+◌, ◌-◌, ◌≤◌, take, drop}
use Rattle.rules.specs.Bits.{bits_in, value_of}
use Rattle.codes.proofs.reader.word_at.Given as goal

abbrev pub invariant-loop-at : goal.invariant-loop-at
invariant-loop-at l =
    (l.place ≤ l.at) × (l.word ≡ value_of (take (l.place + l.width - l.at) (drop l.at (bits_in l.bytes))))
