use Rattle.std.proofs.Common.{◌≡◌, ℕ, ◌-◌, ◌<◌, get_or}
use Rattle.rules.specs.Bits.{bits_of, low_bits}
use Rattle.rules.specs.Overlay.{overlay}
use Rattle.codes.proofs.writer.write_bits.Given as goal

abbrev pub invariant-loop-at : goal.invariant-loop-at
invariant-loop-at l = (overlay l.at (low_bits (l.end - l.at) l.rest) (bits_of l.buffer) ≡ overlay l.place (low_bits l.width l.word) (bits_of l.initial.buffer))
    × ((k : ℕ) → get_or l.buffer k 0 < 256)
