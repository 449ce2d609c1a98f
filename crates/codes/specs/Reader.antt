-- A bit reader: the bits that are left to it, and what a taking answers.
use Rattle.std.specs.Prelude.{ℕ, ◌+◌, Bool, List, length, take, drop, Ok, Err, Result, if◌then◌else◌, nat_le}
use Rattle.rules.specs.Bits.{bits_in, value_of}
use Rattle.rules.specs.declared.count.BytesEnd.{BytesEnd}
use Rattle.codes.specs.declared.reader.BitReader.{BitReader}

abbrev pub bits_left : BitReader → List Bool
bits_left r = drop r.place (bits_in r.bytes.now)

-- the next bits as a number, or the bytes' end, of a reading that began at a place
abbrev pub word_taken : ℕ → ℕ → List Bool → Result ℕ BytesEnd
word_taken from width bits = if nat_le width (length bits) then Ok (value_of (take width bits)) else Err (record { from = from })

-- the reader past the bits that it took, or as it was
abbrev pub moved : BitReader → ℕ → BitReader
moved r width = record {
  bytes = r.bytes;
  from = r.from;
  place = if nat_le width (length (bits_left r)) then r.place + width else r.place;
}
