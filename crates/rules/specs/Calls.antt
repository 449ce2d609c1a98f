-- What the calls of a count code answer, and the bytes that they leave.
use Rattle.std.specs.Prelude.{ℕ, ◌+◌, Bool, List, length, drop, is_ok, Ok, Err, Result, if◌then◌else◌, nat_le, nat_lt}
use Rattle.rules.specs.declared.count.CountFault.{CountFault}
use Rattle.rules.specs.declared.count.CountFault.TheVariants.{Cut, Bad}
use Rattle.rules.specs.declared.count.Counted.{Counted}
use Rattle.rules.specs.declared.count.WriteRefusal.{WriteRefusal}
use Rattle.rules.specs.declared.count.WriteRefusal.TheVariants.{AboveTop, NoRoom}
use Rattle.rules.specs.Bits.{bits_of, bytes_of, bits_in}
use Rattle.rules.specs.Meaning.{Meaning, Reading, number, cut, bad}
use Rattle.rules.specs.Overlay.{overlay}

abbrev pub writing_number : WriteRefusal → ℕ
writing_number AboveTop = 6
writing_number NoRoom = 7

-- room for so many bits from the place on: the place after them
abbrev pub room : ℕ → ℕ → List ℕ → Result ℕ WriteRefusal
room place width bytes = if nat_le (place + width) (length (bits_in bytes)) then Ok (place + width) else Err NoRoom

-- the bytes with new over their bits from the place on, or as they were if there is no room
abbrev pub laid : ℕ → List Bool → List ℕ → List ℕ
laid place new bytes = if is_ok (room place (length new) bytes) then bytes_of (length bytes) (overlay place new (bits_of bytes)) else bytes

abbrev pub write_answer : Meaning → ℕ → ℕ → List ℕ → Result ℕ WriteRefusal
write_answer m n place bytes = if nat_lt m.top n then Err AboveTop else room place (length (m.bits n)) bytes

abbrev pub bytes_written : Meaning → ℕ → ℕ → List ℕ → List ℕ
bytes_written m n place bytes = if nat_lt m.top n then bytes else laid place (m.bits n) bytes

-- a reading that began at the place
abbrev pub answer_of : ℕ → Reading → Result Counted CountFault
answer_of place (number n used) = Ok (record { number = n; next = place + used })
answer_of place cut = Err (Cut (record { from = place }))
answer_of place bad = Err (Bad place)

abbrev pub read_answer : Meaning → ℕ → List ℕ → Result Counted CountFault
read_answer m place bytes = answer_of place (m.reading (drop place (bits_in bytes)))
