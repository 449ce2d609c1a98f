-- The fixed code: each number in w bits.
use Rattle.std.specs.Prelude.{ℕ, ◌-◌, ◌^◌, Bool, List, [], ◌∷◌, length, take, Ok, Err, Result, if◌then◌else◌, nat_le}
use Rattle.codes.specs.declared.refusal.MakeRefusal.{MakeRefusal}
use Rattle.codes.specs.declared.refusal.MakeRefusal.TheVariants.{OutOfRange}
use Rattle.codes.specs.Refusal.{between}
use Rattle.rules.specs.Bits.{low_bits, value_of}
use Rattle.rules.specs.Meaning.{Meaning, Reading, number, cut}

abbrev pub fixed_reading : ℕ → List Bool → Reading
fixed_reading w bs = if nat_le w (length bs) then number (value_of (take w bs)) w else cut

abbrev pub fixed_meaning : ℕ → Meaning
fixed_meaning w = record {
  top = 2 ^ w - 1;
  name = 2 ∷ w ∷ 0 ∷ [];
  bits = low_bits w;
  reading = fixed_reading w;
}

-- the width of the code that is made
abbrev pub fixed_made : ℕ → Result ℕ MakeRefusal
fixed_made w = if between 4 32 w then Ok w else Err OutOfRange
