-- Worked examples of the chunked code with groups of two bits.
use Rattle.std.specs.Prelude.{◌≡◌, ℕ, Bool, true, false, List, [], ◌∷◌, map}
use Rattle.rules.specs.Meaning.{Meaning, Reading, cut, bad}
use Rattle.codes.specs.Chunked.{chunked_meaning}

pub data Asked : Type 0 where
  bits_for : ℕ → Asked
  reading_of : List Bool → Asked

pub data Told : Type 0 where
  spelt : List Bool → Told
  read : Reading → Told

abbrev pub told : Meaning → Asked → Told
told m (bits_for n) = spelt (m.bits n)
told m (reading_of bs) = read (m.reading bs)

abbrev pub examples : List Asked
examples = bits_for 3
    ∷ bits_for 7
    ∷ reading_of (true ∷ true ∷ true ∷ false ∷ false ∷ false ∷ [])
    ∷ reading_of (true ∷ true ∷ true ∷ false ∷ [])
    ∷ reading_of []
    ∷ []

-- 3 is 11 0, and 7 is 11 1 10 0; 11 1 00 0 is bad; 11 1 0 and the empty list are cut
abbrev pub WorkedExamples : Type 0
WorkedExamples = map (told (chunked_meaning 2 2)) examples
    ≡ (spelt (true ∷ true ∷ false ∷ [])
    ∷ spelt (true ∷ true ∷ true ∷ true ∷ false ∷ false ∷ [])
    ∷ read bad
    ∷ read cut
    ∷ read cut
    ∷ [])
