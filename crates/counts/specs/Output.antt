-- All that `counts` prints for counts in a code.
use Rattle.std.specs.Prelude.{ℕ, ◌+◌, ◌/◌, List, [], ◌∷◌, ◌++◌, length, take, replicate, Some, None, Option}
use Rattle.rules.specs.Calls.{writing_number}
use Rattle.rules.specs.Meaning.{Meaning}
use Rattle.rules.specs.declared.count.WriteRefusal.{WriteRefusal}
use Rattle.codes.specs.Series.{series_from, series_bytes}
use Rattle.counts.specs.Report.{count_line, read_line, bytes_line, total_line, refused_line}

-- the counts as they are written from a place on, and as they are read back
abbrev pub count_lines : Meaning → List ℕ → ℕ → List ℕ
count_lines m [] place = []
count_lines m (n ∷ ns) place = let next = place + length (m.bits n) in count_line n (m.bits n) next ++ (10 ∷ count_lines m ns next)

abbrev pub read_lines : Meaning → List ℕ → ℕ → List ℕ
read_lines m [] place = []
read_lines m (n ∷ ns) place = let next = place + length (m.bits n) in read_line n next ++ (10 ∷ read_lines m ns next)

abbrev pub refused_text : Option WriteRefusal → List ℕ
refused_text None = []
refused_text (Some e) = refused_line (writing_number e) ++ (10 ∷ [])

-- the counts written, a refusal, the bytes that their bits fill, the counts read back, and the totals
abbrev pub output_in : Meaning → List ℕ → List ℕ → List ℕ
output_in m counts bytes =
    let s = series_from m 0 counts 0 bytes in
    let written = take s.written counts in
    let filled = take ((s.next + 7) / 8) (series_bytes m counts 0 bytes) in
    count_lines m written 0 ++ refused_text s.refusal ++ bytes_line filled ++ (10 ∷ []) ++ read_lines m written 0 ++ total_line s.written s.next ++ (10 ∷ [])

-- over a buffer of 1,024 zeros
abbrev pub output_of : Meaning → List ℕ → List ℕ
output_of m counts = output_in m counts (replicate 1024 0)
