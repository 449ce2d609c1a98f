-- The lines that `counts` prints. A count is in hexadecimal without leading zeros; how many there are, places, sizes and
-- refusals are in decimal.
use Rattle.std.specs.Prelude.{ℕ, ◌-◌, Bool, List, ◌++◌, map, length, take, drop, codes, decimal, if◌then◌else◌}
use Rattle.rules.specs.Bits.{bits_in}
use Rattle.text.specs.Hex.{hex_text, hex_bytes}
use Rattle.text.specs.declared.place.Place.{Place}
use Rattle.counts.specs.declared.report.Line.{Line}
use Rattle.counts.specs.declared.report.Line.TheVariants.{Count, Read, Bytes, Total, Refused, Bad}

-- bits as 0s and 1s, in the order in which they were written
abbrev pub bits_text : List Bool → List ℕ
bits_text bits = map (λ b. if b then 49 else 48) bits

abbrev pub bits_between : ℕ → ℕ → List ℕ → List Bool
bits_between from to bytes = take (to - from) (drop from (bits_in bytes))

-- a count, its bits, and the place after them
abbrev pub count_line : ℕ → List Bool → ℕ → List ℕ
count_line count bits place = codes "count " ++ (hex_text count ++ (codes " bits " ++ (bits_text bits ++ (codes " place " ++ decimal place))))

abbrev pub read_line : ℕ → ℕ → List ℕ
read_line count place = codes "read " ++ (hex_text count ++ (codes " place " ++ decimal place))

abbrev pub bytes_line : List ℕ → List ℕ
bytes_line bytes = codes "bytes " ++ (decimal (length bytes) ++ (codes " " ++ hex_bytes bytes))

abbrev pub total_line : ℕ → ℕ → List ℕ
total_line counts bits = codes "counts " ++ (decimal counts ++ (codes " bits " ++ decimal bits))

abbrev pub refused_line : ℕ → List ℕ
refused_line number = codes "refused " ++ decimal number

abbrev pub bad_line : Place → List ℕ
bad_line place = codes "bad " ++ (decimal place.line ++ (codes " " ++ decimal place.column))

abbrev pub line_text : Line → List ℕ
line_text (Count count bits) = count_line count (bits_between bits.from bits.to bits.buffer.now) bits.to
line_text (Read count place) = read_line count place
line_text (Bytes bytes) = bytes_line bytes.now
line_text (Total counts bits) = total_line counts bits
line_text (Refused number) = refused_line number
line_text (Bad place) = bad_line place
