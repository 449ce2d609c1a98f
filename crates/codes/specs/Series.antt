-- Counts written one after the other, and read back.
use Rattle.std.specs.Prelude.{◌≡◌, ℕ, ◌+◌, List, [], ◌∷◌, Some, None, Ok, Err, Result}
use Rattle.rules.specs.declared.count.WriteRefusal.{WriteRefusal}
use Rattle.rules.specs.Calls.{write_answer, bytes_written, read_answer}
use Rattle.rules.specs.Meaning.{Meaning}
use Rattle.codes.specs.declared.series.Series.{Series}

-- a series by the answer to its next write: it goes on, or ends at the refusal with `done` written
abbrev pub series_by : ℕ → ℕ → Result ℕ WriteRefusal → (ℕ → Series) → Series
series_by done place (Ok next) goes = goes next
series_by done place (Err e) goes = record { written = done; next = place; refusal = Some e }

-- the counts are written up to the first that is refused; `done` were written before them
abbrev pub series_from : Meaning → ℕ → List ℕ → ℕ → List ℕ → Series
series_from m done [] place bytes = record { written = done; next = place; refusal = None }
series_from m done (n ∷ ns) place bytes = series_by done place (write_answer m n place bytes) (λ next. series_from m (done + 1) ns next (bytes_written m n place bytes))

-- the bytes by that answer: what the rest of the series makes of them, or as they were
abbrev pub bytes_by : List ℕ → Result ℕ WriteRefusal → (ℕ → List ℕ) → List ℕ
bytes_by bytes (Ok next) goes = goes next
bytes_by bytes (Err e) goes = bytes

abbrev pub series_bytes : Meaning → List ℕ → ℕ → List ℕ → List ℕ
series_bytes m [] place bytes = bytes
series_bytes m (n ∷ ns) place bytes = bytes_by bytes (write_answer m n place bytes) (λ next. series_bytes m ns next (bytes_written m n place bytes))

-- from the place on the counts are read one after the other, and the place after the last is `end`
abbrev pub ReadBack : Meaning → List ℕ → ℕ → ℕ → List ℕ → Type 0
ReadBack m [] place end bytes = place ≡ end
ReadBack m (n ∷ ns) place end bytes = (next : ℕ) × (read_answer m place bytes ≡ Ok (record { number = n; next = next })) × ReadBack m ns next end bytes
