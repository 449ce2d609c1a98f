-- What `counts` answers to an input.
use Rattle.std.specs.Prelude.{ℕ, List, [], ◌∷◌, ◌++◌, Ok, Err, Result}
use Rattle.rules.specs.Meaning.{Meaning}
use Rattle.rules.specs.Views.{on_ok}
use Rattle.codes.specs.Chunked.{chunked_made, chunked_meaning}
use Rattle.codes.specs.Fixed.{fixed_made, fixed_meaning}
use Rattle.codes.specs.Refusal.{making_number}
use Rattle.codes.specs.declared.refusal.MakeRefusal.{MakeRefusal}
use Rattle.text.specs.declared.place.Place.{Place}
use Rattle.counts.specs.declared.request.CodeAsked.{CodeAsked}
use Rattle.counts.specs.declared.request.CodeAsked.TheVariants.{Chunked, Fixed}
use Rattle.counts.specs.Output.{output_of}
use Rattle.counts.specs.Report.{bad_line, refused_line}
use Rattle.counts.specs.Request.{Asked, asked_by}

abbrev pub refused_making : MakeRefusal → List ℕ
refused_making e = refused_line (making_number e) ++ 10 ∷ []

-- the counts in a code that was made, or that it is refused
abbrev pub answer_in : Result Meaning MakeRefusal → List ℕ → List ℕ
answer_in (Ok m) counts = output_of m counts
answer_in (Err e) counts = refused_making e

abbrev pub answer_to : CodeAsked → List ℕ → List ℕ
answer_to (Chunked first later) counts = answer_in (on_ok (λ made. chunked_meaning made.0 made.1) (chunked_made first later)) counts
answer_to (Fixed width) counts = answer_in (on_ok fixed_meaning (fixed_made width)) counts

-- the answer to what was asked, or the place of the first bad word
abbrev pub reply_by : Result Asked Place → List ℕ
reply_by (Ok asked) = answer_to asked.code asked.counts
reply_by (Err place) = bad_line place ++ 10 ∷ []

abbrev pub reply_to : List ℕ → List ℕ
reply_to text = reply_by (asked_by text)
