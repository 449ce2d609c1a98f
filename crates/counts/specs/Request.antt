-- What the input of `counts` asks for: a code on the first line, and then one count to a line.
use Rattle.std.specs.Prelude.{◌≡◌, ℕ, ◌-◌, ◌^◌, true, List, [], ◌∷◌, ◌++◌, Ok, Err, vec_items, Result, Vec, ◌==◌, if◌then◌else◌}
use Rattle.std.specs.declared.alloc.Global.{Global}
use Rattle.text.specs.Lines.{Cursor, cursors, lines_of, first_line, after_first, number_after, next_place, number_at, letter_at, is_end, past}
use Rattle.text.specs.declared.place.Place.{Place}
use Rattle.counts.specs.declared.request.CodeAsked.{CodeAsked}
use Rattle.counts.specs.declared.request.CodeAsked.TheVariants.{Chunked, Fixed}
use Rattle.counts.specs.declared.request.ParseFault.{ParseFault}
use Rattle.counts.specs.declared.request.ParseFault.TheVariants.{BadWord, NoMemory}
use Rattle.counts.specs.declared.request.Request.{Request}

-- how it goes on with what was read, or else the place of the first bad word
abbrev pub and_then : {A B : Type 0} → Result A Place → (A → Result B Place) → Result B Place
and_then (Ok a) goes = goes a
and_then (Err p) goes = Err p

-- a number at the cursor, and how it goes on from the word after it
abbrev pub with_number : {A : Type 0} → ℕ → Cursor → (ℕ → Cursor → Result A Place) → Result A Place
with_number most c goes = and_then (number_at most c) (λ n. goes n (past true c))

-- no word may be left
abbrev pub ended : {A : Type 0} → A → Cursor → Result A Place
ended a c = if is_end c then Ok a else Err (next_place c)

abbrev pub chunked_asked : Cursor → Result CodeAsked Place
chunked_asked c = with_number (2 ^ 32 - 1) c (λ first c'. with_number (2 ^ 32 - 1) c' (λ later. ended (Chunked first later)))

abbrev pub fixed_asked : Cursor → Result CodeAsked Place
fixed_asked c = with_number (2 ^ 32 - 1) c (λ width. ended (Fixed width))

-- the code of a letter at the cursor: `K` and two lengths, or `F` and a width
abbrev pub code_by : Cursor → ℕ → Result CodeAsked Place
code_by c letter =
    if letter == 75 then chunked_asked (past true c)
    else (if letter == 70 then fixed_asked (past true c) else Err (next_place c))

abbrev pub code_asked : Cursor → Result CodeAsked Place
code_asked c = and_then (letter_at c) (code_by c)

abbrev pub count_asked : Cursor → Result ℕ Place
count_asked c = with_number (2 ^ 64 - 1) c ended

-- the counts of lines, one to a line, behind those that are done
abbrev pub counts_asked : List ℕ → List Cursor → Result (List ℕ) Place
counts_asked done [] = Ok done
counts_asked done (c ∷ cs) = and_then (count_asked c) (λ n. counts_asked (done ++ n ∷ []) cs)

abbrev pub TellsCounts : Result (Vec ℕ Global) ParseFault → Result (List ℕ) Place → Type 0
TellsCounts (Ok v) asked = asked ≡ Ok (vec_items v)
TellsCounts (Err (BadWord p)) asked = asked ≡ Err p
TellsCounts (Err (NoMemory e)) asked = Unit {0}

pub record Asked : Type 0 where
  pub code : CodeAsked
  pub counts : List ℕ

abbrev pub joined_asked : CodeAsked → Result (List ℕ) Place → Result Asked Place
joined_asked code (Ok counts) = Ok (record { code = code; counts = counts })
joined_asked code (Err p) = Err p

-- what a text asks for, or the place of its first bad word
abbrev pub asked_by : List ℕ → Result Asked Place
asked_by text =
    let lines = lines_of text in
    and_then (code_asked (first_line lines 0)) (λ code. joined_asked code (counts_asked [] (cursors (after_first lines) (number_after lines 0))))

-- an answer tells just that, unless memory is wanting
abbrev pub Tells : Result Request ParseFault → Result Asked Place → Type 0
Tells (Ok q) asked = asked ≡ Ok (record { code = q.code; counts = vec_items q.counts })
Tells (Err (BadWord p)) asked = asked ≡ Err p
Tells (Err (NoMemory e)) asked = Unit {0}
