-- Counts that stand one after the other in a buffer, and how they are read back.
use Rattle.std.proofs.Common.{Result, get_or, ◌<◌, ◌≡◌, ℕ, ◌+◌, ◌≤◌, List, [], ◌∷◌, ◌++◌, length, take, drop, Ok, Err, sym, refl, ap, ◌∙◌, subst, append_assoc, arith, length-append, take-append-drop, length-take-le, drop-drop, drop_at}
use lib.Seq.{drop-append-le}
use Rattle.std.proofs.ByRecursion.{All-push}
use Rattle.std.proofs.lemmas.List.{flat_map_more, drop_more, take_more, drop-take}
use Rattle.std.specs.List.{flat_map, AllByRecursion}
use Rattle.rules.specs.declared.count.WriteRefusal.{WriteRefusal}
use Rattle.rules.specs.Bits.{bits_in}
use Rattle.rules.specs.Calls.{answer_of, write_answer, bytes_written, read_answer}
use Rattle.rules.specs.Meaning.{Meaning, Sound, number}
use Rattle.rules.proofs.Calls.{wrote, refused_same}
use Rattle.codes.specs.declared.series.Series.{Series}
use Rattle.codes.specs.Series.{series_by, series_from, bytes_by, series_bytes, ReadBack}

-- the bits of the counts fill the buffer from the place to `end`
pub record Stands (m : Meaning) (ns : List ℕ) (place end : ℕ) (bytes : List ℕ) : Type 0 where
  pub in_range : AllByRecursion (λ n. n ≤ m.top) ns
  pub end_is : end ≡ place + length (flat_map m.bits ns)
  pub bits_are : drop place (take end (bits_in bytes)) ≡ flat_map m.bits ns

pub stands_more : (m : Meaning) (ns : List ℕ) (n place end next : ℕ) (bytes : List ℕ) → Stands m ns place end bytes → write_answer m n end bytes ≡ Ok next → Stands m (ns ++ n ∷ []) place next (bytes_written m n end bytes)
stands_more m ns n place end next bytes s e =
    let w = wrote m n end next bytes e in
    let more = sym (flat_map_more m.bits [] ns n) in
    let within : end ≤ length (bits_in bytes) = omega (arith, w.fits, w.next_is) in
    let front : place ≤ length (take end (bits_in bytes)) = omega (arith, length-take-le end (bits_in bytes) within, s.end_is) in
    record {
      in_range = All-push (λ k. k ≤ m.top) ns n s.in_range w.in_range;
      end_is = omega (arith, w.next_is, s.end_is, ap length more, length-append (flat_map m.bits ns) (m.bits n));
      bits_are = ap (drop place) w.bits_are ∙ drop-append-le place (take end (bits_in bytes)) (m.bits n) front ∙ ap (λ l. l ++ m.bits n) s.bits_are ∙ sym more;
    }

-- bits that begin with those of the counts are read as the counts
read_on : (m : Meaning) → Sound m → (ns : List ℕ) (place : ℕ) (bytes : List ℕ) (rest : List _) → AllByRecursion (λ n. n ≤ m.top) ns → drop place (bits_in bytes) ≡ flat_map m.bits ns ++ rest
    → ReadBack m ns place (place + length (flat_map m.bits ns)) bytes
read_on m sound [] place bytes rest small is = omega arith
read_on m sound (n ∷ ns) place bytes rest small is =
    let here : drop place (bits_in bytes) ≡ m.bits n ++ (flat_map m.bits ns ++ rest) = is ∙ append_assoc (m.bits n) (flat_map m.bits ns) rest in
    let next = place + length (m.bits n) in
    let answer : read_answer m place bytes ≡ answer_of place (number n (length (m.bits n))) = ap (λ l. answer_of place (m.reading l)) here ∙ ap (answer_of place) (sound.whole n small.0 (flat_map m.bits ns ++ rest)) in
    let after : drop next (bits_in bytes) ≡ flat_map m.bits ns ++ rest =
    sym (drop-drop (length (m.bits n)) place (bits_in bytes)) ∙ ap (drop (length (m.bits n))) here ∙ drop_at (m.bits n) (flat_map m.bits ns ++ rest) (length (m.bits n)) refl in
    let far : next + length (flat_map m.bits ns) ≡ place + length (flat_map m.bits (n ∷ ns)) = omega (arith, length-append (m.bits n) (flat_map m.bits ns)) in
    (next, answer, subst (λ e. ReadBack m ns next e bytes) far (read_on m sound ns next bytes rest small.1 after))

pub read_back : (m : Meaning) → Sound m → (ns : List ℕ) (place end : ℕ) (bytes : List ℕ) → Stands m ns place end bytes → ReadBack m ns place end bytes
read_back m sound ns place end bytes s =
    let size = length (flat_map m.bits ns) in
    let part : take size (drop place (bits_in bytes)) ≡ flat_map m.bits ns = sym (drop-take place size (bits_in bytes)) ∙ ap (λ e. drop place (take e (bits_in bytes))) (sym s.end_is) ∙ s.bits_are in
    let split = sym (take-append-drop size (drop place (bits_in bytes))) ∙ ap (λ l. l ++ drop size (drop place (bits_in bytes))) part in
    subst (λ e. ReadBack m ns place e bytes) (sym s.end_is) (read_on m sound ns place bytes (drop size (drop place (bits_in bytes))) s.in_range split)

-- one count of a series: from where it was written on the answer, the bytes and what stands go on
module _ (m : Meaning) (numbers bytes bytes' : List ℕ) (written place next next' : ℕ) (within : written < length numbers)
    (result : Result ℕ WriteRefusal) (gave : result ≡ write_answer m (get_or numbers written 0) next bytes) (went : result ≡ Ok next') (is : bytes' ≡ bytes_written m (get_or numbers written 0) next bytes) where
  answer : write_answer m (get_or numbers written 0) next bytes ≡ Ok next'
  answer = sym gave ∙ went

  begins : drop written numbers ≡ get_or numbers written 0 ∷ drop (written + 1) numbers
  begins = drop_more numbers written 0 within

  pub series_goes : series_from m (written + 1) (drop (written + 1) numbers) next' bytes' ≡ series_from m written (drop written numbers) next bytes
  series_goes =
      ap (series_from m (written + 1) (drop (written + 1) numbers) next') is
      ∙ sym (ap (λ r. series_by written next r (λ k. series_from m (written + 1) (drop (written + 1) numbers) k (bytes_written m (get_or numbers written 0) next bytes))) answer)
      ∙ ap (λ ns. series_from m written ns next bytes) (sym begins)

  pub bytes_go : series_bytes m (drop (written + 1) numbers) next' bytes' ≡ series_bytes m (drop written numbers) next bytes
  bytes_go =
      ap (series_bytes m (drop (written + 1) numbers) next') is
      ∙ sym (ap (λ r. bytes_by bytes r (λ k. series_bytes m (drop (written + 1) numbers) k (bytes_written m (get_or numbers written 0) next bytes))) answer)
      ∙ ap (λ ns. series_bytes m ns next bytes) (sym begins)

  pub stands_on : Stands m (take written numbers) place next bytes → Stands m (take (written + 1) numbers) place next' bytes'
  stands_on s =
      subst (λ ns. Stands m ns place next' bytes') (sym (take_more numbers written 0 within))
      (subst (Stands m (take written numbers ++ get_or numbers written 0 ∷ []) place next') (sym is) (stands_more m (take written numbers) (get_or numbers written 0) place next next' bytes s answer))

-- what stands before a count that is refused
pub stands_still : (m : Meaning) (ns : List ℕ) (n place next : ℕ) (bytes bytes' : List ℕ) (result : Result ℕ WriteRefusal) (x : WriteRefusal) → result ≡ write_answer m n next bytes → result ≡ Err x → bytes' ≡ bytes_written m n next bytes → Stands m ns place next bytes → Stands m ns place next bytes'
stands_still m ns n place next bytes bytes' result x gave went is s =
    subst (Stands m ns place next) (sym (is ∙ refused_same m n next bytes x (sym gave ∙ went))) s

-- a series writes no more counts than there are
pub series_few : (m : Meaning) (done : ℕ) (ns : List ℕ) (place : ℕ) (bytes : List ℕ) → (series_from m done ns place bytes).written ≤ done + length ns
series_few m done [] place bytes = omega arith
series_few m done (n ∷ ns) place bytes =
    step (write_answer m n place bytes) (λ next. series_few m (done + 1) ns next (bytes_written m n place bytes))
  where
    goes : ℕ → Series
    goes next = series_from m (done + 1) ns next (bytes_written m n place bytes)

    step : (r : Result ℕ WriteRefusal) → ((next : ℕ) → (goes next).written ≤ done + 1 + length ns) → (series_by done place r goes).written ≤ done + length (n ∷ ns)
    step (Ok next) later = omega (arith, later next)
    step (Err e) later = omega arith

-- and ends within the bits that it begins in
pub series_inside : (m : Meaning) (done : ℕ) (ns : List ℕ) (place : ℕ) (bytes : List ℕ) → place ≤ length (bits_in bytes) → (series_from m done ns place bytes).next ≤ length (bits_in bytes)
series_inside m done [] place bytes h = h
series_inside m done (n ∷ ns) place bytes h =
    step (write_answer m n place bytes) refl (λ next. series_inside m (done + 1) ns next (bytes_written m n place bytes))
  where
    after : List ℕ
    after = bytes_written m n place bytes

    goes : ℕ → Series
    goes next = series_from m (done + 1) ns next after

    step : (r : Result ℕ WriteRefusal) → write_answer m n place bytes ≡ r
        → ((next : ℕ) → next ≤ length (bits_in after) → (goes next).next ≤ length (bits_in after))
        → (series_by done place r goes).next ≤ length (bits_in bytes)
    step (Ok next) e later = let w = wrote m n place next bytes e in omega (arith, w.same_length, later next (omega (arith, w.fits, w.same_length)))
    step (Err x) e later = h
