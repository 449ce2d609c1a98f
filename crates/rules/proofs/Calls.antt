-- Which way a write and a reading go.
use Rattle.std.proofs.Common.{◌≡◌, ℕ, ◌+◌, ◌<◌, ◌≤◌, Bool, true, false, cond, ltb, leb, List, ◌++◌, length, take, is_ok, Ok, Err, Result, sym, refl, ap, ◌∙◌, ap₂, arith}
use Rattle.std.proofs.lemmas.Bool.{cond-true, cond-false, le-leb, lt-leb, le-ltb, leb-true, leb-false, ltb-false}
use Rattle.rules.specs.declared.count.WriteRefusal.{WriteRefusal}
use Rattle.rules.specs.declared.count.WriteRefusal.TheVariants.{AboveTop, NoRoom}
use Rattle.rules.specs.Bits.{bits_of, bytes_of, bits_in}
use Rattle.rules.specs.Overlay.{overlay}
use Rattle.rules.proofs.Bits.{length-bits_of, length-bits_in, bits_of-bytes_of, take-bits_in}
use Rattle.rules.proofs.Overlay.{length-overlay, take-overlay}
use Rattle.rules.specs.Calls.{room, laid, write_answer, bytes_written}
use Rattle.rules.specs.Meaning.{Meaning}

module _ (place count : ℕ) (bytes : List ℕ) where
  pub room_is : place + count ≤ length (bits_in bytes) → room place count bytes ≡ Ok (place + count)
  room_is h = cond-true (leb (place + count) (length (bits_in bytes))) _ _ (le-leb (place + count) (length (bits_in bytes)) h)

  pub no_room : length (bits_in bytes) < place + count → room place count bytes ≡ Err NoRoom
  no_room h = cond-false (leb (place + count) (length (bits_in bytes))) _ _ (lt-leb (place + count) (length (bits_in bytes)) h)

module _ (place : ℕ) (new : List Bool) (bytes : List ℕ) where
  pub laid_is : place + length new ≤ length (bits_in bytes) → laid place new bytes ≡ bytes_of (length bytes) (overlay place new (bits_of bytes))
  laid_is h = ap (λ r. cond (is_ok r) (bytes_of (length bytes) (overlay place new (bits_of bytes))) bytes) (room_is place (length new) bytes h)

  pub not_laid : length (bits_in bytes) < place + length new → laid place new bytes ≡ bytes
  not_laid h = ap (λ r. cond (is_ok r) (bytes_of (length bytes) (overlay place new (bits_of bytes))) bytes) (no_room place (length new) bytes h)

-- a number of the code, whose bits are `count` of a word
module _ (m : Meaning) (n place count : ℕ) (bytes : List ℕ) (within : n ≤ m.top) where
  pub answer_within : length (m.bits n) ≡ count → write_answer m n place bytes ≡ room place count bytes
  answer_within long = cond-false (ltb m.top n) _ _ (le-ltb m.top n within) ∙ ap (λ k. room place k bytes) long

  pub bytes_within : bytes_written m n place bytes ≡ laid place (m.bits n) bytes
  bytes_within = cond-false (ltb m.top n) _ _ (le-ltb m.top n within)

-- what an accepted write tells: the bits before the place stay, and the number's bits follow them
pub record Wrote (m : Meaning) (n place next : ℕ) (bytes : List ℕ) : Type 0 where
  pub in_range : n ≤ m.top
  pub next_is : next ≡ place + length (m.bits n)
  pub fits : next ≤ length (bits_in bytes)
  pub same_length : length (bits_in (bytes_written m n place bytes)) ≡ length (bits_in bytes)
  pub bits_are : take next (bits_in (bytes_written m n place bytes)) ≡ take place (bits_in bytes) ++ m.bits n

ok≢err : (x : ℕ) (e : WriteRefusal) → ◌≡◌ {A = Result ℕ WriteRefusal} (Err e) (Ok x) → ⊥
ok≢err x e h = let z : ◌≡◌ {A = ℕ} 0 1 = cc in omega arith

ok_same : (x y : ℕ) → ◌≡◌ {A = Result ℕ WriteRefusal} (Ok x) (Ok y) → x ≡ y
ok_same x y h = cc

pub wrote : (m : Meaning) (n place next : ℕ) (bytes : List ℕ) → write_answer m n place bytes ≡ Ok next → Wrote m n place next bytes
wrote m n place next bytes e = above (ltb m.top n) refl
  where
    bits : List Bool
    bits = m.bits n

    fit : n ≤ m.top → (b : Bool) → leb (place + length (m.bits n)) (length (bits_in bytes)) ≡ b → Wrote m n place next bytes
    fit small false few =
        absurd (ok≢err next NoRoom (sym (answer_within m n place (length (m.bits n)) bytes small refl ∙ no_room place (length (m.bits n)) bytes (leb-false (place + length (m.bits n)) (length (bits_in bytes)) few)) ∙ e))
    fit small true t =
        let h = leb-true (place + length (m.bits n)) (length (bits_in bytes)) t in
        let ends : next ≡ place + length (m.bits n) = ok_same next (place + length (m.bits n)) (sym e ∙ answer_within m n place (length (m.bits n)) bytes small refl ∙ room_is place (length (m.bits n)) bytes h) in
        let old = bits_of bytes in
        let long = length-bits_in bytes in
        let all = length-bits_of bytes in
        let over = overlay place (m.bits n) old in
        let same : length over ≡ length old = length-overlay place (m.bits n) old (omega arith) in
        let is : bytes_written m n place bytes ≡ bytes_of (length bytes) over = bytes_within m n place 0 bytes small ∙ laid_is place (m.bits n) bytes h in
        let seen : bits_of (bytes_written m n place bytes) ≡ over = ap bits_of is ∙ bits_of-bytes_of (length bytes) over (same ∙ all) in
        let kept : length (bits_in (bytes_written m n place bytes)) ≡ length (bits_in bytes) =
        length-bits_in (bytes_written m n place bytes) ∙ omega (arith, length-bits_of (bytes_written m n place bytes), ap length seen, same, all, long) in
        record {
          in_range = small;
          next_is = ends;
          fits = omega arith;
          same_length = kept;
          bits_are = take-bits_in next (bytes_written m n place bytes) (omega arith) ∙ ap₂ take ends seen ∙ take-overlay place (m.bits n) old (omega arith)
              ∙ ap (λ l. l ++ m.bits n) (sym (take-bits_in place bytes (omega arith)));
        }

    above : (b : Bool) → ltb m.top n ≡ b → Wrote m n place next bytes
    above true t = absurd (ok≢err next AboveTop (sym (cond-true (ltb m.top n) _ _ t) ∙ e))
    above false t = fit (ltb-false m.top n t) (leb (place + length (m.bits n)) (length (bits_in bytes))) refl

-- a refused write leaves the bytes as they were
pub refused_same : (m : Meaning) (n place : ℕ) (bytes : List ℕ) (x : WriteRefusal) → write_answer m n place bytes ≡ Err x → bytes_written m n place bytes ≡ bytes
refused_same m n place bytes x e = above (ltb m.top n) refl
  where
    fit : n ≤ m.top → (b : Bool) → leb (place + length (m.bits n)) (length (bits_in bytes)) ≡ b → bytes_written m n place bytes ≡ bytes
    fit small false few = bytes_within m n place 0 bytes small ∙ not_laid place (m.bits n) bytes (leb-false (place + length (m.bits n)) (length (bits_in bytes)) few)
    fit small true t =
        absurd (ok≢err _ x (sym e ∙ answer_within m n place (length (m.bits n)) bytes small refl ∙ room_is place (length (m.bits n)) bytes (leb-true (place + length (m.bits n)) (length (bits_in bytes)) t)))

    above : (b : Bool) → ltb m.top n ≡ b → bytes_written m n place bytes ≡ bytes
    above true t = cond-true (ltb m.top n) _ _ t
    above false t = fit (ltb-false m.top n t) (leb (place + length (m.bits n)) (length (bits_in bytes))) refl
