-- Bits laid over a buffer's one by one.
use Rattle.std.proofs.Common.{◌≡◌, ℕ, suc, ◌+◌, ◌-◌, ◌/◌, ◌<◌, ◌≤◌, Bool, List, length, get_or, set, Result, Ok, Err, inl, inr, sym, ap, ◌∙◌, arith}
use Rattle.std.proofs.lemmas.Bool.{cases_lt}
use Rattle.std.proofs.ByRecursion.{All-from_get_or}
use Rattle.rules.specs.Bits.{is_odd, low_bits, bits_of, bits_in, bytes_of}
use Rattle.rules.specs.Calls.{room}
use Rattle.rules.specs.declared.count.WriteRefusal.{WriteRefusal}
use Rattle.rules.specs.declared.count.WriteRefusal.TheVariants.{NoRoom}
use Rattle.rules.proofs.Calls.{room_is, no_room}
use Rattle.rules.specs.Overlay.{overlay}
use Rattle.rules.proofs.Bits.{bytes_of-bits_of}
use Rattle.rules.proofs.Overlay.{overlay_none, overlay-more}

module _ (at end rest : ℕ) (old : List Bool) where
  pub laying_more : at < end → at < length old → overlay (at + 1) (low_bits (end - (at + 1)) (rest / 2)) (set old at (is_odd rest)) ≡ overlay at (low_bits (end - at) rest) old
  laying_more h within =
      let left : suc (end - (at + 1)) ≡ end - at = omega arith in
      sym (overlay-more at (is_odd rest) (low_bits (end - (at + 1)) (rest / 2)) old within) ∙ ap (λ n. overlay at (low_bits n rest) old) left

  pub laying_done : end ≤ at → overlay at (low_bits (end - at) rest) old ≡ old
  laying_done h = let none : end - at ≡ 0 = omega arith in ap (λ n. overlay at (low_bits n rest) old) none ∙ overlay_none at old

-- bytes that the bits fill, where the bits are those of a buffer of that length
pub filled : (bytes : List ℕ) (n : ℕ) (bits : List Bool) → ((i : ℕ) → get_or bytes i 0 < 256) → n ≡ length bytes → bits ≡ bits_of bytes → bytes_of n bits ≡ bytes
filled bytes n bits small long same =
    ap (λ k. bytes_of k bits) long ∙ ap (bytes_of (length bytes)) same ∙ bytes_of-bits_of bytes (All-from_get_or (λ b. b < 256) bytes 0 (λ i _. small i))

ok≢err : (x : ℕ) (e : WriteRefusal) → ◌≡◌ {A = Result ℕ WriteRefusal} (Err e) (Ok x) → ⊥
ok≢err x e h = let z : ◌≡◌ {A = ℕ} 0 1 = cc in omega arith

-- what the answer to a writing says of the room
module _ (place width : ℕ) (bytes : List ℕ) where
  pub room_fits : (end : ℕ) → room place width bytes ≡ Ok end → (place + width ≤ length (bits_in bytes)) × (end ≡ place + width)
  room_fits end is = elim (cases_lt (length (bits_in bytes)) (place + width)) [
    | inl short ↦ absurd (ok≢err end NoRoom (sym (no_room place width bytes short) ∙ is))
    | inr fits ↦ (fits, same end (place + width) (sym is ∙ room_is place width bytes fits))
  ]
    where
      same : (x y : ℕ) → ◌≡◌ {A = Result ℕ WriteRefusal} (Ok x) (Ok y) → x ≡ y
      same x y e = cc

  pub room_lacks : (e : WriteRefusal) → room place width bytes ≡ Err e → length (bits_in bytes) < place + width
  room_lacks e is = elim (cases_lt (length (bits_in bytes)) (place + width)) [
    | inl short ↦ short
    | inr fits ↦ absurd (ok≢err (place + width) e (sym is ∙ room_is place width bytes fits))
  ]
