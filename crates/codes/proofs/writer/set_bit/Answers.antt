use Rattle.std.proofs.Common.{◌≡◌, ◌*◌, ◌/◌, ◌%◌, ◌^◌, Bool, true, false, not, get_or, set, sym, refl, ap, ◌∙◌, arith}
use mathlib.Core.Bool.{beq}
use lib.Bits.{bit_xor}
use Rattle.std.proofs.lemmas.Nat.{one_shl}
use Rattle.rules.specs.Bits.{low_bits}
use Rattle.rules.proofs.Bits.{get_or-bits_of, low_bits_flip, set-bits_of}
use Rattle.codes.proofs.writer.set_bit.Goals as goal

other : (a b : Bool) → not (beq a b) ≡ true → not a ≡ b
other true true e = e
other true false e = refl
other false true e = refl
other false false e = sym e

pub returns-then-bit_at-bit : goal.returns-then-bit_at-bit
returns-then-bit_at-bit c =
    let bytes = c.args.buffer.now in
    let place = c.args.place in
    let byte = get_or bytes (place / 8) 0 in
    let mask : (1 * 2 ^ (place % 8)) % 2 ^ 8 ≡ 2 ^ (place % 8) = one_shl (place % 8) 8 (omega arith) in
    let was = c.bit_at.ensures ∙ get_or-bits_of bytes place c.requires in
    let turned : low_bits 8 (bit_xor byte (2 ^ (place % 8))) ≡ set (low_bits 8 byte) (place % 8) c.args.bit =
    low_bits_flip 8 byte (place % 8) (omega arith) ∙ ap (set (low_bits 8 byte) (place % 8)) (ap not (sym was) ∙ other _ _ c.if-bit_at-bit.true) in
    set-bits_of bytes place _ c.args.bit c.requires (ap (λ m. low_bits 8 (bit_xor byte m)) mask ∙ turned)
