use Rattle.std.proofs.Common.{◌≡◌, ◌+◌, ◌-◌, ◌/◌, ◌<◌, ◌≤◌, length, sym, ap, ◌∙◌, arith}
use Rattle.rules.specs.Bits.{low_bits, bits_of, bits_in}
use Rattle.rules.specs.Overlay.{overlay}
use Rattle.rules.proofs.Bits.{length-low_bits, length-bits_of, length-bits_in}
use Rattle.rules.proofs.Calls.{laid_is, not_laid}
use Rattle.codes.proofs.Laying.{laying_more, laying_done, filled, room_fits, room_lacks}
use Rattle.codes.proofs.writer.write_bits.Goals as goal
use Rattle.codes.proofs.writer.write_bits.Goals.{In_ok-end}

pub returns-in_err-end-clause-bytes : goal.returns-in_err-end-clause-bytes
returns-in_err-end-clause-bytes c =
    let bytes = c.args.buffer.now in
    let short = room_lacks c.args.place c.args.width bytes c.in_err-end.field-0.0 (sym c.place_after.ensures ∙ c.in_err-end.was) in
    sym (not_laid c.args.place (low_bits c.args.width c.args.word) bytes (omega (arith, short, length-low_bits c.args.width c.args.word)))

-- the bits fit, and end at `end`
room : (c : In_ok-end) → (c.args.place + c.args.width ≤ length (bits_in c.args.buffer.now)) × (c.in_ok-end.end ≡ c.args.place + c.args.width)
room c = room_fits c.args.place c.args.width c.args.buffer.now c.in_ok-end.end (sym c.place_after.ensures ∙ c.in_ok-end.was)

pub set_bit-requires : goal.set_bit-requires
set_bit-requires c =
    let r = room (goal.at.set_bit-requires c).In_ok-end in
    omega (arith, r.0, r.1, length-bits_in c.args.buffer.now)

pub loop-at-preserved : goal.loop-at-preserved
loop-at-preserved c =
    let l = c.loop-at in
    let end = c.in_ok-end.end in
    let old = bits_of l.buffer in
    let r = room (goal.at.loop-at-preserved c).In_ok-end in
    let within : l.at < length old = omega (arith, r.0, r.1, length-bits_of l.buffer, length-bits_in c.args.buffer.now) in (
      ap (overlay (l.at + 1) (low_bits (end - (l.at + 1)) (l.rest / 2))) c.set_bit.ensures
          ∙ laying_more l.at end l.rest old c.loop-at-test.true within ∙ l.invariant.0,
      λ k. (c.type_inv.buffer k).fits,
    )

pub returns-clause-bytes : goal.returns-clause-bytes
returns-clause-bytes c =
    let l = c.loop-at in
    let bytes = c.args.buffer.now in
    let new = low_bits c.args.width c.args.word in
    let r = room (goal.at.returns-clause-bytes c).In_ok-end in
    let whole = sym l.invariant.0 ∙ laying_done l.at c.in_ok-end.end l.rest (bits_of l.buffer) c.loop-at-test.false in
    sym (laid_is c.args.place new bytes (omega (arith, r.0, length-low_bits c.args.width c.args.word)) ∙ filled l.buffer (length bytes) (overlay c.args.place new (bits_of bytes)) l.invariant.1 (omega arith) whole)
