use Rattle.std.proofs.Common.{◌≡◌, suc, ◌+◌, ◌-◌, ◌^◌, ◌<◌, length, take, drop, ap, ◌∙◌, arith, length-drop, pow_mono}
use Rattle.rules.specs.Bits.{bits_in, value_of}
use Rattle.rules.proofs.Bits.{length-bits_in, value_of-take_below}
use Rattle.codes.proofs.Words.{word_more, bit_of}
use Rattle.codes.proofs.reader.word_at.Goals as goal
use Rattle.codes.proofs.reader.word_at.Goals.{In-loop-at}

pub overflow_step-at : goal.overflow_step-at
overflow_step-at c =
    record { fits = omega (arith, length-bits_in c.args.bytes.now, length-drop c.args.place (bits_in c.args.bytes.now)) }

-- what was read so far is short of a word by one bit at least
below : (c : In-loop-at) → c.loop-at.word < 2 ^ 63
below c =
    let bits = bits_in c.args.bytes.now in
    let at = c.loop-at.at in
    let count = c.args.place + c.args.width - at in
    let small = value_of-take_below count (drop at bits) (omega (arith, length-drop c.args.place bits, length-drop at bits)) in
    omega (arith, small, c.loop-at.invariant.1, pow_mono {i = count} {j = 63} (omega arith))

pub overflow_mul-word : goal.overflow_mul-word
overflow_mul-word c = record { fits = omega (arith, below c) }

pub bit_at-requires : goal.bit_at-requires
bit_at-requires c = omega (arith, length-bits_in c.args.bytes.now, length-drop c.args.place (bits_in c.args.bytes.now))

pub overflow_add-word : goal.overflow_add-word
overflow_add-word c = record { fits = omega (arith, below (goal.at.overflow_add-word c).In-loop-at, c.from.ensures, bit_of c.bit_at.result) }

pub loop-at-preserved : goal.loop-at-preserved
loop-at-preserved c =
    let bits = bits_in c.args.bytes.now in
    let at = c.loop-at.at in
    let count = c.args.place + c.args.width - at in
    let more : suc count ≡ c.args.place + c.args.width - (at - 1) = omega arith in
    let next : at - 1 + 1 ≡ at = omega arith in
    let within : at - 1 < length bits = omega (arith, length-drop c.args.place bits) in
    let is = word_more c.args.bytes.now (at - 1) count c.bit_at.result within c.bit_at.ensures in (
      omega arith,
      omega (arith, is, ap (λ n. value_of (take count (drop n bits))) next, c.loop-at.invariant.1, c.from.ensures, bit_of c.bit_at.result) ∙ ap (λ n. value_of (take n (drop (at - 1) bits))) more,
    )
