use Rattle.std.proofs.Common.{◌≤◌, sym, ◌∙◌, arith}
use Rattle.rules.proofs.Bits.{length-low_bits}
use Rattle.rules.proofs.Calls.{answer_within}
use Rattle.codes.specs.Fixed.{fixed_meaning}
use Rattle.codes.proofs.fixed.FixedCountCode.write.Goals as goal

pub returns-clause-answer : goal.returns-clause-answer
returns-clause-answer c =
    let w = c.args.self.now.width in
    let m = fixed_meaning w in
    let n = c.args.number in
    let within : n ≤ m.top = omega (arith, c.top.ensures) in
    c.write_bits.ensures.answer ∙ sym (answer_within m n c.args.place w c.args.buffer.now within (length-low_bits w n))
