use Rattle.std.proofs.Common.{◌≤◌, length, sym, ap, ◌∙◌, arith}
use Rattle.rules.proofs.Bits.{length-low_bits}
use Rattle.rules.proofs.Calls.{answer_within}
use Rattle.codes.specs.Chunked.{chunked_meaning}
use Rattle.codes.proofs.chunked.ChunkedCountCode.write.Goals as goal

pub returns-clause-answer : goal.returns-clause-answer
returns-clause-answer c =
    let m = chunked_meaning c.args.self.now.first c.args.self.now.later in
    let spelled = c.spelled.inside in
    let within : c.args.number ≤ m.top = omega (arith, c.top.ensures) in
    let long = ap length (sym (c.spelled.view_is ∙ c.spell-spelled.ensures)) ∙ length-low_bits spelled.size spelled.word in
    c.write_bits.ensures.answer ∙ sym (answer_within m c.args.number c.args.place spelled.size c.args.buffer.now within long)
