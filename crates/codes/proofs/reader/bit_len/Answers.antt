use Rattle.std.proofs.Common.{sym, ◌∙◌}
use Rattle.rules.proofs.Bits.{length-bits_in}
use Rattle.codes.proofs.reader.bit_len.Goals as goal

pub returns : goal.returns
returns c = c.saturating_mul.ensures ∙ sym (length-bits_in c.args.bytes.now)
