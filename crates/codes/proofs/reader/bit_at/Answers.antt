use Rattle.std.proofs.Common.{sym}
use Rattle.rules.proofs.Bits.{get_or-bits_of}
use Rattle.codes.proofs.reader.bit_at.Goals as goal

pub returns : goal.returns
returns c = sym (get_or-bits_of c.args.bytes.now c.args.place c.requires)
