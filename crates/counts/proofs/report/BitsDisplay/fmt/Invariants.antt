use Rattle.std.proofs.Common.{◌≡◌, ◌-◌, ◌≤◌, take, drop}
use Rattle.std.specs.Fmt.{HasWritten, IsPlainFormatter}
use Rattle.rules.specs.Bits.{bits_in}
use Rattle.codes.specs.Reader.{bits_left}
use Rattle.counts.specs.Report.{bits_text}
use Rattle.counts.proofs.report.BitsDisplay.fmt.Given as goal

abbrev pub invariant-loop : goal.invariant-loop
invariant-loop g l =
    let bits = drop l.self.from (bits_in l.self.buffer.now) in
    (l.self.from ≤ l.counter)
    × (l.counter - l.self.from ≤ l.self.to - l.self.from)
    × (bits_left l.reader ≡ drop (l.counter - l.self.from) bits)
    × (IsPlainFormatter l.initial.f → HasWritten g.W.Write.write_str_gives l.initial.f (bits_text (take (l.counter - l.self.from) bits)) l.f)
