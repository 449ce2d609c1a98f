use Rattle.std.proofs.Common.{◌≡◌, ◌-◌, ◌≤◌, drop}
use Rattle.rules.specs.Bits.{bits_in}
use Rattle.codes.specs.Chunked.{greatest, read_groups}
use Rattle.codes.specs.Reader.{bits_left}
use Rattle.codes.proofs.chunked.ChunkedCountCode.read.Given as goal

abbrev pub invariant-loop-seen : goal.invariant-loop-seen
invariant-loop-seen l = record {
  reads : read_groups (32 - l.seen) l.self.later l.width l.seen l.value (l.reader.place - l.place) (bits_left l.reader) ≡ read_groups 32 l.self.later l.self.first 0 0 0 (drop l.place (bits_in l.bytes));
  from : l.reader.from ≡ l.place;
  past : l.place ≤ l.reader.place;
  some : 1 ≤ l.width;
  narrow : l.width ≤ 6;
  fits : l.value ≤ greatest;
}

abbrev pub decreases-loop-seen : goal.decreases-loop-seen
decreases-loop-seen l = 32 - l.seen
