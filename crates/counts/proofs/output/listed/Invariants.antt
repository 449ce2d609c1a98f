use Rattle.std.proofs.Common.{◌≡◌, ◌++◌, drop, string_bytes}
use Rattle.counts.specs.Output.{count_lines, read_lines}
use Rattle.counts.proofs.Listing.{Back}
use Rattle.counts.proofs.output.listed.Given as goal

abbrev pub invariant-loop-count : goal.invariant-loop-count
invariant-loop-count g l =
    let m = g.C.CountCode.meaning l.code in
    let left = drop l.count-index l.counts in
    (string_bytes l.listing.counts ++ count_lines m left l.from ≡ count_lines m l.counts 0)
    × (string_bytes l.listing.reads ++ read_lines m left l.from ≡ read_lines m l.counts 0)
    × Back m left l.from l.buffer
