use Rattle.std.proofs.Common.{◌≡◌, take, drop}
use Rattle.codes.specs.Series.{series_from, series_bytes}
use Rattle.codes.proofs.Standing.{Stands}
use Rattle.codes.proofs.series.write_series.Given as goal

abbrev pub invariant-loop-written : goal.invariant-loop-written
invariant-loop-written g l = record {
  answer : series_from (g.C.CountCode.meaning l.code) l.written (drop l.written l.numbers) l.next l.buffer ≡ series_from (g.C.CountCode.meaning l.code) 0 l.numbers l.place l.initial.buffer;
  bytes : series_bytes (g.C.CountCode.meaning l.code) (drop l.written l.numbers) l.next l.buffer ≡ series_bytes (g.C.CountCode.meaning l.code) l.numbers l.place l.initial.buffer;
  stands : Stands (g.C.CountCode.meaning l.code) (take l.written l.numbers) l.place l.next l.buffer;
}
