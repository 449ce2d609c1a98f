use Rattle.std.proofs.Common.{◌≡◌, ◌<◌, length, get_or, take, ◌∙◌, subst, arith}
use Rattle.codes.specs.Series.{ReadBack}
use Rattle.codes.proofs.Standing.{series_goes, bytes_go, stands_on, stands_still, read_back}
use Rattle.codes.proofs.series.write_series.Goals as goal

pub loop-written-preserved : goal.loop-written-preserved
loop-written-preserved g c =
    let m = g.C.CountCode.meaning c.args.code.now in
    let l = c.loop-written in
    let ns = c.args.numbers.now in
    let within : l.written < length ns = omega arith in
    let wrote = c.write.ensures in
    record {
      answer = series_goes m ns l.buffer c.write.new.buffer l.written c.args.place l.next c.in-Ok.after within _ wrote.answer c.in-Ok.is wrote.bytes ∙ l.invariant.answer;
      bytes = bytes_go m ns l.buffer c.write.new.buffer l.written c.args.place l.next c.in-Ok.after within _ wrote.answer c.in-Ok.is wrote.bytes ∙ l.invariant.bytes;
      stands = stands_on m ns l.buffer c.write.new.buffer l.written c.args.place l.next c.in-Ok.after within _ wrote.answer c.in-Ok.is wrote.bytes l.invariant.stands;
    }

pub returns-in-Err-clause-readback : goal.returns-in-Err-clause-readback
returns-in-Err-clause-readback g c =
    let m = g.C.CountCode.meaning c.args.code.now in
    let l = c.loop-written in
    let ns = c.args.numbers.now in
    let done = take l.written ns in
    let stands = stands_still m done (get_or ns l.written 0) c.args.place l.next l.buffer c.write.new.buffer _ c.in-Err.refusal c.write.ensures.answer c.in-Err.is c.write.ensures.bytes l.invariant.stands in
    read_back m (g.met.C.CountCode.sound c.args.code.now) done c.args.place l.next c.write.new.buffer stands

pub returns-clause-readback : goal.returns-clause-readback
returns-clause-readback g c =
    let m = g.C.CountCode.meaning c.args.code.now in
    let l = c.loop-written in
    let ns = c.args.numbers.now in
    let count : l.written ≡ length ns = omega arith in
    subst (λ k. ReadBack m (take k ns) c.args.place l.next l.buffer) count (read_back m (g.met.C.CountCode.sound c.args.code.now) (take l.written ns) c.args.place l.next l.buffer l.invariant.stands)
