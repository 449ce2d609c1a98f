use Rattle.std.proofs.Common.{◌≡◌, ◌+◌, ◌-◌, ◌<◌, ◌≤◌, ◌++◌, length, take, drop, decimal, sym, ap, ◌∙◌, arith, rules, length-drop, drop-drop}
use Rattle.std.proofs.Output.{has_written_append, has_written_of_eq}
use Rattle.rules.specs.Bits.{bits_in, value_of}
use Rattle.codes.specs.Reader.{bits_left}
use Rattle.codes.proofs.Words.{took, not_taken}
use Rattle.counts.specs.Report.{bits_text}
use Rattle.counts.proofs.Digits01.{text_more, text_end}
use Rattle.counts.proofs.report.BitsDisplay.fmt.Goals as goal

pub returns-in_default-clause-writes : goal.returns-in_default-clause-writes
returns-in_default-clause-writes g c = λ plain _.
    let b = c.args.self.now in
    let bits = drop b.from (bits_in b.buffer.now) in
    let l = c.loop in
    let i = l.counter - b.from in
    let few = not_taken l.reader.from 1 (bits_left l.reader) _ (sym c.take.ensures.answer ∙ c.in_default.is) in
    let short : length bits ≤ i = omega (arith, few.0, ap length l.invariant.2, length-drop i bits) in
    has_written_of_eq _ _ _ _ _ (text_end bits i (b.to - b.from) short (omega (arith, c.loop-test.true))) (l.invariant.3 plain)

pub loop-preserved : goal.loop-preserved
loop-preserved g c =
    let b = c.args.self.now in
    let bits = drop b.from (bits_in b.buffer.now) in
    let l = c.loop in
    let i = l.counter - b.from in
    let t = took l.reader c.take.new.self 1 c.in-Ok.bit c.take.result (omega arith) c.take.ensures.answer c.take.ensures.after c.in-Ok.is in
    let within : i < length bits = omega (arith, t.enough, ap length l.invariant.2, length-drop i bits) in
    let next : i + 1 ≡ l.counter + 1 - b.from = omega (arith, l.invariant.0) in
    let digit : c.in-Ok.bit ≡ value_of (take 1 (drop i bits)) = t.value_is ∙ ap (λ bs. value_of (take 1 bs)) l.invariant.2 in (
      omega (arith, l.invariant.0),
      omega (arith, c.loop-test.true),
      t.left_is ∙ ap (drop 1) l.invariant.2 ∙ drop-drop 1 i bits ∙ ap (λ n. drop n bits) next,
      λ plain.
          has_written_of_eq _ _ _ _ _ (ap (λ n. bits_text (take i bits) ++ decimal n) digit ∙ text_more bits i within ∙ ap (λ n. bits_text (take n bits)) next)
          (has_written_append _ _ _ _ _ _ (l.invariant.3 plain) (search rules)),
    )

pub returns-clause-writes : goal.returns-clause-writes
returns-clause-writes g c = λ plain _.
    let b = c.args.self.now in
    let size : c.loop.counter - b.from ≡ b.to - b.from = omega (arith, c.loop.invariant.1, c.loop-test.false) in
    has_written_of_eq _ _ _ _ _ (ap (λ n. bits_text (take n (drop b.from (bits_in b.buffer.now)))) size) (c.loop.invariant.3 plain)
