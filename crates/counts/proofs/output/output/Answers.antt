use Rattle.std.proofs.Common.{◌≡◌, ℕ, ◌+◌, ◌/◌, ◌≤◌, List, [], ◌∷◌, ◌++◌, length, length-take-le, take, string_bytes, sym, ap, ◌∙◌, ap₂, arith, rules, append_assoc}
use Rattle.rules.specs.Meaning.{Meaning}
use Rattle.rules.proofs.Bits.{length-bits_in}
use Rattle.codes.specs.Series.{series_from}
use Rattle.codes.proofs.Standing.{series_few, series_inside}
use Rattle.codes.specs.declared.series.Series.{Series}
use Rattle.counts.specs.Output.{count_lines, read_lines, refused_text}
use Rattle.counts.specs.Report.{bytes_line, total_line}
use Rattle.counts.proofs.output.output.Goals as goal
use Rattle.counts.proofs.output.output.Goals.{in-Some+in_ok-writeln, in_default}

-- what is written over some bytes is part of the counts, and the bytes that it fills are part of those
module _ (m : Meaning) (counts : List ℕ) (s : Series) (over : List ℕ) (is : s ≡ series_from m 0 counts 0 over) where
  few : s.written ≤ length counts
  few = omega (arith, ap (λ t. t.written) is, series_few m 0 counts 0 over)

  bytes_fit : (k size : ℕ) → k ≡ (s.next + 7) / 8 → size ≡ length over → k ≤ size
  bytes_fit k size is_k is_size = omega (arith, ap (λ t. t.next) is, series_inside m 0 counts 0 over (omega arith), length-bits_in over)

pub slice_bounds-listed-end : goal.slice_bounds-listed-end
slice_bounds-listed-end g c =
    sym (length-take-le _ c.args.counts.now (few (g.C.CountCode.meaning c.args.code.now) c.args.counts.now c.write_series-series.result _ c.write_series-series.ensures.answer))

pub slice_bounds-buffer-end : goal.slice_bounds-buffer-end
slice_bounds-buffer-end g c =
    bytes_fit (g.C.CountCode.meaning c.args.code.now) c.args.counts.now c.write_series-series.result _ c.write_series-series.ensures.answer c.div_ceil.result (length c.write_series-series.new.buffer) (search (rules, arith)) (search rules)

pub slice_bounds-bytes-end : goal.slice_bounds-bytes-end
slice_bounds-bytes-end g c =
    sym (length-take-le _ c.write_series-series.new.buffer
    (bytes_fit (g.C.CountCode.meaning c.args.code.now) c.args.counts.now c.write_series-series.result _ c.write_series-series.ensures.answer c.div_ceil.result (length c.write_series-series.new.buffer) (search (rules, arith)) (search rules)))

pub listed-requires : goal.listed-requires
listed-requires g c =
    (c.write_series-series.result.next, c.write_series-series.ensures.readback)

-- a line put behind a text, with its end
lined : (text line : List ℕ) → text ++ (line ++ 10 ∷ []) ≡ text ++ line ++ 10 ∷ []
lined text line = sym (append_assoc text line (10 ∷ []))

-- all that is printed, from the series that was written and the bytes after it
abbrev whole : Meaning → List ℕ → Series → List ℕ → List ℕ
whole m counts s bytes =
    count_lines m (take s.written counts) 0 ++ refused_text s.refusal ++ bytes_line (take ((s.next + 7) / 8) bytes) ++ (10 ∷ []) ++ read_lines m (take s.written counts) 0 ++ total_line s.written s.next ++ (10 ∷ [])

pub returns : goal.returns
returns g c =
    let m = g.C.CountCode.meaning c.args.code.now in
    let counts = c.args.counts.now in
    let s = c.write_series-series.result in
    let after = c.write_series-series.new.buffer in
    let told = c.in_ok-text.ensures in
    let lines : string_bytes c.in_ok-text.text ≡ count_lines m (take s.written counts) 0 = search (rules, told.0) in
    let reads : string_bytes c.in_ok-text.reads ≡ read_lines m (take s.written counts) 0 = search (rules, told.1) in
    let refused : string_bytes c.match-series.text ≡ count_lines m (take s.written counts) 0 ++ refused_text s.refusal = elim c.match-series.branch [
      | in-Some+in_ok-writeln w ↦ search (rules, lines)
      | in_default w ↦ search (rules, lines)
    ] in
    let bytes : string_bytes c.writeln-2.new.self ≡ string_bytes c.match-series.text ++ (bytes_line (take ((s.next + 7) / 8) after) ++ 10 ∷ []) = search rules in
    let pushed : string_bytes c.push_str.new.self ≡ string_bytes c.writeln-2.new.self ++ string_bytes c.in_ok-text.reads = search rules in
    let total : string_bytes c.writeln-3.new.self ≡ string_bytes c.push_str.new.self ++ (total_line s.written s.next ++ 10 ∷ []) = search rules in
    let shown : string_bytes c.writeln-3.new.self ≡ whole m counts s after =
    total ∙ lined _ (total_line s.written s.next)
    ∙ ap (λ l. l ++ total_line s.written s.next ++ 10 ∷ [])
    (pushed ∙ ap₂ ◌++◌ (bytes ∙ lined _ _ ∙ ap (λ l. l ++ bytes_line (take ((s.next + 7) / 8) after) ++ 10 ∷ []) refused) reads) in
    shown ∙ ap₂ (whole m counts) c.write_series-series.ensures.answer c.write_series-series.ensures.bytes
