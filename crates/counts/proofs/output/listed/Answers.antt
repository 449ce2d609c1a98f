use Rattle.std.proofs.Common.{◌≡◌, ◌+◌, [], ◌∷◌, ◌++◌, get_or, drop, string_bytes, sym, ap, ◌∙◌, subst, arith, rules}
use Rattle.counts.specs.Output.{count_lines, read_lines}
use Rattle.counts.specs.Report.{bits_between, count_line, read_line}
use Rattle.counts.proofs.Listing.{Back, Seen, ok_same, next_count, counts_more, reads_more}
use Rattle.counts.proofs.output.listed.Goals as goal

pub loop-count-preserved : goal.loop-count-preserved
loop-count-preserved g c =
    let m = g.C.CountCode.meaning c.args.code.now in
    let l = c.loop-count in
    let ns = c.args.counts.now in
    let i = l.count-index in
    let bytes = c.args.buffer.now in
    let n = next_count m (g.met.C.CountCode.sound c.args.code.now) ns i l.from bytes (omega arith) l.invariant.2 in
    let same : c.in-Ok.read ≡ record { number = get_or ns i 0; next = n.next } = ok_same _ _ (sym c.in-Ok.is ∙ c.read.ensures ∙ n.answer) in
    let next = c.in-Ok.read.next in
    let far : n.next ≡ next = sym (ap (λ x. x.next) same) in
    let stands : Seen m l.from (get_or ns i 0) next bytes = subst (λ p. Seen m l.from (get_or ns i 0) p bytes) far n.stands in
    let line = count_line (get_or ns i 0) (bits_between l.from next bytes) next in
    let back = read_line (get_or ns i 0) next in
    let number : c.in-Ok.read.number ≡ get_or ns i 0 = ap (λ x. x.number) same in
    let written : string_bytes c.writeln.new.self ≡ string_bytes l.listing.counts ++ (line ++ 10 ∷ []) = search rules in
    let reads : string_bytes c.writeln-in-loop-count.new.self ≡ string_bytes l.listing.reads ++ (back ++ 10 ∷ []) = search (rules, number) in (
      ap (λ x. x ++ count_lines m (drop (i + 1) ns) next) written ∙ counts_more m ns i l.from next bytes (omega arith) stands (string_bytes l.listing.counts) ∙ l.invariant.0,
      ap (λ x. x ++ read_lines m (drop (i + 1) ns) next) reads ∙ reads_more m ns i l.from next bytes (omega arith) stands (string_bytes l.listing.reads) ∙ l.invariant.1,
      subst (λ p. Back m (drop (i + 1) ns) p bytes) far n.back,
    )
