use Rattle.std.proofs.Common.{◌≡◌, ◌-◌, length, take, ap, ◌∙◌, arith}
use Rattle.rules.specs.Bytes.{low_bytes}
use Rattle.rules.specs.Overlay.{overlay}
use Rattle.rules.specs.declared.cache.Line.{Line}
use Rattle.rules.proofs.Bytes.{length-low_bytes}
use Rattle.cache.proofs.Parts.{part_written}
use Rattle.cache.proofs.Words.{take-low_bytes, eight_bytes}
use Rattle.cache.proofs.line.write.Goals as goal

pub returns : goal.returns
returns c =
    let l = c.args.line.now in
    let size = c.args.part.size in
    let new = low_bytes size c.args.value in
    let low : take size c.to_le_bytes-bytes.result ≡ new = ap (take size) (c.to_le_bytes-bytes.ensures ∙ eight_bytes c.args.value) ∙ take-low_bytes size 8 c.args.value c.args.part.few in
    let r = c.range.result in
    let width : length new ≡ r.end - r.start = length-low_bytes size c.args.value ∙ omega (arith, c.range.ensures.start, c.range.ensures.end) in
    ap (λ bs. let m : Line = record { block = l.block; bytes = bs; flags = l.flags; stale = l.stale } in m)
    (part_written r.start (r.end - r.start) l.bytes c.copy_from_slice.new.self new (c.copy_from_slice.ensures.after ∙ low) width
    ∙ ap (λ f. overlay f new l.bytes) c.range.ensures.start)
