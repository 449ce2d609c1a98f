use Rattle.std.proofs.Common.{◌-◌, true, sym, ap, ◌∙◌, arith, length-take, length-drop}
use Rattle.std.proofs.lemmas.List.{length-replicate}
use Rattle.rules.specs.declared.cache.Line.{Line}
use Rattle.cache.proofs.Granules.{flagged_granules}
use Rattle.cache.proofs.Parts.{part_written}
use Rattle.cache.proofs.shape.Shape.flag.Goals as goal

pub returns : goal.returns
returns c =
    let l = c.args.line.now in
    let r = c.granules.result in
    let part = c.args.part in
    ap (λ fs. let m : Line = record { block = l.block; bytes = l.bytes; flags = fs; stale = l.stale } in m)
    (part_written r.start (r.end - r.start) l.flags c.fill.new.self _ (c.fill.ensures.after (λ y e. e)) (length-replicate _ true ∙ simp (length-take, length-drop) (omega (arith, c.granules.ensures.most)))
    ∙ sym (flagged_granules c.args.self.settings.granule part.from part.size r.start r.end c.granules.ensures.whole l.flags (omega (arith, c.granules.ensures.most)) c.granules.ensures.order))
