use Rattle.std.proofs.Common.{sym, arith}
use Rattle.cache.proofs.Granules.{all_granules, lacking_granule}
use Rattle.cache.proofs.shape.Shape.is_flagged.Goals as goal

pub returns-then-not-flag : goal.returns-then-not-flag
returns-then-not-flag c =
    let r = c.granules.result in
    sym (lacking_granule c.args.self.settings.granule c.args.part.from c.args.part.size r.start r.end c.granules.ensures.whole c.args.line.now.flags (omega (arith, c.granules.ensures.most)) c.loop-flag.flag-index (omega arith) c.if-not-flag.true)

pub returns : goal.returns
returns c =
    let r = c.granules.result in
    sym (all_granules c.args.self.settings.granule c.args.part.from c.args.part.size r.start r.end c.granules.ensures.whole c.args.line.now.flags (omega (arith, c.granules.ensures.most)) (λ i h. c.loop-flag.invariant i (omega arith)))
