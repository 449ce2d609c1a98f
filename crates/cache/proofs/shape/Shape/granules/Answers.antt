use Rattle.rules.proofs.Flags.{granule_size, size_some}
use Rattle.cache.proofs.Granules.{granules_within}
use Rattle.cache.proofs.shape.Shape.granules.Goals as goal

pub returns-clause-whole : goal.returns-clause-whole
returns-clause-whole c =
    let k = c.args.self.settings in
    granules_within k.granule c.args.part.from c.args.part.size c.div_ceil-start.result c.max.result (size_some k.granule (granule_size k c.args.self.proper)) c.div_ceil-start.ensures c.max.ensures
