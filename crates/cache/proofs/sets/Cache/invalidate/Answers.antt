use Rattle.std.proofs.Common.{map, refl, ap, ◌∙◌}
use Rattle.rules.specs.Cache.{block_of}
use Rattle.rules.specs.CacheLaws.{blocks_in}
use Rattle.rules.proofs.CacheLaws.{order_kept}
use Rattle.cache.specs.View.{settings_of, sets_of}
use Rattle.cache.proofs.Operations.{stale_sets, absent_sets}
use Rattle.cache.proofs.sets.Cache.invalidate.Goals as goal

pub returns-in-Some : goal.returns-in-Some
returns-in-Some c =
    let self = c.args.self.now in
    let block = block_of c.args.address in
    let found = c.in-Some.found in
    let sets = stale_sets block self found.place found.slot c.line_mut.result.now c.make_stale.new.line c.in-Some.ensures c.line_mut.ensures.value c.make_stale.ensures in
    record { cache = record { settings = refl; sets = sets }; order = ap (map blocks_in) sets ∙ order_kept (settings_of self) block (sets_of self) }

pub returns-in_default-clause-cache : goal.returns-in_default-clause-cache
returns-in_default-clause-cache c = record { settings = refl; sets = absent_sets (block_of c.args.address) c.args.self.now c.in_default.ensures }
