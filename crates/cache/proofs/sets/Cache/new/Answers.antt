use Rattle.std.proofs.Common.{[], replicate, vec_items, refl, ap, ◌∙◌}
use Rattle.rules.specs.declared.cache.Settings.{Settings}
use Rattle.cache.specs.View.{sets_from}
use Rattle.cache.proofs.Operations.{empty_sets}
use Rattle.cache.proofs.sets.Cache.new.Goals as goal

pub returns-clause-empty : goal.returns-clause-empty
returns-clause-empty c =
    let sets = ap (λ (k : Settings). k.sets) c.settings-sets.ensures in
    let orders = c.in_ok-orders.ensures.items_if_clones_equal (λ y e. e) in
    let lines = vec_items c.in_ok-lines.lines in
    record { settings = refl; sets = ap (sets_from lines 0) orders ∙ empty_sets lines 0 c.settings-sets.result.sets c.new.result c.new.ensures ∙ ap (λ n. replicate n []) sets }
