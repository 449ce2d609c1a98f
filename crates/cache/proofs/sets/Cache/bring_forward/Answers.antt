use Rattle.std.proofs.Common.{get_or, vec_items, sym, refl, ap, ◌∙◌}
use Rattle.rules.specs.Cache.{holds, forward}
use Rattle.rules.proofs.Sets.{first_none}
use Rattle.cache.specs.Lookup.{block_set}
use Rattle.cache.specs.View.{blank}
use Rattle.cache.proofs.Operations.{found_line, brings}
use Rattle.cache.proofs.sets.Cache.bring_forward.Goals as goal

pub returns-in-Some : goal.returns-in-Some
returns-in-Some c =
    let before = c.args.self.now in
    let found = c.in-Some.found in
    let fill = c.args.fill.now in
    let block = c.args.block in
    let old = c.line_mut.result.now in
    let is = c.line_mut.ensures.value ∙ ap (λ t. get_or (vec_items t.lines) found.slot old) c.touch.ensures.table in
    brings block fill before c.touch.new.self _ found.slot c.refresh.new.line c.touch.ensures refl refl refl
    (c.refresh.ensures ∙ ap (forward fill block) (sym (found_line block before found.place found.slot old c.in-Some.ensures is)))

pub returns-in-None : goal.returns-in-None
returns-in-None c =
    let before = c.args.self.now in
    let fill = c.args.fill.now in
    let block = c.args.block in
    brings block fill before c.enter-slot.new.self _ c.enter-slot.result c.new_line.result c.enter-slot.ensures refl refl refl
    (c.new_line.ensures ∙ ap (forward fill block) (sym (first_none (holds block) (block_set block before) blank c.in-None.ensures)))
