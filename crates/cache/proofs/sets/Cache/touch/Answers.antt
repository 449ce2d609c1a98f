use Rattle.std.proofs.Common.{◌<◌, ◌≤◌, vec_items, length, refl, ap, arith}
use Rattle.std.proofs.lemmas.List.Edits.{length-remove}
use Rattle.std.proofs.lemmas.List.Elements.{All-set}
use Rattle.cache.specs.Recency.{recent}
use Rattle.cache.proofs.Lookup.{IsSetOf, set_long, few_used, touched}
use Rattle.cache.proofs.sets.Cache.touch.Goals as goal

pub promote-requires : goal.promote-requires
promote-requires c =
    let home : IsSetOf c.args.block c.args.self.now c.set_of-set.result c.index_mut.result.now = record { is = c.set_of-set.ensures.is; inside = c.set_of-set.ensures.inside; order = c.index_mut.ensures.value } in
    omega (arith, c.requires.inside, set_long home)

pub invariant_of-self-clause-few : goal.invariant_of-self-clause-few
invariant_of-self-clause-few c =
    let self = c.args.self.now in
    let r = c.index_mut.result.now in
    let home : IsSetOf c.args.block self c.set_of-set.result r = record { is = c.set_of-set.ensures.is; inside = c.set_of-set.ensures.inside; order = c.index_mut.ensures.value } in
    let inside : c.args.found.place < length (recent r) = omega (arith, c.requires.inside, set_long home) in
    All-set (λ order. length (recent order) ≤ self.shape.settings.ways) (vec_items self.orders) c.set_of-set.result c.promote.new.self
    (omega (arith, ap length c.promote.ensures, length-remove (recent r) c.args.found.place inside, few_used home)) self.few

pub returns : goal.returns
returns c =
    let home : IsSetOf c.args.block c.args.self.now c.set_of-set.result c.index_mut.result.now = record { is = c.set_of-set.ensures.is; inside = c.set_of-set.ensures.inside; order = c.index_mut.ensures.value } in
    record { shape = refl; table = refl; slotted = c.requires.slotted; sets = touched home c.args.found.place c.args.found.slot c.requires c.promote.new.self c.promote.ensures }
