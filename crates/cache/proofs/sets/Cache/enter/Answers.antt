use Rattle.std.proofs.Common.{◌≡◌, ℕ, ◌-◌, ◌<◌, ◌≤◌, List, ◌∷◌, length, get_or, take, vec_items, refl, ap, ◌∙◌, arith, length-take}
use Rattle.std.proofs.lemmas.List.Elements.{All-set}
use Rattle.rules.specs.declared.cache.Settings.{Settings}
use Rattle.rules.proofs.Flags.{sets_bounds, ways_bounds}
use Rattle.cache.specs.Recency.{recent}
use Rattle.cache.specs.declared.recency.Recency.{Recency}
use Rattle.cache.proofs.Lookup.{IsSetOf, few_used, entered}
use Rattle.cache.proofs.View.{way_below}
use Rattle.cache.proofs.sets.Cache.enter.Goals as goal

pub enter-requires-clause-room : goal.enter-requires-clause-room
enter-requires-clause-room c =
    let self = c.args.self.now in
    let home : IsSetOf c.args.block self c.set_of-set.result c.index_mut.result.now = record { is = c.set_of-set.ensures.is; inside = c.set_of-set.ensures.inside; order = c.index_mut.ensures.value } in
    let ways = ap (λ (k : Settings). k.ways) c.settings-ways.ensures in
    omega (arith, ways, few_used home)

-- the way that comes first is one of four
way_first : (r : Recency) (w : ℕ) (ws : List ℕ) → recent r ≡ w ∷ ws → w < 4
way_first r w ws e = omega (arith, ap (λ (xs : List ℕ). get_or xs 0 0) e, way_below r 0 (omega (arith, ap length e)))

pub invariant_of-self-clause-few : goal.invariant_of-self-clause-few
invariant_of-self-clause-few c =
    let self = c.args.self.now in
    let ways = ap (λ (k : Settings). k.ways) c.settings-ways.ensures in
    let some = (ways_bounds self.shape.settings self.shape.proper).0 in
    All-set (λ order. length (recent order) ≤ self.shape.settings.ways) (vec_items self.orders) c.set_of-set.result c.enter.new.self
    (omega (arith, ap length c.enter.ensures, length-take (c.settings-ways.result.ways - 1) (recent c.index_mut.result.now), ways, some)) self.few

pub overflow_add-result : goal.overflow_add-result
overflow_add-result c =
    let self = c.args.self.now in
    record { fits = omega (arith, way_first c.enter.new.self c.enter.result _ c.enter.ensures, c.set_of-set.ensures.inside, self.many, (sets_bounds self.shape.settings self.shape.proper).1) }

pub returns : goal.returns
returns c =
    let self = c.args.self.now in
    let r = c.index_mut.result.now in
    let home : IsSetOf c.args.block self c.set_of-set.result c.index_mut.result.now = record { is = c.set_of-set.ensures.is; inside = c.set_of-set.ensures.inside; order = c.index_mut.ensures.value } in
    let ways = ap (λ (k : Settings). k.ways) c.settings-ways.ensures in
    record {
      shape = refl;
      table = refl;
      slotted = omega (arith, way_first c.enter.new.self c.enter.result _ c.enter.ensures, c.set_of-set.ensures.inside, self.room, self.table.lines.ok.0);
      sets = entered home c.requires
          c.enter.new.self c.enter.result (c.enter.ensures ∙ ap (λ n. c.enter.result ∷ take (n - 1) (recent r)) ways);
    }
