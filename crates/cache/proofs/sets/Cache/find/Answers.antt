use Rattle.std.proofs.Common.{◌≡◌, ℕ, ◌+◌, ◌*◌, ◌<◌, List, length, get_or, sym, ap, ◌∙◌, subst, arith}
use Rattle.std.proofs.lemmas.List.{get_or_read}
use Rattle.rules.specs.declared.cache.Line.{Line}
use Rattle.cache.specs.Lookup.{Lies}
use Rattle.cache.specs.Recency.{recent}
use Rattle.cache.specs.View.{blank, line_in, table_of}
use Rattle.cache.proofs.Lookup.{IsSetOf, lies, absent, slot_below}
use Rattle.cache.proofs.sets.Cache.find.Goals as goal

-- the line that was looked at
looked : (lines : List Line) (s way w : ℕ) (l : Line) → way ≡ w → l ≡ get_or lines (4 * s + way) l → 4 * s + w < length lines → l ≡ line_in lines s w
looked lines s way w l e is inside =
    let h : 4 * s + way < length lines = omega arith in
    get_or_read lines (4 * s + way) l h is blank ∙ ap (line_in lines s) e

pub returns-then-line-block : goal.returns-then-line-block
returns-then-line-block c =
    let self = c.args.self.now in
    let block = c.args.block in
    let s = c.set_of-set.result in
    let r = c.index.result.now in
    let p = c.loop-place.place in
    let h : p < length (recent r) = omega (arith, c.used-place-end.ensures) in
    let home : IsSetOf c.args.block self c.set_of-set.result c.index.result.now = record { is = c.set_of-set.ensures.is; inside = c.set_of-set.ensures.inside; order = c.index.ensures } in
    let line = looked (table_of self) s c.way.result (get_or (recent r) p 0) c.line.result.now c.way.ensures c.line.ensures (slot_below home p h) in
    subst (λ w. Lies block self p (4 * s + w)) (sym c.way.ensures)
    (lies home p h (sym (ap (λ (l : Line). l.block) line) ∙ c.if-line-block.true) c.loop-place.invariant)

pub returns : goal.returns
returns c =
    let home : IsSetOf c.args.block c.args.self.now c.set_of-set.result c.index.result.now = record { is = c.set_of-set.ensures.is; inside = c.set_of-set.ensures.inside; order = c.index.ensures } in
    absent home (λ i l. c.loop-place.invariant i (omega (arith, c.used-place-end.ensures)))
