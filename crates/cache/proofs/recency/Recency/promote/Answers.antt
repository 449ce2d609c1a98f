use Rattle.std.proofs.Common.{◌≡◌, ℕ, ◌<◌, take, sym, ap, ◌∙◌, arith}
use Rattle.cache.specs.Recency.{to_front}
use Rattle.cache.proofs.Order.{spread, take-to_front, length-recent}
use Rattle.cache.proofs.recency.Recency.promote.Goals as goal
use Rattle.cache.proofs.recency.Recency.promote.Goals.{in-0, in-1, in-2, in_default}

pub returns : goal.returns
returns c =
    let r = c.args.self.now in
    let place = c.args.place in
    let inside : place < r.used = omega (arith, c.requires, length-recent r) in
    let moved : (p : ℕ) → place ≡ p → c.match-place.self ≡ to_front p r.order → take r.used c.match-place.self ≡ to_front place (take r.used r.order) =
    λ p e h. ap (take r.used) (h ∙ ap (λ q. to_front q r.order) (sym e)) ∙ take-to_front r.used place r.order inside in
    elim c.match-place.branch [
      | in-0 w ↦ moved 0 (omega arith) (w.self-is ∙ sym (ap (to_front 0) (spread r.order r.four)))
      | in-1 w ↦ moved 1 (omega arith) (w.self-is ∙ sym (ap (to_front 1) (spread r.order r.four)))
      | in-2 w ↦ moved 2 (omega arith) (w.self-is ∙ sym (ap (to_front 2) (spread r.order r.four)))
      | in_default w ↦ moved 3 (omega (arith, r.few)) (w.self-is ∙ sym (ap (to_front 3) (spread r.order r.four)))
    ]
