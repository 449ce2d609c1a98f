use Rattle.std.proofs.Common.{◌≤◌, min, sym, ◌∙◌, arith, pow_mono}
use Rattle.codes.proofs.Words.{taken_below}
use Rattle.codes.proofs.fixed.FixedCountCode.read.Goals as goal

pub overflow_cast-number : goal.overflow_cast-number
overflow_cast-number c =
    let w = c.args.self.now.width in
    let few : min w 64 ≤ 32 = omega arith in
    let below = taken_below _ (min w 64) _ _ (sym c.take.ensures.answer ∙ c.in_ok-number.was) in
    record { fits = omega (arith, below, pow_mono {i = min w 64} {j = 32} few) }
