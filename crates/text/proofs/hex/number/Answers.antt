use Rattle.std.proofs.Common.{◌≤◌, length, arith, rules}
use Rattle.text.proofs.Digits.{digits_fit}
use Rattle.text.proofs.hex.number.Goals as goal

pub overflow_mul-value : goal.overflow_mul-value
overflow_mul-value c =
    let few : length c.args.word.now ≤ 16 = search rules in
    record { fits = omega (arith, digits_fit c.loop-c.value 0 c.loop-c.c-index c.loop-c.invariant.1 (omega arith) (omega (arith, few))) }

pub overflow_add-value : goal.overflow_add-value
overflow_add-value c =
    let few : length c.args.word.now ≤ 16 = search rules in
    record { fits = digits_fit c.loop-c.value c.in_ok-value.field-0 c.loop-c.c-index c.loop-c.invariant.1 (search rules) (omega (arith, few)) }
