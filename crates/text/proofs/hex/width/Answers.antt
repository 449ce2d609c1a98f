use Rattle.std.proofs.Common.{suc, ◌*◌, ◌/◌, ◌^◌, ◌<◌, ◌≤◌, max, arith, pow_mono}
use native.Mathlib.Nat.{pow-succ'}
use Rattle.text.proofs.Digits.{sixteen, width_is}
use Rattle.text.proofs.hex.width.Goals as goal

-- a digit has four bits
pub returns : goal.returns
returns c =
    let n = c.args.value in
    let bits = c.ilog2.result in
    let k = bits / 4 in
    let least : 16 ^ k ≤ max n 1 = omega (arith, sixteen k, pow_mono {i = 4 * k} {j = bits} (omega arith), c.max.ensures, c.ilog2.ensures.power_le) in
    let above : 2 ^ suc bits ≤ 2 ^ (4 * suc k) = pow_mono (omega arith) in
    let high : n < 16 * 16 ^ k = omega (arith, sixteen (suc k), pow-succ' 16 k, above, pow-succ' 2 bits, c.max.ensures, c.ilog2.ensures.next_power_gt) in
    width_is 15 n k (omega arith) least high
