use Rattle.std.proofs.Common.{◌+◌, ap, ◌∙◌, arith, length, pow_mono}
use Rattle.rules.specs.Bits.{low_bits}
use Rattle.rules.proofs.Bits.{length-low_bits}
use Rattle.codes.proofs.Spelling.{put}
use Rattle.codes.proofs.chunked.Spelled.then.Goals as goal

pub overflow_shl-result : goal.overflow_shl-result
overflow_shl-result c = omega (arith, ap length c.self.view_is, length-low_bits c.self.inside.size c.self.inside.word)

pub overflow_add-result : goal.overflow_add-result
overflow_add-result c =
    let s = c.self.inside in
    let p = put s.word s.size c.args.width c.args.number _ _ c.args.self c.self.view_is c.self.invariant c.requires.narrow c.requires.fits c.lowest.ensures c.from.ensures in
    record { fits = omega (arith, p.is, p.below, pow_mono {i = s.size + c.args.width + 1} {j = 64} (omega (arith, p.fits))) }

pub overflow_add-result-2 : goal.overflow_add-result-2
overflow_add-result-2 c = record { fits = omega (arith, ap length c.self.view_is, length-low_bits c.self.inside.size c.self.inside.word) }

pub overflow_add-result-3 : goal.overflow_add-result-3
overflow_add-result-3 c = record { fits = omega (arith, ap length c.self.view_is, length-low_bits c.self.inside.size c.self.inside.word) }

pub invariant_of-result : goal.invariant_of-result
invariant_of-result c =
    let s = c.self.inside in
    let p = put s.word s.size c.args.width c.args.number _ _ c.args.self c.self.view_is c.self.invariant c.requires.narrow c.requires.fits c.lowest.ensures c.from.ensures in
    omega (arith, p.is, p.below)

pub returns : goal.returns
returns c =
    let s = c.self.inside in
    let p = put s.word s.size c.args.width c.args.number _ _ c.args.self c.self.view_is c.self.invariant c.requires.narrow c.requires.fits c.lowest.ensures c.from.ensures in
    ap (λ x. low_bits (s.size + c.args.width + 1) (s.word + x)) p.is ∙ p.bits
