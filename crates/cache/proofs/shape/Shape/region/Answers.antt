use Rattle.std.proofs.Common.{◌≡◌, ℕ, ◌+◌, ◌*◌, ◌/◌, ap₂, arith}
use Rattle.rules.specs.Cache.{region_size}
use Rattle.rules.proofs.Flags.{granule_size, region_fits}
use Rattle.cache.proofs.shape.Shape.region.Goals as goal

pub invariant_of-result-clause-inside : goal.invariant_of-result-clause-inside
invariant_of-result-clause-inside c =
    let k = c.args.self.settings in
    let a = c.args.access in
    let granuled = granule_size k c.args.self.proper in
    let size_is : c.region_size-size.result ≡ region_size k a.size = c.region_size-size.ensures in
    let same = ap₂ (λ (o n : ℕ). o / n * n + n) c.stretch-offset.ensures.from size_is in
    omega (arith, same, region_fits k a.address a.size a.sized granuled)
