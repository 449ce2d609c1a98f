use Rattle.std.proofs.Common.{◌≡◌, ◌≤◌, ◌++◌}
use Rattle.codes.specs.Chunked.{greatest, groups}
use Rattle.codes.proofs.Spelling.{following}
use Rattle.codes.proofs.chunked.Chunked.spell.Given as goal

abbrev pub invariant-loop-rest : goal.invariant-loop-rest
invariant-loop-rest l =
    (l.spelled ++ following l.self.later l.rest ≡ groups 32 l.self.later l.self.first l.number) × (l.rest ≤ greatest)

abbrev pub decreases-loop-rest : goal.decreases-loop-rest
decreases-loop-rest l = l.rest
