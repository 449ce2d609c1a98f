use Rattle.std.proofs.Common.{◌^◌, ◌<◌, All, take}
use Rattle.std.specs.List.{flat_map}
use Rattle.programs.specs.ListedAccess.{numbers_of}
use Rattle.programs.proofs.list.holds_numbers.Given as goal

abbrev pub invariant-loop-access : goal.invariant-loop-access
invariant-loop-access l = All (λ n. n < 2 ^ 64) (flat_map numbers_of (take l.access-index l.accesses))
