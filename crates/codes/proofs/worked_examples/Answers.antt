use Rattle.std.proofs.Common.{refl}
use Rattle.codes.specs.Chunked.{groups, read_groups}
use Rattle.codes.proofs.worked_examples.Goals as goal

pub returns-clause-hold : goal.returns-clause-hold
unfolding groups read_groups
returns-clause-hold c = refl
