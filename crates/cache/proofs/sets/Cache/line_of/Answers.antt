use Rattle.std.proofs.Common.{sym, ap, ◌∙◌}
use Rattle.std.specs.Option.{option_map}
use Rattle.rules.specs.Cache.{holds}
use Rattle.rules.proofs.Sets.{first_none}
use Rattle.cache.specs.Lookup.{block_set}
use Rattle.cache.specs.View.{blank}
use Rattle.cache.proofs.Operations.{found_line}
use Rattle.cache.proofs.sets.Cache.line_of.Goals as goal

pub returns : goal.returns
returns c = sym (found_line c.args.block c.args.self.now c.in_ok-found.found.place c.in_ok-found.found.slot c.line.result.now c.in_ok-found.ensures c.line.ensures)

pub returns-in_err-found : goal.returns-in_err-found
returns-in_err-found c = ap (option_map _) c.from_residual.ensures ∙ sym (first_none (holds c.args.block) (block_set c.args.block c.args.self.now) blank c.in_err-found.ensures)
