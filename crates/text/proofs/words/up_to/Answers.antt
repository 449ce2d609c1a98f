use Rattle.std.proofs.Common.{sym, ◌∙◌}
use Rattle.text.proofs.Marks.{up_to_found, up_to_whole}
use Rattle.text.proofs.words.up_to.Goals as goal

pub returns-in-Some : goal.returns-in-Some
returns-in-Some c = up_to_found c.args.mark c.args.bytes.now c.in-Some.end (sym c.position_of.ensures ∙ c.in-Some.is)

pub returns-in-None : goal.returns-in-None
returns-in-None c = up_to_whole c.args.mark c.args.bytes.now (sym c.position_of.ensures ∙ c.in-None.is)
