use Rattle.std.proofs.Common.{sym, ◌∙◌}
use Rattle.text.proofs.Marks.{no_lines_is}
use Rattle.text.proofs.lines.Lines.is_empty.Goals as goal

pub returns : goal.returns
returns c = c.is_empty.ensures ∙ sym (no_lines_is c.args.self.now.rest.now)
