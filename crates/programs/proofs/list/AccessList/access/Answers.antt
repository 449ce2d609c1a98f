use Rattle.std.proofs.Common.{◌≡◌, get_or, vec_items, ◌∙◌, arith}
use Rattle.std.proofs.lemmas.Grind.{common_steps}
use Rattle.programs.proofs.Numbers.{past, access_is}
use Rattle.programs.proofs.list.AccessList.access.Goals as goal

pub returns-clause-value : goal.returns-clause-value
returns-clause-value c =
    let p = c.args.self.now in
    let read : c.unwrap_or.result ≡ get_or (vec_items p.accesses) p.place past = grind (arith, common_steps) in
    read ∙ access_is p.place p.last (vec_items p.accesses)
