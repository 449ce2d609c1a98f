use Rattle.std.proofs.Common.{◌≡◌, ◌+◌, length, drop, sym, refl, ap, Bor, ◌∙◌, rules}
use Rattle.std.specs.Prelude.{List, ◌∷◌, ℕ}
use Rattle.text.specs.Lines.{up_to, lines_of, after_first}
use Rattle.text.proofs.Marks.{lines_are, left_after}
use Rattle.text.proofs.lines.Lines.next_line.Goals as goal

-- the text begins with a line
split : (c : goal.After-new-2) → lines_of c.args.self.now.rest.now ≡ up_to 10 c.args.self.now.rest.now ∷ lines_of (drop (length (up_to 10 c.args.self.now.rest.now) + 1) c.args.self.now.rest.now)
split c = lines_are c.args.self.now.rest.now (search rules)

pub returns-clause-answer : goal.returns-clause-answer
returns-clause-answer c = search (rules, split c)

pub returns-clause-lines : goal.returns-clause-lines
returns-clause-lines c =
    let rest : c.unwrap_or-self.result.now ≡ drop (length c.up_to-line.result.now + 1) c.args.self.now.rest.now = ap (λ (b : Bor (List ℕ)). b.now) c.unwrap_or-self.ensures ∙ left_after c.args.self.now.rest.now _ c.get.result _ refl c.get.ensures.lookup in
    ap lines_of (rest ∙ ap (λ l. drop (length l + 1) c.args.self.now.rest.now) c.up_to-line.ensures) ∙ sym (ap after_first (split c))

pub returns-clause-given : goal.returns-clause-given
returns-clause-given c = search (rules, split c)
