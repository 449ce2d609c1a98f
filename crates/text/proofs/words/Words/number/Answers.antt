use Rattle.std.proofs.Common.{rules}
use Rattle.text.proofs.Marks.{word_inside}
use Rattle.text.proofs.words.Words.number.Goals as goal

pub invariant_of-self-clause-inside : goal.invariant_of-self-clause-inside
invariant_of-self-clause-inside c = search (rules, word_inside)
