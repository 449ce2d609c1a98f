use Rattle.std.proofs.Common.{◌≡◌, [], vec_items}
use Rattle.text.specs.Views.{cursors_left}
use Rattle.counts.specs.Request.{counts_asked}
use Rattle.counts.proofs.request.counts_asked.Given as goal

abbrev pub invariant-loop-words : goal.invariant-loop-words
invariant-loop-words l =
    (goal.iterator-loop-words).can_next l.words-iterator
    × (goal.iterator-loop-words).is_finite l.words-iterator
    × (counts_asked (vec_items l.counts) (cursors_left l.words-iterator) ≡ counts_asked [] (cursors_left l.lines))
