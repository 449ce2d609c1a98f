use Rattle.std.proofs.Common.{◌/◌, ◌^◌, ◌++◌, sym, ap, ◌∙◌, arith, pow_mono}
use Rattle.std.proofs.Math.Nat.{div-lt_self}
use Rattle.std.proofs.lemmas.Nat.{shr_le}
use Rattle.codes.specs.Chunked.{groups}
use Rattle.codes.specs.ChunkedLaws.{short}
use Rattle.codes.proofs.Spelling.{following, opened, room_left, spelled_more}
use Rattle.codes.proofs.chunked.Chunked.spell.Goals as goal

pub loop-rest-init : goal.loop-rest-init
loop-rest-init c =
    let code = c.args.self.now in
    let n = c.from-rest.result in (
      ap (λ bits. bits ++ following code.later (n / 2 ^ code.first)) c.then-spelled.ensures
          ∙ sym (opened code.later code.first n code.first_least code.later_least (omega arith)) ∙ ap (groups 32 code.later code.first) c.from-rest.ensures,
      omega (arith, shr_le n code.first),
    )

pub then-spelled-requires-in-loop-rest-clause-fits : goal.then-spelled-requires-in-loop-rest-clause-fits
then-spelled-requires-in-loop-rest-clause-fits c =
    let code = c.args.self.now in
    let l = c.loop-rest in
    room_left code.later l.rest l.spelled _ c.loop-rest-test.true l.invariant.0 (short 31 code.later code.first c.args.number code.first_least (omega arith) code.later_least (omega arith) (omega arith))

pub loop-rest-smaller : goal.loop-rest-smaller
loop-rest-smaller c =
    div-lt_self c.loop-rest-test.true (omega (arith, pow_mono {i = 1} {j = c.args.self.now.later} (omega arith)))

pub loop-rest-preserved : goal.loop-rest-preserved
loop-rest-preserved c =
    let later = c.args.self.now.later in
    let l = c.loop-rest in (
      ap (λ bits. bits ++ following later (l.rest / 2 ^ later)) c.then-spelled-in-loop-rest.ensures
          ∙ spelled_more later l.rest l.spelled _ c.loop-rest-test.true l.invariant.0 (omega arith) l.invariant.1,
      omega (arith, shr_le l.rest later),
    )
