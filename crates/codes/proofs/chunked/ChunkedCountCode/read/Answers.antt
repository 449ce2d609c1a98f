use Rattle.std.proofs.Common.{◌≡◌, ℕ, suc, ◌+◌, ◌-◌, ◌*◌, ◌%◌, ◌^◌, ◌<◌, ◌≤◌, min, Bool, List, drop, Ok, Err, sym, ap, ◌∙◌, ap₂, arith, pow_pos, pow_mono}
use Rattle.std.proofs.lemmas.Nat.{shl_whole, mod_below}
use Rattle.std.proofs.lemmas.Result.{err_from_is_err_and}
use Rattle.rules.specs.Bits.{bits_in}
use Rattle.rules.specs.Calls.{answer_of}
use Rattle.rules.specs.Meaning.{Reading, bad}
use Rattle.rules.specs.declared.count.CountFault.TheVariants.{Cut}
use Rattle.rules.specs.declared.count.BytesEnd.{BytesEnd}
use Rattle.rules.specs.declared.count.Counted.{Counted}
use Rattle.codes.specs.Chunked.{greatest, read_groups}
use Rattle.codes.specs.Reader.{bits_left}
use Rattle.codes.specs.ChunkedLaws.{read_short}
use Rattle.codes.proofs.Reading.{no_turns, too_large, zero_group, last_read, reads_on}
use Rattle.codes.proofs.Words.{Took, took, not_taken}
use Rattle.codes.proofs.chunked.ChunkedCountCode.read.Goals as goal
use Rattle.codes.proofs.chunked.ChunkedCountCode.read.Goals.{After-lowest-group}

-- a group fits above the bits seen
shifted : (word group w seen : ℕ) → w ≤ 6 → seen < 32 → group ≡ word % 2 ^ w → (group * 2 ^ seen) % 2 ^ 64 ≡ (word % 2 ^ w) * 2 ^ seen
shifted word group w seen mw few is =
    let below : word % 2 ^ w < 2 ^ 6 = omega (arith, mod_below word (2 ^ w) (pow_pos w), pow_mono {i = w} {j = 6} mw) in
    ap (λ g. (g * 2 ^ seen) % 2 ^ 64) is ∙ shl_whole (word % 2 ^ w) 6 seen 64 below (omega arith)

-- the invariant, at a turn that there is
left : (later width seen value used : ℕ) (bits : List Bool) (all : Reading) → seen < 32 → read_groups (32 - seen) later width seen value used bits ≡ all → read_groups (suc (31 - seen)) later width seen value used bits ≡ all
left later width seen value used bits all few inv =
    let same : suc (31 - seen) ≡ 32 - seen = omega arith in ap (λ t. read_groups t later width seen value used bits) same ∙ inv

-- the reading from this turn on, and the whole of it
abbrev ahead : After-lowest-group → Reading
ahead c =
    read_groups (suc (31 - c.loop-seen.seen)) c.args.self.now.later c.loop-seen.width c.loop-seen.seen c.loop-seen.value (c.loop-seen.reader.place - c.args.place) (bits_left c.loop-seen.reader)

abbrev whole : After-lowest-group → Reading
whole c = read_groups 32 c.args.self.now.later c.args.self.now.first 0 0 0 (drop c.args.place (bits_in c.args.bytes.now))

-- what one turn knows
record Turn (c : After-lowest-group) : Type 0 where
  taken : Took c.loop-seen.reader c.take.new.self (c.loop-seen.width + 1) c.in_ok-word.word
  here : ahead c ≡ whole c
  raised : (c.lowest-group.result * 2 ^ c.loop-seen.seen) % 2 ^ 64 ≡ (c.in_ok-word.word % 2 ^ c.loop-seen.width) * 2 ^ c.loop-seen.seen

turn : (c : After-lowest-group) → Turn c
turn c = record {
  taken = took c.loop-seen.reader c.take.new.self (c.loop-seen.width + 1) c.in_ok-word.word c.take.result (omega arith) c.take.ensures.answer c.take.ensures.after c.in_ok-word.was;
  here = left c.args.self.now.later c.loop-seen.width c.loop-seen.seen c.loop-seen.value _ (bits_left c.loop-seen.reader) _ c.loop-seen-test.true c.loop-seen.invariant.reads;
  raised = shifted c.in_ok-word.word c.lowest-group.result c.loop-seen.width c.loop-seen.seen (omega arith) (omega arith) c.lowest-group.ensures;
}

told : (c : After-lowest-group) (r : Reading) → ahead c ≡ r → answer_of c.args.place r ≡ answer_of c.args.place (whole c)
told c r is = ap (answer_of c.args.place) (sym is ∙ (turn c).here)

pub returns-in_err-word : goal.returns-in_err-word
returns-in_err-word c =
    let l = c.loop-seen in
    let w = l.width in
    let all : min (w + 1) 64 ≡ w + 1 = omega arith in
    let p = err_from_is_err_and c.from_residual.result c.from_residual.ensures.1 in
    let none = not_taken l.reader.from (min (w + 1) 64) (bits_left l.reader) _ (sym c.take.ensures.answer ∙ c.in_err-word.was) in
    let here = left c.args.self.now.later w l.seen l.value _ (bits_left l.reader) _ c.loop-seen-test.true l.invariant.reads in
    let ends = sym here ∙ read_short (31 - l.seen) c.args.self.now.later w l.seen l.value _ (bits_left l.reader) (omega (arith, none.0, all)) in
    p.1 ∙ ap Err (p.2 ∙ ap Cut (none.1 ∙ ap (λ k. let x : BytesEnd = record { from = k } in x) l.invariant.from)) ∙ sym (ap (answer_of c.args.place) ends)

pub returns-then-value-from : goal.returns-then-value-from
returns-then-value-from c =
    let a = (goal.at.returns-then-value-from c).After-lowest-group in
    let t = turn a in
    let l = c.loop-seen in
    told a bad (too_large (31 - l.seen) c.args.self.now.later l.width l.seen l.value (l.reader.place - c.args.place) c.in_ok-word.word (bits_left l.reader) t.taken.enough t.taken.value_is (omega (arith, t.raised, c.from.ensures, c.if-value-from.true)))

pub returns-then-group-eq0 : goal.returns-then-group-eq0
returns-then-group-eq0 c =
    let a = (goal.at.returns-then-group-eq0 c).After-lowest-group in
    let t = turn a in
    let l = c.loop-seen in
    told a bad
    (zero_group (31 - l.seen) c.args.self.now.later l.width l.seen l.value (l.reader.place - c.args.place) c.in_ok-word.word (bits_left l.reader) t.taken.enough t.taken.value_is
    (omega (arith, t.raised, c.from.ensures, c.if-value-from.false)) c.if-word-width-eq0.true c.if-seen-gt0.true (sym c.lowest-group.ensures ∙ c.if-group-eq0.true))

pub returns-then-word-width-eq0 : goal.returns-then-word-width-eq0
returns-then-word-width-eq0 c =
    let a = (goal.at.returns-then-word-width-eq0 c).After-lowest-group in
    let t = turn a in
    let l = c.loop-seen in
    let used = l.reader.place - c.args.place in
    let is = last_read (31 - l.seen) c.args.self.now.later l.width l.seen l.value used c.in_ok-word.word (bits_left l.reader) t.taken.enough t.taken.value_is
    (omega (arith, t.raised, c.from.ensures, c.if-value-from.false)) c.if-word-width-eq0.true (λ h. omega (arith, h, c.else-seen-gt0.either, c.lowest-group.ensures)) in
    let next : c.place.result ≡ c.args.place + (used + (l.width + 1)) = omega (arith, c.place.ensures, t.taken.place_is) in
    ap₂ (λ n p. let x : Counted = record { number = n; next = p } in Ok x) (ap (λ g. l.value + g) t.raised) next ∙ told a _ is

pub loop-seen-preserved : goal.loop-seen-preserved
loop-seen-preserved c =
    let t = turn (goal.at.loop-seen-preserved c).After-lowest-group in
    let l = c.loop-seen in
    let code = c.args.self.now in
    let used = l.reader.place - c.args.place in
    let fits : l.value + (c.in_ok-word.word % 2 ^ l.width) * 2 ^ l.seen ≤ greatest = omega (arith, t.raised, c.from.ensures, c.if-value-from.false) in
    let is = reads_on (31 - l.seen) code.later l.width l.seen l.value used c.in_ok-word.word (bits_left l.reader) t.taken.enough t.taken.value_is fits (omega arith) l.invariant.some code.later_least c.if-word-width-eq0.false in
    let taken : c.take.new.self.place - c.args.place ≡ used + (l.width + 1) = omega (arith, t.taken.place_is) in
    record {
      reads = (λ i. read_groups (32 - (l.seen + l.width)) code.later code.later (l.seen + l.width) (l.value + t.raised i) (taken i) (t.taken.left_is i)) ∙ sym is ∙ t.here;
      from = t.taken.from_is ∙ l.invariant.from;
      past = omega (arith, t.taken.place_is);
      some = omega arith;
      narrow = omega arith;
      fits = omega (arith, t.raised, fits);
    }

pub returns : goal.returns
returns c =
    let l = c.loop-seen in
    let is = no_turns (32 - l.seen) c.args.self.now.later l.width l.seen l.value _ (bits_left l.reader) (omega arith) in
    sym (ap (answer_of c.args.place) (sym l.invariant.reads ∙ is))
