-- The chunked code: a number in groups of bits, lowest group first. Behind each group stands a connect bit,
-- which says whether another group follows.
use Rattle.std.specs.Prelude.{ℕ, zero, suc, ◌+◌, ◌*◌, ◌/◌, ◌^◌, Bool, false, ◌&&◌, List, [], ◌∷◌, ◌++◌, length, take, drop, Ok, Err, Result, ◌==◌, if◌then◌else◌, nat_le, nat_lt, slice_index_or}
use Rattle.rules.specs.Bits.{low_bits, value_of}
use Rattle.rules.specs.Meaning.{Meaning, Reading, number, cut, bad}
use Rattle.codes.specs.declared.refusal.MakeRefusal.{MakeRefusal}
use Rattle.codes.specs.declared.refusal.MakeRefusal.TheVariants.{OutOfRange}
use Rattle.codes.specs.Refusal.{between}

abbrev pub greatest : ℕ
greatest = 4294967295

-- whether bits of n above the w lowest are not all zero
abbrev pub more : ℕ → ℕ → Bool
more w n = nat_lt 0 (n / 2 ^ w)

-- A group of w bits, and then groups of `later` bits while there is more. A number has 32 bits and each group takes
-- one at least, so 32 turns are enough.
unfoldable pub groups : ℕ → ℕ → ℕ → ℕ → List Bool
groups zero later w n = []
groups (suc turns) later w n = low_bits w n ++ (more w n ∷ (if more w n then groups turns later later (n / 2 ^ w) else []))

-- How a reading goes on after a group of w bits and its connect bit. The value bits before the group are `seen`,
-- none before the first; `value` is the number up to and with this group, and `goes` the reading of what follows.
abbrev pub judged : Bool → ℕ → ℕ → ℕ → ℕ → ℕ → Reading → Reading
judged connect seen w group value used goes =
    if nat_lt greatest value then bad
    else (if connect then (if nat_le 32 (seen + w) then bad else goes)
    else (if nat_lt 0 seen && group == 0 then bad else number value used))

-- The reading of a group of w bits, and of groups of `later` bits after it. `value` is the number before this group,
-- from the `seen` value bits, and `used` counts the bits read so far. A 33rd group is never reached: with its 32nd
-- a number has 32 value bits or more.
unfoldable pub read_groups : ℕ → ℕ → ℕ → ℕ → ℕ → ℕ → List Bool → Reading
read_groups zero later w seen value used bs = bad
read_groups (suc turns) later w seen value used bs =
    let group = value_of (take w bs) in
    let reached = value + group * 2 ^ seen in
    let goes = read_groups turns later later (seen + w) reached (used + (w + 1)) (drop (w + 1) bs) in
    if nat_le (w + 1) (length bs) then judged (slice_index_or bs w false) seen w group reached (used + (w + 1)) goes
    else cut

abbrev pub chunked_meaning : ℕ → ℕ → Meaning
chunked_meaning first later = record {
  top = greatest;
  name = 1 ∷ first ∷ later ∷ [];
  bits = groups 32 later first;
  reading = read_groups 32 later first 0 0 0;
}

-- the group lengths of the code that is made
abbrev pub chunked_made : ℕ → ℕ → Result (ℕ × ℕ) MakeRefusal
chunked_made first later = if between 1 6 first && between 1 6 later then Ok (first, later) else Err OutOfRange
