-- One group of a reading, taken with its connect bit as one word.
use Rattle.std.specs.Prelude.{◌≡◌, ℕ, zero, suc, ◌+◌, ◌-◌, ◌*◌, ◌/◌, ◌%◌, ◌^◌, ◌<◌, ◌≤◌, Bool, true, false, cond, ◌&&◌, ◌⊎◌, List, length, take, drop, ◌==◌, ◌≢◌, nat_le, nat_lt, slice_index_or, refl}
use Rattle.std.proofs.Common.{inl, inr, ◌∙◌, arith, length-take-le}
use Rattle.std.proofs.Math.Path.{sym, ap, ap₂}
use Rattle.std.proofs.lemmas.Nat.{mod_low, shr_high}
use Rattle.std.proofs.lemmas.Bool.{cond-true, cond-false, le-leb, lt-ltb, le-ltb, cases_lt, and_from, eq-eqb}
use Rattle.std.proofs.lemmas.List.{take_more}
use Rattle.rules.specs.Bits.{bit, value_of}
use Rattle.rules.specs.Meaning.{Reading, number, cut, bad}
use Rattle.rules.proofs.Bits.{value_of_push, value_of-take_below}
use Rattle.codes.specs.Chunked.{greatest, judged, read_groups}
use Rattle.codes.specs.ChunkedLaws.{either, judged-more, judged_last}

pub no_turns : (turns later w seen value used : ℕ) (bs : List Bool) → turns ≡ 0 → read_groups turns later w seen value used bs ≡ bad
unfolding read_groups
no_turns turns later w seen value used bs e = ap (λ t. read_groups t later w seen value used bs) e

-- what follows a group counts only where fewer than 32 value bits were seen
judged_same : (connect : Bool) (seen w group value used : ℕ) (x y : Reading) → (seen + w < 32 → x ≡ y) → judged connect seen w group value used x ≡ judged connect seen w group value used y
judged_same connect seen w group value used x y same = go (cases_lt (seen + w) 32)
  where
    by : Bool → Reading → Reading
    by full goes = cond (nat_lt greatest value) bad (cond connect (cond full bad goes) (cond (nat_lt 0 seen && group == 0) bad (number value used)))

    go : (seen + w < 32) ⊎ (32 ≤ seen + w) → judged connect seen w group value used x ≡ judged connect seen w group value used y
    go (inl l) = ap (judged connect seen w group value used) (same l)
    go (inr l) = let full = le-leb 32 (seen + w) l in ap (λ b. by b x) full ∙ sym (ap (λ b. by b y) full)

-- turns above those that 32 value bits can take change no reading
turns_same : (s t later w seen value used : ℕ) (bs : List Bool) → 1 ≤ w → 1 ≤ later → seen < 32 → 32 ≤ s + seen → 32 ≤ t + seen
    → read_groups s later w seen value used bs ≡ read_groups t later w seen value used bs
unfolding read_groups
turns_same zero t later w seen value used bs lw ll few hs ht = absurd (omega arith)
turns_same (suc s) zero later w seen value used bs lw ll few hs ht = absurd (omega arith)
turns_same (suc s) (suc t) later w seen value used bs lw ll few hs ht =
    let reached = value + value_of (take w bs) * 2 ^ seen in
    ap (λ r. cond (nat_le (w + 1) (length bs)) r cut)
    (judged_same (slice_index_or bs w false) seen w (value_of (take w bs)) reached (used + (w + 1)) _ _
    (λ l. turns_same s t later later (seen + w) reached (used + (w + 1)) (drop (w + 1) bs) ll ll l (omega arith) (omega arith)))

-- A group and its connect bit, taken as one word: where the reading then stands.
module _ (turns later w seen value used word : ℕ) (bs : List Bool) (enough : w + 1 ≤ length bs) (is : word ≡ value_of (take (w + 1) bs)) where
  word_parts : word ≡ bit (slice_index_or bs w false) * 2 ^ w + value_of (take w bs)
  word_parts =
      is ∙ ap value_of (take_more bs w false (omega arith)) ∙ value_of_push (take w bs) (slice_index_or bs w false)
      ∙ ap (λ n. value_of (take w bs) + bit (slice_index_or bs w false) * 2 ^ n) (length-take-le w bs (omega arith)) ∙ omega arith

  front_below : value_of (take w bs) < 2 ^ w
  front_below = value_of-take_below w bs (omega arith)

  group_is : word % 2 ^ w ≡ value_of (take w bs)
  group_is = ap (λ n. n % 2 ^ w) word_parts ∙ mod_low (bit (slice_index_or bs w false)) w (value_of (take w bs)) front_below

  connect_is : word / 2 ^ w ≡ bit (slice_index_or bs w false)
  connect_is = ap (λ n. n / 2 ^ w) word_parts ∙ shr_high (bit (slice_index_or bs w false)) w (value_of (take w bs)) front_below

  -- the reading after the group, by its connect bit
  abbrev on : Bool → Reading
  on b =
      judged b seen w (word % 2 ^ w) (value + (word % 2 ^ w) * 2 ^ seen) (used + (w + 1))
      (read_groups turns later later (seen + w) (value + (word % 2 ^ w) * 2 ^ seen) (used + (w + 1)) (drop (w + 1) bs))

  stands : (b : Bool) → slice_index_or bs w false ≡ b → read_groups (suc turns) later w seen value used bs ≡ on b
  unfolding read_groups
  stands b e =
      cond-true (nat_le (w + 1) (length bs)) _ _ (le-leb (w + 1) (length bs) enough)
      ∙ ap₂ (λ c g. judged c seen w g (value + g * 2 ^ seen) (used + (w + 1)) (read_groups turns later later (seen + w) (value + g * 2 ^ seen) (used + (w + 1)) (drop (w + 1) bs))) e (sym group_is)

  last_group : word / 2 ^ w ≡ 0 → slice_index_or bs w false ≡ false
  last_group e = either (slice_index_or bs w false) (λ t. absurd (omega (arith, connect_is, ap bit t))) (λ t. t)

  not_last : (word / 2 ^ w ≢ 0) → slice_index_or bs w false ≡ true
  not_last ne = either (slice_index_or bs w false) (λ t. t) (λ t. absurd (ne (connect_is ∙ ap bit t)))

  pub too_large : greatest < value + (word % 2 ^ w) * 2 ^ seen → read_groups (suc turns) later w seen value used bs ≡ bad
  too_large h = stands (slice_index_or bs w false) refl ∙ cond-true (nat_lt greatest (value + (word % 2 ^ w) * 2 ^ seen)) _ _ (lt-ltb greatest _ h)

  module _ (fits : value + (word % 2 ^ w) * 2 ^ seen ≤ greatest) where
    pub zero_group : word / 2 ^ w ≡ 0 → 0 < seen → word % 2 ^ w ≡ 0 → read_groups (suc turns) later w seen value used bs ≡ bad
    zero_group e l z =
        stands false (last_group e) ∙ cond-false (nat_lt greatest (value + (word % 2 ^ w) * 2 ^ seen)) _ _ (le-ltb greatest _ fits)
        ∙ cond-true (nat_lt 0 seen && word % 2 ^ w == 0) _ _ (and_from (nat_lt 0 seen) (word % 2 ^ w == 0) (lt-ltb 0 seen l) (eq-eqb (word % 2 ^ w) 0 z))

    pub last_read : word / 2 ^ w ≡ 0 → (0 < seen → 0 < word % 2 ^ w) → read_groups (suc turns) later w seen value used bs ≡ number (value + (word % 2 ^ w) * 2 ^ seen) (used + (w + 1))
    last_read e live = stands false (last_group e) ∙ judged_last seen w (word % 2 ^ w) (value + (word % 2 ^ w) * 2 ^ seen) (used + (w + 1)) (read_groups turns later later (seen + w) (value + (word % 2 ^ w) * 2 ^ seen) (used + (w + 1)) (drop (w + 1) bs)) fits live

    pub too_long : (word / 2 ^ w ≢ 0) → 32 ≤ seen + w → read_groups (suc turns) later w seen value used bs ≡ bad
    too_long ne l =
        stands true (not_last ne) ∙ cond-false (nat_lt greatest (value + (word % 2 ^ w) * 2 ^ seen)) _ _ (le-ltb greatest _ fits)
        ∙ cond-true (nat_le 32 (seen + w)) _ _ (le-leb 32 (seen + w) l)

    pub goes_on : (word / 2 ^ w ≢ 0) → seen + w < 32 → read_groups (suc turns) later w seen value used bs ≡ read_groups turns later later (seen + w) (value + (word % 2 ^ w) * 2 ^ seen) (used + (w + 1)) (drop (w + 1) bs)
    goes_on ne l = stands true (not_last ne) ∙ judged-more seen w (word % 2 ^ w) _ (used + (w + 1)) _ fits l

    -- the same, in the turns that the value bits leave
    pub reads_on : suc turns ≡ 32 - seen → 1 ≤ w → 1 ≤ later → (word / 2 ^ w ≢ 0) → read_groups (suc turns) later w seen value used bs ≡ read_groups (32 - (seen + w)) later later (seen + w) (value + (word % 2 ^ w) * 2 ^ seen) (used + (w + 1)) (drop (w + 1) bs)
    reads_on left lw ll ne = go (cases_lt (seen + w) 32)
      where
        go : (seen + w < 32) ⊎ (32 ≤ seen + w) → read_groups (suc turns) later w seen value used bs ≡ read_groups (32 - (seen + w)) later later (seen + w) (value + (word % 2 ^ w) * 2 ^ seen) (used + (w + 1)) (drop (w + 1) bs)
        go (inl l) = goes_on ne l ∙ turns_same turns (32 - (seen + w)) later later (seen + w) _ _ _ ll ll l (omega arith) (omega arith)
        go (inr l) = too_long ne l ∙ sym (no_turns (32 - (seen + w)) later later (seen + w) _ _ _ (omega arith))
