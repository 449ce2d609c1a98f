-- The chunked code keeps the laws.
use Rattle.std.specs.Prelude.{◌≡◌, ℕ, zero, suc, ◌+◌, ◌-◌, ◌*◌, ◌/◌, ◌%◌, ◌^◌, ◌<◌, ◌≤◌, Bool, true, false, ◌&&◌, ◌⊎◌, List, [], ◌∷◌, ◌++◌, length, take, drop, ◌==◌, ◌≢◌, if◌then◌else◌, nat_le, nat_lt, slice_index_or, refl}
use mathlib.Core.List.{append_assoc}
use Rattle.std.proofs.Common.{inl, inr, subst, ◌∙◌, div-add-mod', mul-le-mul_right, arith, length-take, take-append-drop, pow_mono, pow-add, drop-drop, length-take-le, drop_at}
use Rattle.std.proofs.Math.Path.{sym, ap, ap₂}
use Rattle.std.proofs.Math.ListN.{length-append}
use Rattle.std.proofs.Math.Seq.{take_at, get_or_at, take-append-add}
use Rattle.std.proofs.lemmas.Nat.{shr_below, shr_high, shr_le}
use Rattle.std.proofs.lemmas.Bool.{cond-true, cond-false, le-leb, lt-leb, leb-true, leb-false, lt-ltb, le-ltb, ltb-true, ltb-false, eqb-false, ne_eqb, cases_lt, and_left, and_right, and_cases}
use Rattle.std.proofs.lemmas.List.{drop_more}
use Rattle.rules.specs.Bits.{low_bits, value_of}
use Rattle.rules.specs.Meaning.{Reading, number, cut, bad, Begins, Sound}
use Rattle.rules.proofs.Bits.{length-low_bits, low_bits-value_of, value_of-low_bits, value_of_below, low_bits_low}
use Rattle.codes.specs.Chunked.{greatest, more, groups, judged, read_groups, chunked_meaning}

pub either : {P : Type 0} (b : Bool) → (b ≡ true → P) → (b ≡ false → P) → P
either true yes_way no_way = yes_way refl
either false yes_way no_way = no_way refl

-- a number from its lowest w bits and the rest, at the place `seen`
joined_value : (n w seen : ℕ) → (n % 2 ^ w) * 2 ^ seen + (n / 2 ^ w) * 2 ^ (seen + w) ≡ n * 2 ^ seen
joined_value n w seen =
    omega (arith, ap (λ x. x * 2 ^ seen) (div-add-mod' n (2 ^ w)), ap (λ x. (n / 2 ^ w) * x) (pow-add 2 seen w))

-- the reading from a group on, by the group, its connect bit and what follows them
abbrev after : ℕ → ℕ → ℕ → ℕ → ℕ → ℕ → List Bool → Bool → List Bool → Reading
after turns later w seen value used group connect rest =
    let reached = value + value_of group * 2 ^ seen in
    judged connect seen w (value_of group) reached (used + (w + 1)) (read_groups turns later later (seen + w) reached (used + (w + 1)) rest)

module _ (turns later w seen value used : ℕ) where
  read_group : (group : List Bool) (connect : Bool) (rest : List Bool) → length group ≡ w
      → read_groups (suc turns) later w seen value used (group ++ (connect ∷ rest)) ≡ after turns later w seen value used group connect rest
  unfolding read_groups
  read_group group connect rest long =
      let bs = group ++ (connect ∷ rest) in
      let enough : w + 1 ≤ length bs = omega (arith, length-append group (connect ∷ rest)) in
      let front : take w bs ≡ group = take_at group (connect ∷ rest) w long in
      let link : slice_index_or bs w false ≡ connect = get_or_at group connect rest false w long in
      let back : drop (w + 1) bs ≡ rest = sym (drop-drop 1 w bs) ∙ ap (drop 1) (drop_at group (connect ∷ rest) w long) in
      cond-true (nat_le (w + 1) (length bs)) _ _ (le-leb (w + 1) (length bs) enough) ∙ (λ i. after turns later w seen value used (front i) (link i) (back i))

  pub read_short : (bs : List Bool) → length bs < w + 1 → read_groups (suc turns) later w seen value used bs ≡ cut
  unfolding read_groups
  read_short bs few = cond-false (nat_le (w + 1) (length bs)) _ _ (lt-leb (w + 1) (length bs) few)

-- the number goes on, or ends with this group
module _ (seen w group value used : ℕ) (goes : Reading) (fits : value ≤ greatest) where
  pub judged-more : seen + w < 32 → judged true seen w group value used goes ≡ goes
  judged-more few =
      cond-false (nat_lt greatest value) _ _ (le-ltb greatest value fits) ∙ cond-false (nat_le 32 (seen + w)) _ _ (lt-leb 32 (seen + w) few)

  pub judged_last : (0 < seen → 0 < group) → judged false seen w group value used goes ≡ number value used
  judged_last live =
      cond-false (nat_lt greatest value) _ _ (le-ltb greatest value fits) ∙ cond-false (nat_lt 0 seen && group == 0) _ _ (go (cases_lt 0 seen))
    where
      go : (0 < seen) ⊎ (seen ≤ 0) → (nat_lt 0 seen && group == 0) ≡ false
      go (inl h) = and_right (nat_lt 0 seen) (group == 0) (ne_eqb group 0 (λ e. let l = live h in omega arith))
      go (inr h) = and_left (nat_lt 0 seen) (group == 0) (le-ltb 0 seen h)

-- what the parts of n come to: the reading reaches n at the last group
module _ (n w seen value : ℕ) (fits : value + n * 2 ^ seen ≤ greatest) where
  reached_fits : value + (n % 2 ^ w) * 2 ^ seen ≤ greatest
  reached_fits = omega (arith, fits, joined_value n w seen)

  goes_on_fits : value + (n % 2 ^ w) * 2 ^ seen + (n / 2 ^ w) * 2 ^ (seen + w) ≤ greatest
  goes_on_fits = omega (arith, fits, joined_value n w seen)

  -- with higher bits left, fewer than 32 were read
  few_seen : 0 < n / 2 ^ w → seen + w < 32
  few_seen h = go (cases_lt (seen + w) 32)
    where
      go : (seen + w < 32) ⊎ (32 ≤ seen + w) → seen + w < 32
      go (inl l) = l
      go (inr l) =
          let one : 1 * 2 ^ (seen + w) ≤ (n / 2 ^ w) * 2 ^ (seen + w) = mul-le-mul_right (2 ^ (seen + w)) h in
          absurd (omega (arith, goes_on_fits, one, pow_mono {i = 32} {j = seen + w} l))

-- one group of n
module _ (turns later w n : ℕ) where
  -- what follows the first group and its connect bit
  abbrev pub tail : Bool → List Bool
  tail b = if b then groups turns later later (n / 2 ^ w) else []

  pub length-groups : (b : Bool) → more w n ≡ b → length (groups (suc turns) later w n) ≡ w + 1 + length (tail b)
  unfolding groups
  length-groups b e =
      length-append (low_bits w n) (more w n ∷ tail (more w n)) ∙ omega (arith, length-low_bits w n, ap (λ b. length (tail b)) e)

  pub fewer : 1 ≤ w → n < 2 ^ suc turns → n / 2 ^ w < 2 ^ turns
  fewer lw small = shr_below n turns w (omega (arith, pow_mono {i = suc turns} {j = turns + w} (omega arith)))

  pub turns_left : 1 ≤ w → n < 2 ^ suc turns → 0 < n / 2 ^ w → 0 < turns
  turns_left lw small h = go turns (fewer lw small)
    where
      go : (t : ℕ) → n / 2 ^ w < 2 ^ t → 0 < t
      go zero l = absurd (omega arith)
      go (suc t) l = omega arith

-- the bits of n are the rest of a number of which `value` was read
record Rest (turns later w n seen value : ℕ) : Type 0 where
  group : 1 ≤ w
  group_later : 1 ≤ later
  some : 0 < turns
  small : n < 2 ^ turns
  fits : value + n * 2 ^ seen ≤ greatest
  live : 0 < seen → 0 < n

next : (turns later w n seen value : ℕ) → Rest (suc turns) later w n seen value → 0 < n / 2 ^ w → Rest turns later later (n / 2 ^ w) (seen + w) (value + (n % 2 ^ w) * 2 ^ seen)
next turns later w n seen value r h = record {
  group = r.group_later;
  group_later = r.group_later;
  some = turns_left turns later w n r.group r.small h;
  small = fewer turns later w n r.group r.small;
  fits = goes_on_fits n w seen value r.fits;
  live = λ _. h;
}

module _ (turns later w n seen value used : ℕ) (r : Rest (suc turns) later w n seen value) where
  -- bits read after the first group
  abbrev read_next : List Bool → Reading
  read_next = read_groups turns later later (seen + w) (value + (n % 2 ^ w) * 2 ^ seen) (used + (w + 1))

  read_first : (xs : List Bool) (b : Bool) → more w n ≡ b
      → read_groups (suc turns) later w seen value used (low_bits w n ++ (more w n ∷ xs)) ≡ judged b seen w (n % 2 ^ w) (value + (n % 2 ^ w) * 2 ^ seen) (used + (w + 1)) (read_next xs)
  read_first xs b e =
      read_group turns later w seen value used (low_bits w n) (more w n) xs (length-low_bits w n)
      ∙ ap₂ (λ c g. judged c seen w g (value + g * 2 ^ seen) (used + (w + 1)) (read_groups turns later later (seen + w) (value + g * 2 ^ seen) (used + (w + 1)) xs)) e (value_of-low_bits w n)

  read_more : (xs : List Bool) → more w n ≡ true → read_groups (suc turns) later w seen value used (low_bits w n ++ (more w n ∷ xs)) ≡ read_next xs
  read_more xs e =
      read_first xs true e
      ∙ judged-more seen w (n % 2 ^ w) (value + (n % 2 ^ w) * 2 ^ seen) (used + (w + 1)) (read_next xs) (reached_fits n w seen value r.fits) (few_seen n w seen value r.fits (ltb-true 0 (n / 2 ^ w) e))

  abbrev Whole : List Bool → Type 0
  Whole rest = read_groups (suc turns) later w seen value used (groups (suc turns) later w n ++ rest) ≡ number (value + n * 2 ^ seen) (used + length (groups (suc turns) later w n))

  opened : (rest : List Bool) → groups (suc turns) later w n ++ rest ≡ low_bits w n ++ (more w n ∷ (tail turns later w n (more w n) ++ rest))
  unfolding groups
  opened rest = append_assoc (low_bits w n) (more w n ∷ tail turns later w n (more w n)) rest

  whole_more : (rest : List Bool) → more w n ≡ true
      → read_next (groups turns later later (n / 2 ^ w) ++ rest) ≡ number (value + (n % 2 ^ w) * 2 ^ seen + (n / 2 ^ w) * 2 ^ (seen + w)) (used + (w + 1) + length (groups turns later later (n / 2 ^ w)))
      → Whole rest
  whole_more rest e ih =
      ap (read_groups (suc turns) later w seen value used) (opened rest)
      ∙ read_more (tail turns later w n (more w n) ++ rest) e
      ∙ ap (λ b. read_next (tail turns later w n b ++ rest)) e
      ∙ ih ∙ ap₂ number (omega (arith, joined_value n w seen)) (omega (arith, length-groups turns later w n true e))

  whole_last : (rest : List Bool) → more w n ≡ false → Whole rest
  whole_last rest e =
      let none : n / 2 ^ w ≡ 0 = omega (arith, ltb-false 0 (n / 2 ^ w) e) in
      let all : n % 2 ^ w ≡ n = omega (arith, div-add-mod' n (2 ^ w), ap (λ q. q * 2 ^ w) none) in
      let xs = tail turns later w n (more w n) ++ rest in
      ap (read_groups (suc turns) later w seen value used) (opened rest)
      ∙ read_first xs false e
      ∙ judged_last seen w (n % 2 ^ w) (value + (n % 2 ^ w) * 2 ^ seen) (used + (w + 1)) (read_next xs) (reached_fits n w seen value r.fits) (λ h. omega (arith, r.live h, all))
      ∙ ap₂ number (ap (λ m. value + m * 2 ^ seen) all) (omega (arith, length-groups turns later w n false e))

  abbrev CutAt : ℕ → Type 0
  CutAt k = read_groups (suc turns) later w seen value used (take k (groups (suc turns) later w n)) ≡ cut

  cut_early : (k : ℕ) → k < w + 1 → CutAt k
  cut_early k h = read_short turns later w seen value used (take k (groups (suc turns) later w n)) (omega (arith, length-take k (groups (suc turns) later w n)))

  cut_later : (k : ℕ) → w + 1 ≤ k → more w n ≡ true → read_next (take (k - (w + 1)) (groups turns later later (n / 2 ^ w))) ≡ cut → CutAt k
  unfolding groups
  cut_later k h e ih =
      let xs = tail turns later w n (more w n) in
      let place : k ≡ length (low_bits w n) + suc (k - (w + 1)) = omega (arith, length-low_bits w n) in
      let front : take k (groups (suc turns) later w n) ≡ low_bits w n ++ (more w n ∷ take (k - (w + 1)) xs) =
      ap (λ j. take j (groups (suc turns) later w n)) place ∙ take-append-add (low_bits w n) (more w n ∷ xs) (suc (k - (w + 1))) in
      ap (read_groups (suc turns) later w seen value used) front ∙ read_more (take (k - (w + 1)) xs) e
      ∙ ap (λ b. read_next (take (k - (w + 1)) (tail turns later w n b))) e ∙ ih

whole : (turns later w n seen value used : ℕ) (rest : List Bool) → Rest turns later w n seen value
    → read_groups turns later w seen value used (groups turns later w n ++ rest) ≡ number (value + n * 2 ^ seen) (used + length (groups turns later w n))
whole zero later w n seen value used rest r = absurd (omega (arith, r.some))
whole (suc turns) later w n seen value used rest r =
    either (more w n) (λ e. whole_more turns later w n seen value used r rest e (whole turns later later (n / 2 ^ w) (seen + w) (value + (n % 2 ^ w) * 2 ^ seen) (used + (w + 1)) rest (next turns later w n seen value r (ltb-true 0 (n / 2 ^ w) e))))
    (whole_last turns later w n seen value used r rest)

cuts : (turns later w n seen value used k : ℕ) → Rest turns later w n seen value → k < length (groups turns later w n) → read_groups turns later w seen value used (take k (groups turns later w n)) ≡ cut
cuts zero later w n seen value used k r h = absurd (omega (arith, r.some))
cuts (suc turns) later w n seen value used k r h =
    either (nat_lt k (w + 1)) (λ l. cut_early turns later w n seen value used r k (ltb-true k (w + 1) l))
    (λ l. either (more w n)
    (λ e. let left : k - (w + 1) < length (groups turns later later (n / 2 ^ w)) = omega (arith, h, length-groups turns later w n true e, ltb-false k (w + 1) l) in
    cut_later turns later w n seen value used r k (ltb-false k (w + 1) l) e
    (cuts turns later later (n / 2 ^ w) (seen + w) (value + (n % 2 ^ w) * 2 ^ seen) (used + (w + 1)) (k - (w + 1)) (next turns later w n seen value r (ltb-true 0 (n / 2 ^ w) e)) left))
    (λ e. absurd (omega (arith, h, length-groups turns later w n false e, ltb-false k (w + 1) l))))

-- Bits that are read as a number: they begin with the groups of the rest of it.
record Spelt (turns later w seen value used : ℕ) (bs : List Bool) (n u : ℕ) : Type 0 where
  m : ℕ
  rest : List Bool
  split : bs ≡ groups turns later w m ++ rest
  value_is : n ≡ value + m * 2 ^ seen
  used_is : u ≡ used + length (groups turns later w m)
  fits : n ≤ greatest
  live : 0 < seen → 0 < m

bad≢number : (n u : ℕ) → bad ≢ number n u
bad≢number n u e = let z : ◌≡◌ {A = ℕ} 0 1 = cc in omega arith

cut≢number : (n u : ℕ) → cut ≢ number n u
cut≢number n u e = let z : ◌≡◌ {A = ℕ} 0 1 = cc in omega arith

module _ (seen w group value used : ℕ) (goes : Reading) (n u : ℕ) where
  number_fits : (connect : Bool) → judged connect seen w group value used goes ≡ number n u → value ≤ greatest
  number_fits connect e =
      either (nat_lt greatest value) (λ t. absurd (bad≢number n u (sym (cond-true (nat_lt greatest value) _ _ t) ∙ e))) (ltb-false greatest value)

  number_goes : judged true seen w group value used goes ≡ number n u → goes ≡ number n u
  number_goes e =
      let inner = sym (cond-false (nat_lt greatest value) _ _ (le-ltb greatest value (number_fits true e))) ∙ e in
      either (nat_le 32 (seen + w)) (λ t. absurd (bad≢number n u (sym (cond-true (nat_le 32 (seen + w)) _ _ t) ∙ inner))) (λ t. sym (cond-false (nat_le 32 (seen + w)) _ _ t) ∙ inner)

  number_ends : judged false seen w group value used goes ≡ number n u → (number value used ≡ number n u) × (0 < seen → 0 < group)
  number_ends e =
      let inner = sym (cond-false (nat_lt greatest value) _ _ (le-ltb greatest value (number_fits false e))) ∙ e in
      either (nat_lt 0 seen && group == 0) (λ t. absurd (bad≢number n u (sym (cond-true (nat_lt 0 seen && group == 0) _ _ t) ∙ inner)))
      (λ t. (sym (cond-false (nat_lt 0 seen && group == 0) _ _ t) ∙ inner, λ h. live h (and_cases (nat_lt 0 seen) (group == 0) t)))
    where
      live : 0 < seen → (nat_lt 0 seen ≡ false) ⊎ ((group == 0) ≡ false) → 0 < group
      live h (inl t) = absurd (omega (arith, ltb-false 0 seen t))
      live h (inr t) = let ne = eqb-false group 0 t in omega arith

-- the groups of a number with the bits xs below q
groups_of : (turns later w q : ℕ) (xs : List Bool) (b : Bool) → length xs ≡ w → nat_lt 0 q ≡ b → groups (suc turns) later w (q * 2 ^ w + value_of xs) ≡ xs ++ (b ∷ (if b then groups turns later later q else []))
unfolding groups
groups_of turns later w q xs b long e =
    let below : value_of xs < 2 ^ w = subst (λ k. value_of xs < 2 ^ k) long (value_of_below xs) in
    let low : low_bits w (q * 2 ^ w + value_of xs) ≡ xs = low_bits_low w (value_of xs) q below ∙ ap (λ k. low_bits k (value_of xs)) (sym long) ∙ low_bits-value_of xs in
    let high : (q * 2 ^ w + value_of xs) / 2 ^ w ≡ q = shr_high q w (value_of xs) below in
    (λ i. low i ++ (nat_lt 0 (high i) ∷ (if nat_lt 0 (high i) then groups turns later later (high i) else [])))
    ∙ ap (λ c. xs ++ (c ∷ (if c then groups turns later later q else []))) e

module _ (turns later w seen value used : ℕ) (bs : List Bool) (n u : ℕ) (lw : 1 ≤ w) (enough : w + 1 ≤ length bs) where
  length_front : length (take w bs) ≡ w
  length_front = length-take-le w bs (omega arith)

  split_at : (b : Bool) → slice_index_or bs w false ≡ b → bs ≡ take w bs ++ (b ∷ drop (w + 1) bs)
  split_at b e = sym (take-append-drop w bs) ∙ ap (λ l. take w bs ++ l) (drop_more bs w false (omega arith) ∙ ap (λ c. c ∷ drop (w + 1) bs) e)

  spelt_more : slice_index_or bs w false ≡ true → n ≤ greatest → Spelt turns later later (seen + w) (value + value_of (take w bs) * 2 ^ seen) (used + (w + 1)) (drop (w + 1) bs) n u → Spelt (suc turns) later w seen value used bs n u
  spelt_more e fits s =
      let q = s.m in
      let some : 0 < q = s.live (omega arith) in
      let is = groups_of turns later w q (take w bs) true length_front (lt-ltb 0 q some) in
      let high = shr_le (q * 2 ^ w + value_of (take w bs)) w in
      let same : (q * 2 ^ w + value_of (take w bs)) / 2 ^ w ≡ q = shr_high q w (value_of (take w bs)) (subst (λ k. value_of (take w bs) < 2 ^ k) length_front (value_of_below (take w bs))) in
      record {
        m = q * 2 ^ w + value_of (take w bs);
        rest = s.rest;
        split = split_at true e ∙ ap (λ l. take w bs ++ (true ∷ l)) s.split ∙ sym (append_assoc (take w bs) (true ∷ groups turns later later q) s.rest) ∙ ap (λ l. l ++ s.rest) (sym is);
        value_is = s.value_is ∙ omega (arith, ap (λ x. q * x) (pow-add 2 seen w));
        used_is = s.used_is ∙ omega (arith, ap length is, length-append (take w bs) (true ∷ groups turns later later q), length_front);
        fits = fits;
        live = λ _. omega (arith, high, same);
      }

  spelt_last : slice_index_or bs w false ≡ false → n ≤ greatest → (number (value + value_of (take w bs) * 2 ^ seen) (used + (w + 1)) ≡ number n u) × (0 < seen → 0 < value_of (take w bs)) → Spelt (suc turns) later w seen value used bs n u
  spelt_last e fits h =
      let is = groups_of turns later w 0 (take w bs) false length_front refl in
      let same = h.0 in
      let reached : value + value_of (take w bs) * 2 ^ seen ≡ n = cc in
      let took : used + (w + 1) ≡ u = cc in
      record {
        m = 0 * 2 ^ w + value_of (take w bs);
        rest = drop (w + 1) bs;
        split = split_at false e ∙ sym (append_assoc (take w bs) (false ∷ []) (drop (w + 1) bs)) ∙ ap (λ l. l ++ drop (w + 1) bs) (sym is);
        value_is = sym reached ∙ ap (λ x. value + x * 2 ^ seen) (omega arith);
        used_is = omega (arith, took, ap length is, length-append (take w bs) (false ∷ []), length_front);
        fits = fits;
        live = λ l. omega (arith, h.1 l);
      }

spelt : (turns later w seen value used : ℕ) (bs : List Bool) (n u : ℕ) → 1 ≤ w → 1 ≤ later → read_groups turns later w seen value used bs ≡ number n u → Spelt turns later w seen value used bs n u
unfolding read_groups
spelt zero later w seen value used bs n u lw ll e = absurd (bad≢number n u e)
spelt (suc turns) later w seen value used bs n u lw ll e =
    let g = value_of (take w bs) in
    let reached = value + g * 2 ^ seen in
    let goes = read_groups turns later later (seen + w) reached (used + (w + 1)) (drop (w + 1) bs) in
    either (nat_le (w + 1) (length bs))
    (λ t.
    let enough = leb-true (w + 1) (length bs) t in
    let opened : judged (slice_index_or bs w false) seen w g reached (used + (w + 1)) goes ≡ number n u = sym (cond-true (nat_le (w + 1) (length bs)) _ _ t) ∙ e in
    let at : (b : Bool) → slice_index_or bs w false ≡ b → judged b seen w g reached (used + (w + 1)) goes ≡ number n u = λ b c. ap (λ x. judged x seen w g reached (used + (w + 1)) goes) (sym c) ∙ opened in
    either (slice_index_or bs w false)
    (λ c.
    let s = spelt turns later later (seen + w) reached (used + (w + 1)) (drop (w + 1) bs) n u ll ll (number_goes seen w g reached (used + (w + 1)) goes n u (at true c)) in
    spelt_more turns later w seen value used bs n u lw enough c s.fits s)
    (λ c.
    let ends = number_ends seen w g reached (used + (w + 1)) goes n u (at false c) in
    let same = ends.0 in
    let is : reached ≡ n = cc in
    spelt_last turns later w seen value used bs n u lw enough c (omega (arith, number_fits seen w g reached (used + (w + 1)) goes n u false (at false c), is)) ends))
    (λ t. absurd (cut≢number n u (sym (read_short turns later w seen value used bs (leb-false (w + 1) (length bs) t)) ∙ e)))

-- How many bits are written: `count` with `seen` bits of the number in them. Each later group of one bit takes two,
-- and each wider one at most half as many again as it holds.
abbrev Sized : ℕ → ℕ → ℕ → Type 0
Sized b seen count = (b ≤ 1 → count ≤ 2 * seen) × (2 ≤ b → 2 * count ≤ 3 * seen + 2)

few_bits : (n seen : ℕ) → 0 < n → n * 2 ^ seen ≤ greatest → seen < 32
few_bits n seen some fits = go (cases_lt seen 32)
  where
    go : (seen < 32) ⊎ (32 ≤ seen) → seen < 32
    go (inl l) = l
    go (inr l) = absurd (omega (arith, mul-le-mul_right (2 ^ seen) some, pow_mono {i = 32} {j = seen} l))

later_short : (turns b n seen count : ℕ) → 1 ≤ b → b ≤ 16 → 0 < n → n * 2 ^ seen ≤ greatest → Sized b seen count → count + length (groups turns b b n) ≤ 64
unfolding groups
later_short zero b n seen count lb mb some fits sized =
    let few = few_bits n seen some fits in
    elim (cases_lt 1 b) [ inl h ↦ omega (arith, sized.1 h) | inr h ↦ omega (arith, sized.0 h) ]
later_short (suc turns) b n seen count lb mb some fits sized =
    let few = few_bits n seen some fits in
    either (more b n)
    (λ e.
    let on = ltb-true 0 (n / 2 ^ b) e in
    let fits' : (n / 2 ^ b) * 2 ^ (seen + b) ≤ greatest = omega (arith, fits, joined_value n b seen) in
    let sized' : Sized b (seen + b) (count + (b + 1)) = (λ h. omega (arith, sized.0 h), λ h. omega (arith, sized.1 h)) in
    omega (arith, later_short turns b (n / 2 ^ b) (seen + b) (count + (b + 1)) lb mb on fits' sized', length-groups turns b b n true e))
    (λ e. elim (cases_lt 1 b) [ inl h ↦ omega (arith, sized.1 h, length-groups turns b b n false e) | inr h ↦ omega (arith, sized.0 h, length-groups turns b b n false e) ])

pub short : (turns later w n : ℕ) → 1 ≤ w → w ≤ 16 → 1 ≤ later → later ≤ 16 → n ≤ greatest → length (groups (suc turns) later w n) ≤ 64
short turns later w n lw mw ll ml fits =
    either (more w n)
    (λ e.
    let on = ltb-true 0 (n / 2 ^ w) e in
    let rest : (n / 2 ^ w) * 2 ^ w ≤ greatest = omega (arith, fits, div-add-mod' n (2 ^ w)) in
    let sized : Sized later w (w + 1) = (λ h. omega arith, λ h. omega arith) in
    omega (arith, later_short turns later (n / 2 ^ w) w (w + 1) ll ml on rest sized, length-groups turns later w n true e))
    (λ e. omega (arith, length-groups turns later w n false e))

-- a number of the code, before any of it is read
start : (first later n : ℕ) → 1 ≤ first → 1 ≤ later → n ≤ greatest → Rest 32 later first n 0 0
start first later n lf ll h = record {
  group = lf;
  group_later = ll;
  some = omega arith;
  small = omega arith;
  fits = omega arith;
  live = λ l. absurd (omega arith);
}

begins : (first later : ℕ) → 1 ≤ first → 1 ≤ later → (bs : List Bool) (n used : ℕ) → read_groups 32 later first 0 0 0 bs ≡ number n used → Begins (chunked_meaning first later) bs n used
begins first later lf ll bs n used e =
    let s = spelt 32 later first 0 0 0 bs n used lf ll e in
    let same : s.m ≡ n = omega (arith, s.value_is) in
    record {
      in_range = s.fits;
      length_is = omega (arith, s.used_is, ap (λ m. length (groups 32 later first m)) same);
      rest = s.rest;
      split = s.split ∙ ap (λ m. groups 32 later first m ++ s.rest) same;
    }

pub chunked_sound : (first later : ℕ) → 1 ≤ first → first ≤ 6 → 1 ≤ later → later ≤ 6 → Sound (chunked_meaning first later)
chunked_sound first later lf mf ll ml = record {
  least = omega arith;
  most = omega arith;
  three = refl;
  bytes = (omega arith, (omega arith, (omega arith, tt)));
  short = λ n h. short 31 later first n lf (omega arith) ll (omega arith) h;
  whole = λ n h rest. whole 32 later first n 0 0 0 rest (start first later n lf ll h) ∙ ap₂ number (omega arith) (omega arith);
  cuts = λ n h k l. cuts 32 later first n 0 0 0 k (start first later n lf ll h) l;
  begins = begins first later lf ll;
}
