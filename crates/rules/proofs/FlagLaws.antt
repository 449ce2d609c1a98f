-- Flags by the history, and the loads that are known.
use Rattle.std.proofs.Common.{◌≡◌, ℕ, suc, ◌+◌, ◌*◌, ◌/◌, ◌%◌, ◌<◌, ◌≤◌, Bool, true, false, not, ◌||◌, eqb, leb, ◌⊎◌, List, [], ◌∷◌, length, get_or, replicate, Some, None, Decides, Option, sym, refl, ap, ◌∙◌, subst, inl, inr, mod-lt, zero-add, div-le_self, arith}
use Rattle.std.proofs.lemmas.List.{get_or-replicate}
use Rattle.std.proofs.lemmas.Bool.{and_from, le-leb, cond_both, cases_eq, and_parts, both_ways, not-true, not_from_false, or_cases, or_left, or_right, false≢true}
use Rattle.std.proofs.lemmas.Bool.Decides.{Decides-at}
use Rattle.rules.specs.Cache.{is_size, block_of, offset_of, region_size, region_from, within, flagged, all_flagged, new_line, region_flagged, stored_in, first, holds, forward, known_by, set_for, Operation, load, store, invalidate}
use Rattle.rules.specs.CacheLaws.{after, fresh_line, flag_of, line_for, Covered, FlagsGranule, Held, FlagsHeld, KnownHeld, block_of_operation}
use Rattle.rules.specs.declared.cache.Line.{Line}
use Rattle.rules.specs.declared.cache.Settings.{Settings}
use Rattle.rules.proofs.Flags.{by_size, size_some, all_flagged_tells, decides_covered, region_from_granule, get_or-flagged, region_fits}
use Rattle.rules.proofs.Sets.{staled_line, first_all, all_forward, forward_fresh}
use Rattle.rules.proofs.Steps.{Full, full_new, full_after, others_law, line_loaded, line_stored, line_staled}

-- one step of a flag: before it, the flag is set exactly if H, and it is set now if T

abbrev FlagHeld : ℕ → Type 0 → Type 0 → Option Line → Type 0
FlagHeld q T H o = Decides (flag_of q o) ((fresh_line o ≡ true) × (T ⊎ H))

module _ (q : ℕ) (T H : Type 0) where
  no_flag : (o : Option Line) → (flag_of q o ≡ false) × (fresh_line o ≡ false) → FlagHeld q T H o
  no_flag o none = (λ e. absurd (both_ways (flag_of q o) none.0 e), λ h. absurd (both_ways (fresh_line o) none.1 h.0))

  flag_kept : (o : Option Line) → (T → ⊥) → Decides (flag_of q o) H → (H → fresh_line o ≡ true) → FlagHeld q T H o
  flag_kept o not-now before fresh = (λ e. (fresh (before.0 e), inr (before.0 e)), λ h. elim h.1 [ inl t ↦ absurd (not-now t) | inr held ↦ before.1 held ])

  flag_set : (l : Line) (flag now : Bool) → l.stale ≡ false → get_or l.flags q false ≡ (flag || now) → Decides flag H → Decides now T → FlagHeld q T H (Some l)
  flag_set l flag now fresh is before tells = (
    λ e. (not_from_false l.stale fresh, elim (or_cases flag now (sym is ∙ e)) [ inl f ↦ inr (before.0 f) | inr t ↦ inl (tells.0 t) ]),
    λ h. is ∙ elim h.1 [ inl t ↦ or_right flag now (tells.1 t) | inr held ↦ or_left flag now (before.1 held) ],
  )

forward_flag : (q : ℕ) (H : Type 0) (fill : List ℕ) (b : ℕ) (o : Option Line) → q < 16 → Decides (flag_of q o) H → (H → fresh_line o ≡ true) → Decides (get_or (forward fill b o).flags q false) H
forward_flag q H fill b None h before fresh = Decides-at (get_or (replicate 16 false) q false) false (get_or-replicate 16 q false false h) before
forward_flag q H fill b (Some l) h before fresh =
    cond_both l.stale (new_line fill l.block) l (λ m. Decides (get_or m.flags q false) H)
    (λ stale. (λ e. absurd (both_ways (get_or (replicate 16 false) q false) (get_or-replicate 16 q false false h) e), λ held. absurd (both_ways l.stale (not-true l.stale (fresh held)) stale))) (λ _. before)

pub held_fresh : (k : Settings) (block q : ℕ) (history : List Operation) → Held k block q history → fresh_line (line_for k block (after k history)) ≡ true
held_fresh k block q [] held = absurd held
held_fresh k block q (op ∷ earlier) held = held.0

flags_own : (k : Settings) (block q : ℕ) (op : Operation) → FlagsGranule k block q op → block_of_operation op ≡ block
flags_own k block q (load fill address size) flags = flags.0
flags_own k block q (store fill address size value) flags = flags.0
flags_own k block q (invalidate address) flags = absurd flags

module _ (k : Settings) (some-sets : 1 ≤ k.sets) (some-granule : 1 ≤ k.granule) where
  module _ (earlier : List Operation) (block q : ℕ) (in-line : q < 16) (before : Decides (flag_of q (line_for k block (after k earlier))) (Held k block q earlier)) where
    -- the line that came forward, with a stretch flagged
    stretch-flagged : (fill : List ℕ) (b from size : ℕ) (l : Line) → b ≡ block → l.stale ≡ (forward fill b (line_for k block (after k earlier))).stale
        → l.flags ≡ flagged k.granule from size 0 (forward fill b (line_for k block (after k earlier))).flags → FlagHeld q ((b ≡ block) × Covered k.granule from size q) (Held k block q earlier) (Some l)
    stretch-flagged fill b from size l e stale flags =
        let o = line_for k block (after k earlier) in
        let f = forward fill b o in
        let all : length f.flags ≡ 16 = all_forward Full (holds block) fill b (full_new fill) (set_for k block (after k earlier)) (full_after k earlier (block % k.sets) (mod-lt block some-sets)) in
        let tells = decides_covered k.granule from size some-granule q in
        flag_set q ((b ≡ block) × Covered k.granule from size q) (Held k block q earlier) l (get_or f.flags q false) (within k.granule from size q) (stale ∙ forward_fresh fill b o)
        (ap (λ fs. get_or fs q false) flags ∙ get_or-flagged k.granule from size 0 f.flags q (omega arith) ∙ ap (λ n. get_or f.flags q false || within k.granule from size n) (zero-add q))
        (forward_flag q (Held k block q earlier) fill b o in-line before (held_fresh k block q earlier)) (λ t. (e, tells.0 t), λ c. tells.1 c.1)

    step_own : (op : Operation) → block_of_operation op ≡ block → FlagHeld q (FlagsGranule k block q op) (Held k block q earlier) (line_for k block (after k (op ∷ earlier)))
    step_own (load fill address size) e =
        subst (FlagHeld q (FlagsGranule k block q (load fill address size)) (Held k block q earlier)) (sym (line_loaded k some-sets earlier block fill address size e))
        (stretch-flagged fill (block_of address) (region_from k address size) (region_size k size) (region_flagged k address size (forward fill (block_of address) (line_for k block (after k earlier)))) e refl refl)
    step_own (store fill address size value) e =
        subst (FlagHeld q (FlagsGranule k block q (store fill address size value)) (Held k block q earlier)) (sym (line_stored k some-sets earlier block fill address size value e))
        (stretch-flagged fill (block_of address) (offset_of address) size (stored_in k address size value (forward fill (block_of address) (line_for k block (after k earlier)))) e refl refl)
    step_own (invalidate address) e =
        subst (FlagHeld q ⊥ (Held k block q earlier)) (sym (line_staled k some-sets earlier block address e))
        (no_flag q ⊥ (Held k block q earlier) (staled_line (line_for k block (after k earlier))) (none (line_for k block (after k earlier))))
      where
        none : (o : Option Line) → (flag_of q (staled_line o) ≡ false) × (fresh_line (staled_line o) ≡ false)
        none None = (refl, refl)
        none (Some l) = (get_or-replicate 16 q false false in-line, refl)

    step_other : (op : Operation) → (block_of_operation op ≡ block → ⊥) → FlagHeld q (FlagsGranule k block q op) (Held k block q earlier) (line_for k block (after k (op ∷ earlier)))
    step_other op ne =
        let T = FlagsGranule k block q op in
        let H = Held k block q earlier in
        elim (others_law k some-sets op earlier block ne) [
          | inl none ↦ subst (FlagHeld q T H) (sym none) (no_flag q T H None (refl, refl))
          | inr same ↦ subst (FlagHeld q T H) (sym same) (flag_kept q T H (line_for k block (after k earlier)) (λ t. ne (flags_own k block q op t)) before (held_fresh k block q earlier))
        ]

  pub flags_law : FlagsHeld k
  flags_law [] block q h =
      subst (λ ls. Decides (flag_of q (first (holds block) ls)) ⊥) (sym (get_or-replicate k.sets (block % k.sets) [] [] (mod-lt block some-sets))) (λ e. false≢true e, λ none. absurd none)
  flags_law (op ∷ earlier) block q h =
      let before = flags_law earlier block q h in
      elim (cases_eq (block_of_operation op) block) [ inl e ↦ step_own earlier block q h before op e | inr ne ↦ step_other earlier block q h before op ne ]

-- known loads

-- a region begins with a granule of its own
region_some : (k : Settings) (address size : ℕ) → is_size size ≡ true → is_size k.granule ≡ true
    → (region_from k address size / k.granule < 16) × Covered k.granule (region_from k address size) (region_size k size) (region_from k address size / k.granule)
region_some k address size sized granuled =
    let g = k.granule in
    let from = region_from k address size in
    let some = size_some g granuled in
    let begin : from / g * g ≡ from = by_size (λ n. from % n ≡ 0 → from / n * n ≡ from) (λ h. omega arith) (λ h. omega arith) (λ h. omega arith) (λ h. omega arith) g granuled (region_from_granule k address size sized granuled) in
    let end : suc (from / g) * g ≡ from / g * g + g = omega arith in
    let low : from / g ≤ from = div-le_self from g in
    let fits = region_fits k address size sized granuled in (
      omega arith,
      (decides_covered g from (region_size k size) some (from / g)).0
          (and_from (leb from (from / g * g)) (leb (suc (from / g) * g) (from + region_size k size)) (le-leb from (from / g * g) (omega arith)) (le-leb (suc (from / g) * g) (from + region_size k size) (omega arith))),
    )

abbrev FullLine : Option Line → Type 0
FullLine None = Unit {0}
FullLine (Some l) = Full l

known_by_lem : (k : Settings) (address size : ℕ) → is_size size ≡ true → is_size k.granule ≡ true → (o : Option Line) (H : ℕ → Type 0) → FullLine o → ((q : ℕ) → q < 16 → Decides (flag_of q o) (H q))
    → ((q : ℕ) → H q → fresh_line o ≡ true) → Decides (known_by k address size o) ((q : ℕ) → q < 16 → Covered k.granule (region_from k address size) (region_size k size) q → H q)
known_by_lem k address size sized granuled None H full flags fresh =
    let own = region_some k address size sized granuled in
    (λ e. absurd (false≢true e), λ each. fresh (region_from k address size / k.granule) (each (region_from k address size / k.granule) own.0 own.1))
known_by_lem k address size sized granuled (Some l) H full flags fresh =
    let from = region_from k address size in
    let wide = region_size k size in
    let own = region_some k address size sized granuled in
    let tells = decides_covered k.granule from wide (size_some k.granule granuled) in
    let all = all_flagged_tells k.granule from wide l.flags in
    let test = all_flagged k.granule from wide 0 l.flags in (
      λ e q h c. (flags q h).0 (all.0 (and_parts (not l.stale) test e).1 q (omega arith) ((tells q).1 c)),
      λ each. and_from (not l.stale) test (fresh (from / k.granule) (each (from / k.granule) own.0 own.1)) (all.1 (λ q h w. (flags q (omega arith)).1 (each q (omega arith) ((tells q).0 w)))),
    )

pub known_law : (k : Settings) → 1 ≤ k.sets → is_size k.granule ≡ true → KnownHeld k
known_law k some-sets granuled history address size aligned =
    let b = block_of address in
    let cache = after k history in
    known_by_lem k address size (and_parts (is_size size) (eqb (address % size) 0) aligned).0 granuled (line_for k b cache) (λ q. Held k b q history)
    (first_all (holds b) Full FullLine tt (λ l f. f) (set_for k b cache) (full_after k history (b % k.sets) (mod-lt b some-sets)))
    (λ q h. flags_law k some-sets (size_some k.granule granuled) history b q h) (λ q held. held_fresh k b q history held)
