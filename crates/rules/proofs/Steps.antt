-- A cache step by step: the set and the line that an operation changes, and what holds of every line.
use Rattle.std.proofs.Common.{◌≡◌, ℕ, ◌+◌, ◌%◌, ◌<◌, ◌≤◌, Bool, true, false, cond, not, eqb, ◌⊎◌, List, [], ◌∷◌, length, get_or, set, Some, None, Option, sym, refl, ap, ◌∙◌, subst, inl, inr, mod-lt, arith}
use Rattle.std.proofs.lemmas.List.{length-set, length-replicate, get_or-set_same, get_or-set_other, get_or-replicate}
use Rattle.std.proofs.lemmas.Bool.{cond-false, cases_eq, and_parts, not-true, eqb-true}
use Rattle.std.specs.List.{AllByRecursion}
use Rattle.rules.specs.Bytes.{low_bytes}
use Rattle.rules.specs.Cache.{is_size, is_aligned, block_of, offset_of, region_size, region_from, all_flagged, new_line, refreshed, region_flagged, stored_in, first, holds, forward, behind, promoted, known_by, invalidated_in, set_for, on_set, loaded_in, Operation, load, store, invalidate, applied}
use Rattle.rules.specs.CacheLaws.{after, line_for, block_of_operation, OthersKept, Given}
use Rattle.rules.specs.declared.cache.Line.{Line}
use Rattle.rules.specs.declared.cache.Settings.{Settings}
use Rattle.rules.proofs.Bytes.{length-low_bytes}
use Rattle.rules.proofs.Overlay.{length-overlay}
use Rattle.rules.proofs.Flags.{length-flagged, flagged_known, offset_fits}
use Rattle.rules.proofs.Sets.{all_promoted, all_invalidated, first-promoted, first-promoted_other, first_invalidated, first_invalidated_other, staled_line}

-- one set of a cache

module _ (k : Settings) (b : ℕ) (change : List Line → List Line) (cache : List (List Line)) (s : ℕ) where
  pub set_changed : s < length cache → b % k.sets ≡ s → get_or (on_set k b change cache) s [] ≡ change (get_or cache s [])
  set_changed h e = subst (λ n. get_or (set cache n (change (get_or cache n []))) s [] ≡ change (get_or cache s [])) (sym e) (get_or-set_same cache s (change (get_or cache s [])) [] h)

  pub set_kept : (b % k.sets ≡ s → ⊥) → get_or (on_set k b change cache) s [] ≡ get_or cache s []
  set_kept ne = get_or-set_other cache (b % k.sets) s (change (set_for k b cache)) [] (λ e. ne (sym e))

  -- what holds of every line of a set
  pub all_on_set : (P : Line → Type 0) → s < length cache → ((ls : List Line) → AllByRecursion P ls → AllByRecursion P (change ls)) → AllByRecursion P (get_or cache s []) → AllByRecursion P (get_or (on_set k b change cache) s [])
  all_on_set P h keeps each =
      elim (cases_eq (b % k.sets) s) [
        | inl e ↦ subst (AllByRecursion P) (sym (set_changed h e)) (keeps (get_or cache s []) each)
        | inr ne ↦ subst (AllByRecursion P) (sym (set_kept ne)) each
      ]

-- a load that is known has nothing to flag

flag_known : (k : Settings) (address size : ℕ) (fill : List ℕ) (b : ℕ) (o : Option Line)
    → cond (known_by k address size o) (λ (l : Line). l) (region_flagged k address size) (forward fill b o) ≡ region_flagged k address size (forward fill b o)
flag_known k address size fill b None = refl
flag_known k address size fill b (Some l) = go (known_by k address size (Some l)) refl
  where
    unchanged : all_flagged k.granule (region_from k address size) (region_size k size) 0 l.flags ≡ true → l ≡ region_flagged k address size l
    unchanged t =
        sym (ap (λ (fs : List Bool). record { block = l.block; bytes = l.bytes; flags = fs; stale = l.stale }) (flagged_known k.granule (region_from k address size) (region_size k size) 0 l.flags t))

    go : (z : Bool) → known_by k address size (Some l) ≡ z → cond z (λ (m : Line). m) (region_flagged k address size) (refreshed fill l) ≡ region_flagged k address size (refreshed fill l)
    go false e = refl
    go true e =
        let parts = and_parts (not l.stale) _ e in
        subst (λ m. m ≡ region_flagged k address size m) (sym (cond-false l.stale _ _ (not-true l.stale parts.0))) (unchanged parts.1)

pub loaded_is : (k : Settings) (fill : List ℕ) (address size : ℕ) (ls : List Line) → loaded_in k fill address size ls ≡ promoted k fill (block_of address) (region_flagged k address size) ls
loaded_is k fill address size ls =
    ap (λ (l : Line). l ∷ behind k.ways (block_of address) ls) (flag_known k address size fill (block_of address) (first (holds (block_of address)) ls))

-- every line has all its flags

abbrev pub Full : Line → Type 0
Full l = length l.flags ≡ 16

pub full_new : (fill : List ℕ) (c : ℕ) → Full (new_line fill c)
full_new fill c = refl

module _ (k : Settings) where
  pub length-applied : (op : Operation) (cache : List (List Line)) → length (applied k op cache) ≡ length cache
  length-applied (load fill address size) cache = length-set cache _ _
  length-applied (store fill address size value) cache = length-set cache _ _
  length-applied (invalidate address) cache = length-set cache _ _

  pub length-after : (history : List Operation) → length (after k history) ≡ k.sets
  length-after [] = length-replicate k.sets []
  length-after (op ∷ earlier) = length-applied op (after k earlier) ∙ length-after earlier

  pub full_after : (history : List Operation) (s : ℕ) → s < k.sets → AllByRecursion Full (get_or (after k history) s [])
  full_after [] s h = subst (AllByRecursion Full) (sym (get_or-replicate k.sets s [] [] h)) tt
  full_after (load fill address size ∷ earlier) s h =
      all_on_set k (block_of address) (loaded_in k fill address size) (after k earlier) s Full (omega (arith, length-after earlier))
      (λ ls full. subst (AllByRecursion Full) (sym (loaded_is k fill address size ls)) (all_promoted Full k fill (block_of address) (region_flagged k address size) (full_new fill) (λ l f. length-flagged _ _ _ 0 l.flags ∙ f) ls full))
      (full_after earlier s h)
  full_after (store fill address size value ∷ earlier) s h =
      all_on_set k (block_of address) (promoted k fill (block_of address) (stored_in k address size value)) (after k earlier) s Full (omega (arith, length-after earlier))
      (all_promoted Full k fill (block_of address) (stored_in k address size value) (full_new fill) (λ l f. length-flagged _ _ _ 0 l.flags ∙ f)) (full_after earlier s h)
  full_after (invalidate address ∷ earlier) s h =
      all_on_set k (block_of address) (invalidated_in (block_of address)) (after k earlier) s Full (omega (arith, length-after earlier))
      (all_invalidated Full (block_of address) (λ l f. refl)) (full_after earlier s h)

module _ (k : Settings) (some-sets : 1 ≤ k.sets) where
  -- another block's line, where a change of b's set keeps or drops it
  other_line : (b block : ℕ) (change : List Line → List Line) (cache : List (List Line)) → block % k.sets < length cache
      → ((ls : List Line) → (first (holds block) (change ls) ≡ None) ⊎ (first (holds block) (change ls) ≡ first (holds block) ls))
      → (line_for k block (on_set k b change cache) ≡ None) ⊎ (line_for k block (on_set k b change cache) ≡ line_for k block cache)
  other_line b block change cache h kept = elim (cases_eq (b % k.sets) (block % k.sets)) [
    | inl e ↦ subst (λ ls. (first (holds block) ls ≡ None) ⊎ (first (holds block) ls ≡ line_for k block cache)) (sym (set_changed k b change cache (block % k.sets) h e)) (kept (set_for k block cache))
    | inr ne ↦ inr (ap (first (holds block)) (set_kept k b change cache (block % k.sets) ne))
  ]

  pub others_law : OthersKept k
  others_law op earlier block ne = go op ne
    where
      inside : block % k.sets < length (after k earlier)
      inside = omega (arith, mod-lt block some-sets, length-after k earlier)

      go : (o : Operation) → (block_of_operation o ≡ block → ⊥) → (line_for k block (after k (o ∷ earlier)) ≡ None) ⊎ (line_for k block (after k (o ∷ earlier)) ≡ line_for k block (after k earlier))
      go (load fill address size) ne = other_line (block_of address) block (loaded_in k fill address size) (after k earlier) inside
          (λ ls. subst (λ ms. (first (holds block) ms ≡ None) ⊎ (first (holds block) ms ≡ first (holds block) ls)) (sym (loaded_is k fill address size ls)) (first-promoted_other k fill (block_of address) (region_flagged k address size) ls (λ l. refl) block ne))
      go (store fill address size value) ne = other_line (block_of address) block (promoted k fill (block_of address) (stored_in k address size value)) (after k earlier) inside
          (λ ls. first-promoted_other k fill (block_of address) (stored_in k address size value) ls (λ l. refl) block ne)
      go (invalidate address) ne = other_line (block_of address) block (invalidated_in (block_of address)) (after k earlier) inside (λ ls. inr (first_invalidated_other (block_of address) block ne ls))

-- the line of the block that an operation is on

module _ (k : Settings) (b block : ℕ) (e : b ≡ block) (cache : List (List Line)) (in-cache : block % k.sets < length cache) where
  changed_here : (change : List Line → List Line) → line_for k block (on_set k b change cache) ≡ first (holds b) (change (set_for k block cache))
  changed_here change =
      ap (first (holds block)) (set_changed k b change cache (block % k.sets) in-cache (ap (λ n. n % k.sets) e)) ∙ ap (λ c. first (holds c) (change (set_for k block cache))) (sym e)

  pub line_used : (fill : List ℕ) (change : Line → Line) → ((l : Line) → (change l).block ≡ l.block) → line_for k block (on_set k b (promoted k fill b change) cache) ≡ Some (change (forward fill b (line_for k block cache)))
  line_used fill change same =
      changed_here (promoted k fill b change) ∙ first-promoted k fill b change (set_for k block cache) same ∙ ap (λ c. Some (change (forward fill b (first (holds c) (set_for k block cache))))) e

  pub line_invalidated : line_for k block (on_set k b (invalidated_in b) cache) ≡ staled_line (line_for k block cache)
  line_invalidated = changed_here (invalidated_in b) ∙ first_invalidated b (set_for k block cache) ∙ ap (λ c. staled_line (first (holds c) (set_for k block cache))) e

module _ (k : Settings) (some-sets : 1 ≤ k.sets) (earlier : List Operation) (block : ℕ) where
  pub set_inside : block % k.sets < length (after k earlier)
  set_inside = omega (arith, mod-lt block some-sets, length-after k earlier)

  pub line_loaded : (fill : List ℕ) (address size : ℕ) → block_of address ≡ block
      → line_for k block (after k (load fill address size ∷ earlier)) ≡ Some (region_flagged k address size (forward fill (block_of address) (line_for k block (after k earlier))))
  line_loaded fill address size e =
      ap (λ ls. line_for k block (set (after k earlier) (block_of address % k.sets) ls)) (loaded_is k fill address size (set_for k (block_of address) (after k earlier)))
      ∙ line_used k (block_of address) block e (after k earlier) set_inside fill (region_flagged k address size) (λ l. refl)

  pub line_stored : (fill : List ℕ) (address size value : ℕ) → block_of address ≡ block
      → line_for k block (after k (store fill address size value ∷ earlier)) ≡ Some (stored_in k address size value (forward fill (block_of address) (line_for k block (after k earlier))))
  line_stored fill address size value e = line_used k (block_of address) block e (after k earlier) set_inside fill (stored_in k address size value) (λ l. refl)

  pub line_staled : (address : ℕ) → block_of address ≡ block → line_for k block (after k (invalidate address ∷ earlier)) ≡ staled_line (line_for k block (after k earlier))
  line_staled address e = line_invalidated k (block_of address) block e (after k earlier) set_inside

-- every line has 16 bytes, if every fill has
abbrev pub Sixteen : Line → Type 0
Sixteen l = length l.bytes ≡ 16

pub aligned_fits : (address size : ℕ) → is_aligned address size ≡ true → offset_of address + size ≤ 16
aligned_fits address size t =
    let parts = and_parts (is_size size) (eqb (address % size) 0) t in
    offset_fits address size parts.0 (eqb-true (address % size) 0 parts.1)

module _ (k : Settings) (some-sets : 1 ≤ k.sets) where
  pub sixteen_after : (history : List Operation) → AllByRecursion Given history → (s : ℕ) → s < k.sets → AllByRecursion Sixteen (get_or (after k history) s [])
  sixteen_after [] given s h = subst (AllByRecursion Sixteen) (sym (get_or-replicate k.sets s [] [] h)) tt
  sixteen_after (load fill address size ∷ earlier) given s h =
      all_on_set k (block_of address) (loaded_in k fill address size) (after k earlier) s Sixteen (omega (arith, length-after k earlier))
      (λ ls long. subst (AllByRecursion Sixteen) (sym (loaded_is k fill address size ls)) (all_promoted Sixteen k fill (block_of address) (region_flagged k address size) (λ c. given.0.0) (λ l e. e) ls long))
      (sixteen_after earlier given.1 s h)
  sixteen_after (store fill address size value ∷ earlier) given s h =
      all_on_set k (block_of address) (promoted k fill (block_of address) (stored_in k address size value)) (after k earlier) s Sixteen (omega (arith, length-after k earlier))
      (all_promoted Sixteen k fill (block_of address) (stored_in k address size value) (λ c. given.0.0)
      (λ l e. length-overlay (offset_of address) (low_bytes size value) l.bytes (omega (arith, length-low_bytes size value, aligned_fits address size given.0.1)) ∙ e)) (sixteen_after earlier given.1 s h)
  sixteen_after (invalidate address ∷ earlier) given s h =
      all_on_set k (block_of address) (invalidated_in (block_of address)) (after k earlier) s Sixteen (omega (arith, length-after k earlier))
      (all_invalidated Sixteen (block_of address) (λ l e. e)) (sixteen_after earlier given.1 s h)
