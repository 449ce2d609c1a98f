-- What holds of a cache after any history, and what a store leaves to a load.
use Rattle.std.proofs.Common.{◌≡◌, ℕ, zero, suc, ◌+◌, ◌-◌, ◌/◌, ◌%◌, ◌^◌, ◌<◌, ◌≤◌, Bool, true, false, cond, eqb, List, [], ◌∷◌, map, length, get_or, take, sym, refl, ap, ◌∙◌, subst, ap₂, mod-lt, arith}
use native.Mathlib.Nat.{mul-mod_left}
use lib.Seq.{map-set_same, take-nil}
use Rattle.std.proofs.ByRecursion.{All-get_or}
use Rattle.std.proofs.lemmas.List.{length-take, length-map, get_or-replicate, get_or-map, get_or-take}
use Rattle.std.proofs.lemmas.Bool.{cond-false, cond_both, and_parts, eqb-true, eqb-false}
use Rattle.std.specs.List.{AllByRecursion}
use Rattle.rules.specs.Bytes.{low_bytes, number_of, stretch}
use Rattle.rules.specs.Overlay.{overlay}
use Rattle.rules.specs.Cache.{is_size, are_settings, block_of, offset_of, region_size, new_line, region_flagged, stored_in, read_in, first, less, holds, forward, promoted, invalidated_in, set_for, on_set, loaded_in, loaded_value, Operation, load, store, invalidate, applied}
use Rattle.rules.specs.CacheLaws.{after, blocks_in, used_first, uses, LatestUses, Apart, SetsBounded, RegionsHold, StoresRead, CacheLaws}
use Rattle.rules.specs.declared.cache.Line.{Line}
use Rattle.rules.specs.declared.cache.Settings.{Settings}
use Rattle.rules.proofs.Bytes.{length-low_bytes, number_of-low_bytes}
use Rattle.rules.proofs.Overlay.{overlay_at}
use Rattle.rules.proofs.Flags.{size_some, granule_size, sets_bounds, ways_bounds, region_fits, region_before, region_covers, region_size_granule, region_least}
use Rattle.rules.proofs.Sets.{all_less, all_forward, take_less, blocks_invalidated, blocks_promoted, forward_fresh, first-promoted}
use Rattle.rules.proofs.Steps.{set_changed, set_kept, loaded_is, length-applied, length-after, others_law, Sixteen, aligned_fits, sixteen_after}
use Rattle.rules.proofs.FlagLaws.{flags_law, known_law}
use Rattle.rules.proofs.LineLaws.{marks_law, bytes_law}

-- the order of a set

pub order_kept : (k : Settings) (block : ℕ) (cache : List (List Line)) → map blocks_in (on_set k block (invalidated_in block) cache) ≡ map blocks_in cache
order_kept k block cache =
    map-set_same blocks_in cache (block % k.sets) (invalidated_in block (set_for k block cache)) [] (blocks_invalidated block (set_for k block cache))

used_first_lem : (w b : ℕ) (bs us : List ℕ) → 1 ≤ w → bs ≡ take w us → b ∷ take (w - 1) (less (λ c. eqb c b) bs) ≡ take w (used_first b us)
used_first_lem zero b bs us h e = absurd (omega arith)
used_first_lem (suc n) b bs us h e =
    let one : suc n - 1 ≡ n = omega arith in
    ap (λ (cs : List ℕ). b ∷ cs) (ap₂ (λ (m : ℕ) (cs : List ℕ). take m (less (λ c. eqb c b) cs)) one e ∙ take_less (λ c. eqb c b) n us)

-- no number twice

abbrev Distinct : List ℕ → Type 0
Distinct [] = Unit {0}
Distinct (n ∷ ns) = AllByRecursion (λ m. n ≡ m → ⊥) ns × Distinct ns

apart_from : (ns : List ℕ) → Distinct ns → Apart ns
apart_from [] d i j lt h e = absurd (omega arith)
apart_from (n ∷ ns) d zero zero lt h e = absurd (omega arith)
apart_from (n ∷ ns) d zero (suc j) lt h e = All-get_or (λ m. n ≡ m → ⊥) ns j 0 (omega arith) d.0 e
apart_from (n ∷ ns) d (suc i) zero lt h e = absurd (omega arith)
apart_from (n ∷ ns) d (suc i) (suc j) lt h e = apart_from ns d.1 i j (omega arith) (omega arith) e

apart_take : (w : ℕ) (ns : List ℕ) → Apart ns → Apart (take w ns)
apart_take w ns apart i j lt h e =
    let long = length-take w ns in
    apart i j lt (omega arith) (sym (get_or-take w ns i 0 (omega arith)) ∙ e ∙ get_or-take w ns j 0 (omega arith))

distinct_less : (test : ℕ → Bool) (ns : List ℕ) → Distinct ns → Distinct (less test ns)
distinct_less test [] d = tt
distinct_less test (n ∷ ns) d =
    cond_both (test n) ns (n ∷ less test ns) Distinct (λ _. d.1) (λ _. (all_less test (λ m. n ≡ m → ⊥) ns d.0, distinct_less test ns d.1))

others_less : (b : ℕ) (ns : List ℕ) → Distinct ns → AllByRecursion (λ m. b ≡ m → ⊥) (less (λ c. eqb c b) ns)
others_less b [] d = tt
others_less b (n ∷ ns) d =
    cond_both (eqb n b) ns (n ∷ less (λ c. eqb c b) ns) (AllByRecursion (λ m. b ≡ m → ⊥)) (λ t. subst (λ c. AllByRecursion (λ m. c ≡ m → ⊥) ns) (eqb-true n b t) d.0)
    (λ f. (λ e. eqb-false n b f (sym e), others_less b ns d.1))

distinct_used : (z : Bool) (b : ℕ) (us : List ℕ) → Distinct us → Distinct (cond z (used_first b us) us)
distinct_used true b us d = (others_less b us d, distinct_less (λ c. eqb c b) us d)
distinct_used false b us d = d

distinct_uses : (k : Settings) (s : ℕ) (history : List Operation) → Distinct (uses k s history)
distinct_uses k s [] = tt
distinct_uses k s (load fill address size ∷ earlier) = distinct_used (eqb (block_of address % k.sets) s) (block_of address) (uses k s earlier) (distinct_uses k s earlier)
distinct_uses k s (store fill address size value ∷ earlier) = distinct_used (eqb (block_of address % k.sets) s) (block_of address) (uses k s earlier) (distinct_uses k s earlier)
distinct_uses k s (invalidate address ∷ earlier) = distinct_uses k s earlier

module _ (k : Settings) (some-ways : 1 ≤ k.ways) where
  -- a use of b, at any set
  used : (b s : ℕ) (change : List Line → List Line) (cache : List (List Line)) (us : List ℕ) → s < length cache → blocks_in (get_or cache s []) ≡ take k.ways us
      → ((ls : List Line) → blocks_in (change ls) ≡ b ∷ take (k.ways - 1) (less (λ c. eqb c b) (blocks_in ls)))
      → blocks_in (get_or (on_set k b change cache) s []) ≡ take k.ways (cond (eqb (b % k.sets) s) (used_first b us) us)
  used b s change cache us h latest changes =
      cond_both (eqb (b % k.sets) s) (used_first b us) us (λ vs. blocks_in (get_or (on_set k b change cache) s []) ≡ take k.ways vs)
      (λ t. ap blocks_in (set_changed k b change cache s h (eqb-true (b % k.sets) s t)) ∙ changes (get_or cache s []) ∙ used_first_lem k.ways b (blocks_in (get_or cache s [])) us some-ways latest)
      (λ f. ap blocks_in (set_kept k b change cache s (eqb-false (b % k.sets) s f)) ∙ latest)

  pub recency_law : LatestUses k
  recency_law [] s h = ap blocks_in (get_or-replicate k.sets s [] [] h) ∙ sym (take-nil k.ways)
  recency_law (load fill address size ∷ earlier) s h =
      used (block_of address) s (loaded_in k fill address size) (after k earlier) (uses k s earlier) (omega (arith, length-after k earlier)) (recency_law earlier s h)
      (λ ls. ap blocks_in (loaded_is k fill address size ls) ∙ blocks_promoted k fill (block_of address) (region_flagged k address size) ls (λ l. refl))
  recency_law (store fill address size value ∷ earlier) s h =
      used (block_of address) s (promoted k fill (block_of address) (stored_in k address size value)) (after k earlier) (uses k s earlier) (omega (arith, length-after k earlier)) (recency_law earlier s h)
      (λ ls. blocks_promoted k fill (block_of address) (stored_in k address size value) ls (λ l. refl))
  recency_law (invalidate address ∷ earlier) s h =
      let before : s < length (after k earlier) = omega (arith, length-after k earlier) in
      let now : s < length (applied k (invalidate address) (after k earlier)) = omega (arith, length-applied k (invalidate address) (after k earlier)) in
      sym (get_or-map blocks_in (applied k (invalidate address) (after k earlier)) s [] [] now) ∙ ap (λ bs. get_or bs s []) (order_kept k (block_of address) (after k earlier))
      ∙ get_or-map blocks_in (after k earlier) s [] [] before ∙ recency_law earlier s h

  pub bounded_law : SetsBounded k
  bounded_law history s h =
      let ls = get_or (after k history) s [] in
      let same : length ls ≡ length (take k.ways (uses k s history)) = sym (length-map ls (λ (l : Line). l.block)) ∙ ap length (recency_law history s h) in
      (omega (arith, length-take k.ways (uses k s history)), subst Apart (sym (recency_law history s h)) (apart_take k.ways (uses k s history) (apart_from (uses k s history) (distinct_uses k s history))))

-- a load after a store

module _ (k : Settings) (fill fill' : List ℕ) (address size value : ℕ) (fits : offset_of address + size ≤ 16) where
  pub store_read : (ls : List Line) → length (forward fill (block_of address) (first (holds (block_of address)) ls)).bytes ≡ 16
      → read_in address size (forward fill' (block_of address) (first (holds (block_of address)) (promoted k fill (block_of address) (stored_in k address size value) ls))) ≡ value % 256 ^ size
  store_read ls long =
      ap (λ o. read_in address size (forward fill' (block_of address) o)) (first-promoted k fill (block_of address) (stored_in k address size value) ls (λ l. refl))
      ∙ ap (read_in address size) (cond-false front.stale (new_line fill' front.block) (stored_in k address size value front) (forward_fresh fill (block_of address) (first (holds (block_of address)) ls)))
      ∙ ap (λ n. number_of (stretch (offset_of address) n (overlay (offset_of address) (low_bytes size value) front.bytes))) (sym (length-low_bytes size value))
      ∙ ap number_of (overlay_at (offset_of address) (low_bytes size value) front.bytes (omega (arith, length-low_bytes size value, long)))
      ∙ number_of-low_bytes size value
    where
      front : Line
      front = forward fill (block_of address) (first (holds (block_of address)) ls)

  pub store_load : (cache : List (List Line)) → block_of address % k.sets < length cache
      → length (forward fill (block_of address) (first (holds (block_of address)) (set_for k (block_of address) cache))).bytes ≡ 16
      → loaded_value k fill' address size (applied k (store fill address size value) cache) ≡ value % 256 ^ size
  store_load cache in-cache long =
      ap (λ ls. read_in address size (forward fill' (block_of address) (first (holds (block_of address)) ls)))
      (set_changed k (block_of address) (promoted k fill (block_of address) (stored_in k address size value)) cache (block_of address % k.sets) in-cache refl) ∙ store_read (set_for k (block_of address) cache) long

module _ (k : Settings) (some-sets : 1 ≤ k.sets) where
  pub stores_law : StoresRead k
  stores_law history fill next address size value given =
      let b = block_of address in
      let inside = mod-lt b some-sets in
      store_load k fill next address size value (aligned_fits address size given.0.1) (after k history) (omega (arith, length-after k history))
      (all_forward Sixteen (holds b) fill b (λ c. given.0.0) (set_for k b (after k history)) (sixteen_after k some-sets history given.1 (b % k.sets) inside))

pub regions_law : (k : Settings) → is_size k.granule ≡ true → RegionsHold k
regions_law k granuled address size t =
    let parts = and_parts (is_size size) (eqb (address % size) 0) t in
    let sized = parts.0 in
    record {
      inside = region_fits k address size sized granuled;
      aligned = mul-mod_left (offset_of address / region_size k size) (region_size k size);
      begins = region_before k address size sized granuled;
      ends = region_covers k address size sized granuled (eqb-true (address % size) 0 parts.1);
      granules = region_size_granule k address size sized granuled;
      least = region_least k size;
    }

pub cache_laws : (k : Settings) → are_settings k ≡ true → CacheLaws k
cache_laws k proper =
    let some-sets = (sets_bounds k proper).0 in
    let some-ways = (ways_bounds k proper).0 in
    record {
      recency = recency_law k some-ways;
      bounded = bounded_law k some-ways;
      flags = flags_law k some-sets (size_some k.granule (granule_size k proper));
      known = known_law k some-sets (granule_size k proper);
      others = others_law k some-sets;
      regions = regions_law k (granule_size k proper);
      stores = stores_law k some-sets;
      marks = marks_law k some-sets;
      bytes = bytes_law k some-sets;
    }
