-- Flags of the granules from `start` on, below `end`: those that lie whole in a stretch.
use Rattle.std.proofs.Common.{◌≡◌, ℕ, suc, ◌+◌, ◌-◌, ◌*◌, ◌/◌, ◌%◌, ◌<◌, ◌≤◌, max, min, Bool, true, false, ◌&&◌, ◌||◌, ltb, leb, List, ◌++◌, length, get_or, take, drop, replicate, sym, ap, ap₂, ◌∙◌, inl, inr, zero-add, arith, length-drop, length-take, get_or-drop, get_or-take}
use native.Mathlib.Nat.{div-lt_iff_lt-mul}
use Rattle.std.proofs.lemmas.List.{length-replicate}
use Rattle.std.proofs.lemmas.Bool.{and_parts, and_from, leb-true, ltb-true, le-leb, lt-ltb, cases_Bool, cases_lt, both_ways}
use Rattle.std.proofs.lemmas.Bool.Decides.{nat_tests}
use Rattle.std.proofs.lemmas.Grind.{div_ceil_times}
use Rattle.rules.specs.Overlay.{overlay}
use Rattle.rules.specs.Cache.{within, flagged, all_flagged}
use Rattle.rules.proofs.Flags.{length-flagged, get_or-flagged, all_flagged_tells, set-between, within_span}

-- a quotient rounded up
rounded_up : (a g : ℕ) → 0 < g → (a + (g - 1)) / g ≡ a / g + min 1 (a % g)
rounded_up a g some =
    let n = a / g + min 1 (a % g) in
    let times = div_ceil_times a g some in
    let most : (a + (g - 1)) / g < suc n = (div-lt_iff_lt-mul some).1 (omega arith) in
    elim (cases_lt ((a + (g - 1)) / g) n) [
      | inl less ↦ let m : a + (g - 1) < n * g = (div-lt_iff_lt-mul some).0 less in absurd (omega arith)
      | inr more ↦ omega arith
    ]

span_max : (a b q : ℕ) → (leb a q && ltb q b) ≡ (leb a q && ltb q (max b a))
span_max a b q = grind (arith, nat_tests)

pub granules_within : (g from size start end : ℕ) → 1 ≤ g → start ≡ from / g + min 1 (from % g) → end ≡ max ((from + size) / g) start → (q : ℕ) → within g from size q ≡ (leb start q && ltb q end)
granules_within g from size start end some f e q =
    within_span g from size some q ∙ ap (λ n. leb n q && ltb q ((from + size) / g)) (rounded_up from g some ∙ sym f) ∙ span_max start ((from + size) / g) q ∙ ap (λ n. leb start q && ltb q n) (sym e)

module _ (g from size start end : ℕ) (spans : (q : ℕ) → within g from size q ≡ (leb start q && ltb q end)) (fs : List Bool) (fits : end ≤ length fs) where
  -- the flags of those granules by themselves
  abbrev own : List Bool
  own = take (end - start) (drop start fs)

  length-own : length own ≡ end - start
  length-own = length-take (end - start) (drop start fs) ∙ omega (arith, length-drop start fs)

  get_or-own : (i : ℕ) → i < end - start → get_or own i false ≡ get_or fs (start + i) false
  get_or-own i h = get_or-take (end - start) (drop start fs) i false h ∙ get_or-drop start fs i false

  pub flagged_granules : start ≤ end → flagged g from size 0 fs ≡ overlay start (replicate (length own) true) fs
  flagged_granules order =
      set-between start end fs (flagged g from size 0 fs) order fits (length-flagged g from size 0 fs)
      (λ i h. get_or-flagged g from size 0 fs i h ∙ ap (λ w. get_or fs i false || w) (ap (within g from size) (zero-add i) ∙ spans i))
      ∙ ap₂ (λ n m. take start fs ++ (replicate n true ++ drop m fs)) (sym length-own) (omega (arith, length-own, length-replicate (length own) true))

  pub all_granules : ((i : ℕ) → i < length own → get_or own i false ≡ true) → all_flagged g from size 0 fs ≡ true
  all_granules each = (all_flagged_tells g from size fs).1 (λ i h w.
      let parts = and_parts (leb start i) (ltb i end) (sym (spans i) ∙ w) in
      let low : start ≤ i = leb-true start i parts.0 in
      let high : i < end = ltb-true i end parts.1 in
      ap (λ n. get_or fs n false) (omega arith) ∙ sym (get_or-own (i - start) (omega arith)) ∙ each (i - start) (omega (arith, length-own)))

  pub lacking_granule : (i : ℕ) → i < length own → get_or own i false ≡ false → all_flagged g from size 0 fs ≡ false
  lacking_granule i h lacks =
      let inside : i < end - start = omega (arith, length-own) in
      let lacking = sym (get_or-own i inside) ∙ lacks in
      elim (cases_Bool (all_flagged g from size 0 fs)) [
        | inl t ↦ absurd (both_ways (get_or fs (start + i) false) lacking ((all_flagged_tells g from size fs).0 t (start + i) (omega arith) (spans (start + i) ∙ and_from (leb start (start + i)) (ltb (start + i) end) (le-leb start (start + i) (omega arith)) (lt-ltb (start + i) end (omega arith)))))
        | inr f ↦ f
      ]
