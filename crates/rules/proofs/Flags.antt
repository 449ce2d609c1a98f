-- Flags of granules, place by place and as slices; what the sizes of settings and accesses say.
use Rattle.std.proofs.Common.{◌≡◌, ℕ, zero, suc, ◌+◌, ◌-◌, ◌*◌, ◌/◌, ◌%◌, ◌<◌, ◌≤◌, Bool, true, false, not, ◌&&◌, ◌||◌, ltb, leb, ◌⊎◌, List, [], ◌∷◌, ◌++◌, length, get_or, take, drop, replicate, Decides, sym, refl, ap, ◌∙◌, subst, ap₂, inl, inr, add-zero, div-lt_iff_lt-mul, one-mul, le-div_iff_mul-le, zero-add, div-mul-le_self, arith}
use mathlib.Core.Bool.{or-true, or-false}
use Rattle.std.proofs.lemmas.List.{ext_get_or, length-append, length-take-le, length-drop, length-replicate, get_or_append_left, get_or-append_right, get_or-take, get_or-drop, get_or-replicate}
use Rattle.std.proofs.lemmas.Bool.{and_parts, and_from, and_right, leb-true, ltb-true, le-leb, lt-leb, lt-ltb, le-ltb, cases_lt, not-true}
use Rattle.std.proofs.lemmas.Bool.Decides.{same_from_decides, nat_tests}
use Rattle.rules.specs.Cache.{is_size, are_settings, offset_of, region_size, region_from, within, flagged, all_flagged}
use Rattle.rules.specs.CacheLaws.{Covered}
use Rattle.rules.specs.declared.cache.Settings.{Settings}

-- sizes

pub size_cases : (n : ℕ) → is_size n ≡ true → (n ≡ 1) ⊎ ((n ≡ 2) ⊎ ((n ≡ 4) ⊎ (n ≡ 8)))
size_cases n t = grind (arith, nat_tests)

pub by_size : (P : ℕ → Type 0) → P 1 → P 2 → P 4 → P 8 → (n : ℕ) → is_size n ≡ true → P n
by_size P one two four eight n t =
    elim (size_cases n t) [
      | inl e ↦ subst P (sym e) one
      | inr r ↦ elim r [ inl e ↦ subst P (sym e) two | inr s ↦ elim s [ inl e ↦ subst P (sym e) four | inr e ↦ subst P (sym e) eight ] ]
    ]

pub size_some : (n : ℕ) → is_size n ≡ true → 1 ≤ n
size_some n t = grind (arith, nat_tests)

pub granule_size : (k : Settings) → are_settings k ≡ true → is_size k.granule ≡ true
granule_size k t = grind (arith, nat_tests)

pub sets_bounds : (k : Settings) → are_settings k ≡ true → (1 ≤ k.sets) × (k.sets ≤ 16)
sets_bounds k t = grind (arith, nat_tests)

pub ways_bounds : (k : Settings) → are_settings k ≡ true → (1 ≤ k.ways) × (k.ways ≤ 4)
ways_bounds k t = grind (arith, nat_tests)

-- flags, place by place

pub length-flagged : (g from size q : ℕ) (fs : List Bool) → length (flagged g from size q fs) ≡ length fs
length-flagged g from size q [] = refl
length-flagged g from size q (f ∷ fs) = ap suc (length-flagged g from size (suc q) fs)

pub get_or-flagged : (g from size q : ℕ) (fs : List Bool) (i : ℕ) → i < length fs → get_or (flagged g from size q fs) i false ≡ (get_or fs i false || within g from size (q + i))
get_or-flagged g from size q [] i h = absurd (omega arith)
get_or-flagged g from size q (f ∷ fs) zero h = ap (λ n. f || within g from size n) (sym (add-zero q))
get_or-flagged g from size q (f ∷ fs) (suc i) h =
    let on : suc q + i ≡ q + suc i = omega arith in
    get_or-flagged g from size (suc q) fs i (omega arith) ∙ ap (λ n. get_or fs i false || within g from size n) on

-- all flags in the stretch, from granule q on
all_to : (g from size q : ℕ) (fs : List Bool) → all_flagged g from size q fs ≡ true → (i : ℕ) → i < length fs → within g from size (q + i) ≡ true → get_or fs i false ≡ true
all_to g from size q [] t i h w = absurd (omega arith)
all_to g from size q (f ∷ fs) t zero h w =
    go f (within g from size q) (and_parts (f || not (within g from size q)) _ t).0 (ap (within g from size) (sym (add-zero q)) ∙ w)
  where
    go : (f w : Bool) → (f || not w) ≡ true → w ≡ true → f ≡ true
    go true w o e = refl
    go false true o e = o
    go false false o e = e
all_to g from size q (f ∷ fs) t (suc i) h w =
    let on : suc q + i ≡ q + suc i = omega arith in
    all_to g from size (suc q) fs (and_parts (f || not (within g from size q)) _ t).1 i (omega arith) (ap (within g from size) on ∙ w)

all_from : (g from size q : ℕ) (fs : List Bool) → ((i : ℕ) → i < length fs → within g from size (q + i) ≡ true → get_or fs i false ≡ true) → all_flagged g from size q fs ≡ true
all_from g from size q [] each = refl
all_from g from size q (f ∷ fs) each =
    and_from (f || not (within g from size q)) _ (go f (within g from size q) (λ w. each 0 (omega arith) (ap (within g from size) (add-zero q) ∙ w)))
    (all_from g from size (suc q) fs (λ i h w. let on : q + suc i ≡ suc q + i = omega arith in each (suc i) (omega arith) (ap (within g from size) on ∙ w)))
  where
    go : (f w : Bool) → (w ≡ true → f ≡ true) → (f || not w) ≡ true
    go true w h = refl
    go false true h = h refl
    go false false h = refl

pub all_flagged_tells : (g from size : ℕ) (fs : List Bool) → Decides (all_flagged g from size 0 fs) ((i : ℕ) → i < length fs → within g from size i ≡ true → get_or fs i false ≡ true)
all_flagged_tells g from size fs =
    (λ t i h w. all_to g from size 0 fs t i h (ap (within g from size) (zero-add i) ∙ w), λ each. all_from g from size 0 fs (λ i h w. each i h (ap (within g from size) (sym (zero-add i)) ∙ w)))

pub flagged_known : (g from size q : ℕ) (fs : List Bool) → all_flagged g from size q fs ≡ true → flagged g from size q fs ≡ fs
flagged_known g from size q [] t = refl
flagged_known g from size q (f ∷ fs) t =
    let parts = and_parts (f || not (within g from size q)) _ t in
    ap₂ (λ (b : Bool) (bs : List Bool). b ∷ bs) (go f (within g from size q) parts.0) (flagged_known g from size (suc q) fs parts.1)
  where
    go : (f w : Bool) → (f || not w) ≡ true → (f || w) ≡ f
    go true w o = refl
    go false w o = not-true w o

-- the region of an access

-- a greater size is a multiple of a less
size_multiple : (x a b : ℕ) → is_size a ≡ true → is_size b ≡ true → a ≤ b → (x * b) % a ≡ 0
size_multiple x a b small large =
    by_size (λ m. m ≤ b → (x * b) % m ≡ 0)
    (by_size (λ n. 1 ≤ n → (x * n) % 1 ≡ 0) (λ h. omega arith) (λ h. omega arith) (λ h. omega arith) (λ h. omega arith) b large)
    (by_size (λ n. 2 ≤ n → (x * n) % 2 ≡ 0) (λ h. omega arith) (λ h. omega arith) (λ h. omega arith) (λ h. omega arith) b large)
    (by_size (λ n. 4 ≤ n → (x * n) % 4 ≡ 0) (λ h. omega arith) (λ h. omega arith) (λ h. omega arith) (λ h. omega arith) b large)
    (by_size (λ n. 8 ≤ n → (x * n) % 8 ≡ 0) (λ h. omega arith) (λ h. omega arith) (λ h. omega arith) (λ h. omega arith) b large) a small

-- a multiple below another, and its stretch of that size
multiples_apart : (m a b : ℕ) → is_size m ≡ true → a % m ≡ 0 → b % m ≡ 0 → a < b → a + m ≤ b
multiples_apart m a b t =
    by_size (λ n. a % n ≡ 0 → b % n ≡ 0 → a < b → a + n ≤ b) (λ p q h. omega arith) (λ p q h. omega arith) (λ p q h. omega arith) (λ p q h. omega arith) m t

offset_multiple : (address size : ℕ) → is_size size ≡ true → address % size ≡ 0 → offset_of address % size ≡ 0
offset_multiple address size t =
    by_size (λ n. address % n ≡ 0 → address % 16 % n ≡ 0) (λ h. omega arith) (λ h. omega arith) (λ h. omega arith) (λ h. omega arith) size t

pub offset_fits : (address size : ℕ) → is_size size ≡ true → address % size ≡ 0 → offset_of address + size ≤ 16
offset_fits address size t =
    by_size (λ n. address % n ≡ 0 → address % 16 + n ≤ 16) (λ h. omega arith) (λ h. omega arith) (λ h. omega arith) (λ h. omega arith) size t

pub region_least : (k : Settings) (size : ℕ) → (region_size k size ≡ size) ⊎ (region_size k size ≡ k.granule)
region_least k size = elim (cases_lt size k.granule) [ inl h ↦ inr (omega arith) | inr h ↦ inl (omega arith) ]

module _ (k : Settings) (address size : ℕ) (sized : is_size size ≡ true) (granuled : is_size k.granule ≡ true) where
  pub region_sized : is_size (region_size k size) ≡ true
  region_sized = grind (arith, nat_tests)

  pub region_fits : region_from k address size + region_size k size ≤ 16
  region_fits = by_size (λ n. address % 16 / n * n + n ≤ 16) (omega arith) (omega arith) (omega arith) (omega arith) (region_size k size) region_sized

  pub region_before : region_from k address size ≤ offset_of address
  region_before = div-mul-le_self (offset_of address) (region_size k size)

  pub region_covers : address % size ≡ 0 → offset_of address + size ≤ region_from k address size + region_size k size
  region_covers h =
      let r = region_size k size in
      let next : (offset_of address / r + 1) * r ≡ offset_of address / r * r + r = omega arith in
      let above : (offset_of address / r * r + r) % size ≡ 0 = ap (λ n. n % size) (sym next) ∙ size_multiple (offset_of address / r + 1) size r sized region_sized (omega arith) in
      let below : offset_of address < offset_of address / r * r + r =
      by_size (λ n. offset_of address < offset_of address / n * n + n) (omega arith) (omega arith) (omega arith) (omega arith) r region_sized in
      multiples_apart size (offset_of address) (offset_of address / r * r + r) sized (offset_multiple address size sized h) above below

  pub region_from_granule : region_from k address size % k.granule ≡ 0
  region_from_granule = size_multiple (offset_of address / region_size k size) k.granule (region_size k size) granuled region_sized (omega arith)

  pub region_size_granule : region_size k size % k.granule ≡ 0
  region_size_granule = ap (λ n. n % k.granule) (sym (one-mul (region_size k size))) ∙ size_multiple 1 k.granule (region_size k size) granuled region_sized (omega arith)

-- flags set from place a to place b
pub set-between : (a b : ℕ) (fs gs : List Bool) → a ≤ b → b ≤ length fs → length gs ≡ length fs
    → ((i : ℕ) → i < length fs → get_or gs i false ≡ (get_or fs i false || leb a i && ltb i b)) → gs ≡ take a fs ++ (replicate (b - a) true ++ drop b fs)
set-between a b fs gs order fits same each = ext_get_or false gs (take a fs ++ (replicate (b - a) true ++ drop b fs)) (same ∙ sym long) (λ i h. at i (omega arith))
  where
    front : length (take a fs) ≡ a
    front = length-take-le a fs (omega arith)

    long : length (take a fs ++ (replicate (b - a) true ++ drop b fs)) ≡ length fs
    long = simp (length-append, length-replicate, length-drop) (omega (arith, front))

    middle : length (replicate (b - a) true) ≡ b - a
    middle = length-replicate (b - a) true

    at : (i : ℕ) → i < length fs → get_or gs i false ≡ get_or (take a fs ++ (replicate (b - a) true ++ drop b fs)) i false
    at i h =
        elim (cases_lt i a) [
          | inl low ↦
              each i h ∙ ap (λ t. get_or fs i false || t) (ap (λ t. t && ltb i b) (lt-leb a i low)) ∙ or-false (get_or fs i false)
              ∙ sym (get_or_append_left (take a fs) _ false i (omega (arith, front)) ∙ get_or-take a fs i false low)
          | inr past ↦
              elim (cases_lt i b) [
                | inl high ↦
                    each i h ∙ ap (λ t. get_or fs i false || t) (and_from (leb a i) (ltb i b) (le-leb a i past) (lt-ltb i b high)) ∙ or-true (get_or fs i false)
                    ∙ sym (get_or-append_right (take a fs) _ a i false front past ∙ get_or_append_left (replicate (b - a) true) _ false (i - a) (omega (arith, middle)) ∙ get_or-replicate (b - a) (i - a) true false (omega arith))
                | inr behind ↦
                    each i h ∙ ap (λ t. get_or fs i false || t) (and_right (leb a i) (ltb i b) (le-ltb i b behind)) ∙ or-false (get_or fs i false)
                    ∙ ap (λ n. get_or fs n false) (omega arith)
                    ∙ sym (get_or-append_right (take a fs) _ a i false front past ∙ get_or-append_right (replicate (b - a) true) (drop b fs) (b - a) (i - a) false middle (omega arith) ∙ get_or-drop b fs (i - a - (b - a)) false)
              ]
        ]

-- granules in a stretch
module _ (g from size : ℕ) (some : 1 ≤ g) where
  pub within_span : (q : ℕ) → within g from size q ≡ (leb ((from + (g - 1)) / g) q && ltb q ((from + size) / g))
  within_span q = ap₂ ◌&&◌ (same_from_decides (leb from (q * g)) (leb ((from + (g - 1)) / g) q) (tell from (q * g)) begins) (same_from_decides (leb (suc q * g) (from + size)) (ltb q ((from + size) / g)) (tell (suc q * g) (from + size)) ends)
    where
      tell : (a b : ℕ) → Decides (leb a b) (a ≤ b)
      tell a b = (leb-true a b, le-leb a b)

      begins : Decides (leb ((from + (g - 1)) / g) q) (from ≤ q * g)
      begins = (
        λ t. let low = leb-true ((from + (g - 1)) / g) q t in
            let h : (from + (g - 1)) / g < suc q = omega arith in
            let m : from + (g - 1) < suc q * g = (div-lt_iff_lt-mul some).0 h in omega arith,
        λ h. let m : from + (g - 1) < suc q * g = omega arith in
            let d : (from + (g - 1)) / g < suc q = (div-lt_iff_lt-mul some).1 m in le-leb ((from + (g - 1)) / g) q (omega arith),
      )

      ends : Decides (ltb q ((from + size) / g)) (suc q * g ≤ from + size)
      ends = (λ t. (le-div_iff_mul-le some).0 (ltb-true q ((from + size) / g) t), λ h. lt-ltb q ((from + size) / g) ((le-div_iff_mul-le some).1 h))

  pub decides_covered : (q : ℕ) → Decides (within g from size q) (Covered g from size q)
  decides_covered q = (to, back)
    where
      end : suc q * g ≡ q * g + g
      end = omega arith

      to : within g from size q ≡ true → Covered g from size q
      to t p low high =
          let parts = and_parts (leb from (q * g)) (leb (suc q * g) (from + size)) t in
          let begins = leb-true from (q * g) parts.0 in
          let ends = leb-true (suc q * g) (from + size) parts.1 in
          (omega arith, omega arith)

      back : Covered g from size q → within g from size q ≡ true
      back c =
          let front = c (q * g) (omega arith) (omega (arith, end)) in
          let rear = c (q * g + (g - 1)) (omega arith) (omega (arith, end)) in
          and_from (leb from (q * g)) (leb (suc q * g) (from + size)) (le-leb from (q * g) front.0) (le-leb (suc q * g) (from + size) (omega (arith, end)))
