-- What the operations do to the sets of a cache, from what they do to its table and orders of use.
use Rattle.std.proofs.Common.{◌≡◌, ℕ, zero, suc, ◌+◌, ◌*◌, ◌%◌, ◌<◌, List, [], ◌∷◌, map, length, get_or, set, replicate, Some, vec_items, vec_len, sym, refl, ap, ◌∙◌, ap₂, zero-add, arith}
use Rattle.std.proofs.lemmas.Nat.{mod_below}
use Rattle.std.proofs.lemmas.List.{get_or_read, get_or-set_same, length-set, set-get_or, set-set}
use Rattle.rules.specs.Cache.{staled, first, holds, forward, invalidated_in, on_set}
use Rattle.rules.specs.declared.cache.Line.{Line}
use Rattle.rules.proofs.Sets.{first_at, invalidated_at, invalidated_none}
use Rattle.rules.proofs.Flags.{sets_bounds}
use Rattle.cache.specs.Lookup.{block_set, AbsentBelow, Lies, ComesForward, Brings}
use Rattle.cache.specs.Recency.{recent}
use Rattle.cache.specs.View.{settings_of, blank, table_of, lines_of, sets_from, sets_of}
use Rattle.cache.specs.declared.recency.Recency.{Recency}
use Rattle.cache.specs.declared.sets.Cache.{Cache}
use Rattle.cache.proofs.Lookup.{IsSetOf, ways_are, set_is, set_long, roomy}
use Rattle.cache.proofs.View.{set_line}

-- sets that use no way are empty
pub empty_sets : (lines : List Line) (s n : ℕ) (r : Recency) → recent r ≡ [] → sets_from lines s (replicate n r) ≡ replicate n []
empty_sets lines s zero r e = refl
empty_sets lines s (suc n) r e = ap₂ (λ (ls : List Line) (rest : List (List Line)). ls ∷ rest) (ap (map _) e) (empty_sets lines (suc s) n r e)

-- a line of the table that was found
pub found_line : (block : ℕ) (c : Cache) (place slot : ℕ) (l : Line) → Lies block c place slot → l ≡ get_or (table_of c) slot l → first (holds block) (block_set block c) ≡ Some l
found_line block c place slot l at is =
    first_at (holds block) (block_set block c) place blank at.inside at.holding at.before ∙ ap Some (at.line ∙ sym (get_or_read (table_of c) slot l at.slotted is blank))

-- a change in place

some_order : (rs : List Recency) (s : ℕ) → s < length rs → (r : Recency) × (r ≡ get_or rs s r)
some_order [] s h = absurd (omega arith)
some_order (r ∷ rs) zero h = (r, refl)
some_order (r ∷ rs) (suc s) h = some_order rs s (omega arith)

set_inside : (block : ℕ) (c : Cache) → block % (settings_of c).sets < vec_len c.orders
set_inside block c = omega (arith, mod_below block (settings_of c).sets (omega (arith, (sets_bounds (settings_of c) c.shape.proper).0)), c.many)

pub placed_sets : (block : ℕ) (c : Cache) (place slot : ℕ) (w : Line) → Lies block c place slot
    → sets_from (set (table_of c) slot w) 0 (vec_items c.orders) ≡ on_set (settings_of c) block (λ ls. set ls place w) (sets_of c)
placed_sets block c place slot w at =
    let s = block % (settings_of c).sets in
    let inside = set_inside block c in
    let some = some_order (vec_items c.orders) s (omega (arith, inside, c.orders.ok.0)) in
    let r = some.0 in
    let home : IsSetOf block c s r = record { is = refl; inside = inside; order = some.1 } in
    let ways = ways_are home in
    let ls = set_is home in
    let none : 0 + s ≡ s = zero-add s in
    let slot_is : slot ≡ 4 * (0 + s) + get_or (recent r) place 0 = at.way ∙ ap₂ (λ (a b : ℕ). 4 * a + b) (sym none) (ap (λ (xs : List ℕ). get_or xs place 0) ways) in
    ap (λ n. sets_from (set (table_of c) n w) 0 (vec_items c.orders)) slot_is
    ∙ set_line (table_of c) 0 (vec_items c.orders) s r place w (omega (arith, inside, c.orders.ok.0)) some.1 (omega (arith, at.inside, set_long home)) (omega (arith, roomy home))
    ∙ ap (λ xs. set (sets_of c) s (set xs place w)) (ap (λ n. lines_of (table_of c) n r) none ∙ sym ls)

pub stale_sets : (block : ℕ) (c : Cache) (place slot : ℕ) (l w : Line) → Lies block c place slot → l ≡ get_or (table_of c) slot l → w ≡ staled l
    → sets_from (set (table_of c) slot w) 0 (vec_items c.orders) ≡ on_set (settings_of c) block (invalidated_in block) (sets_of c)
stale_sets block c place slot l w at is e =
    let same : l ≡ get_or (block_set block c) place blank = get_or_read (table_of c) slot l at.slotted is blank ∙ sym at.line in
    placed_sets block c place slot w at
    ∙ ap (set (sets_of c) (block % (settings_of c).sets)) (ap (set (block_set block c) place) (e ∙ ap staled same) ∙ sym (invalidated_at block (block_set block c) place blank at.inside at.holding at.before))

pub absent_sets : (block : ℕ) (c : Cache) → AbsentBelow block (block_set block c) (length (block_set block c)) → sets_of c ≡ on_set (settings_of c) block (invalidated_in block) (sets_of c)
absent_sets block c none =
    let s = block % (settings_of c).sets in
    sym (ap (set (sets_of c) s) (invalidated_none block (block_set block c) blank none) ∙ set-get_or (sets_of c) s [])

-- a block has come forward, and its slot gets the line w
pub brings : (block : ℕ) (fill : List ℕ) (before after end : Cache) (slot : ℕ) (w : Line) → ComesForward block before after slot
    → settings_of end ≡ settings_of after → table_of end ≡ set (table_of after) slot w → vec_items end.orders ≡ vec_items after.orders
    → w ≡ forward fill block (first (holds block) (block_set block before)) → Brings block fill before end slot
brings block fill before after end slot w comes settings table orders came =
    let same : table_of after ≡ table_of before = ap (λ t. vec_items t.lines) comes.table in
    let held : slot < length (table_of after) = omega (arith, comes.slotted, ap length same) in
    record {
      settings = settings ∙ ap (λ s. s.settings) comes.shape;
      slotted = omega (arith, held, ap length table, length-set (table_of after) slot w, end.table.lines.ok.0);
      line = λ l is. is ∙ ap (λ t. get_or t slot l) table ∙ get_or-set_same (table_of after) slot w l held ∙ came;
      sets = λ l. ap₂ (λ t rs. sets_from t 0 rs) (ap (λ t. set t slot l) table ∙ set-set (table_of after) slot w l ∙ ap (λ t. set t slot l) same) orders ∙ comes.sets l;
    }
