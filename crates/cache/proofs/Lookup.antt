-- A block is found in its set, and comes forward.
use Rattle.std.proofs.Common.{◌≡◌, ℕ, suc, ◌+◌, ◌-◌, ◌*◌, ◌%◌, ◌<◌, ◌≤◌, false, List, [], ◌∷◌, ◌++◌, map, length, get_or, take, drop, set, vec_items, vec_len, sym, ap, ◌∙◌, subst, ap₂, zero-add, arith, get_or-set_same}
use Rattle.std.specs.List.{remove}
use Rattle.std.proofs.lemmas.List.Edits.{length-remove}
use Rattle.std.proofs.lemmas.List.{length-set, length-map, set-set, get_or-map, map-append, take-map, drop-map, take_all}
use Rattle.std.proofs.lemmas.Bool.{eq-eqb}
use Rattle.rules.specs.Cache.{holds, less, behind}
use Rattle.rules.specs.declared.cache.Line.{Line}
use Rattle.rules.proofs.Sets.{less_at, less_none}
use Rattle.cache.specs.Lookup.{ComesFirst, block_set, ways_of, AbsentBelow, Lies}
use Rattle.cache.specs.Recency.{recent, to_front}
use Rattle.cache.specs.View.{settings_of, blank, line_in, lines_of, table_of, sets_from, sets_of}
use Rattle.cache.specs.declared.recency.Recency.{Recency}
use Rattle.cache.specs.declared.sets.Cache.{Cache}
use Rattle.cache.proofs.View.{get_or-lines_of, length-lines_of, get_or-sets_from, set_order, set_line, way_below}

-- the way w of the set s comes forward with the line l, and before the others
forward_sets : (lines : List Line) (rs : List Recency) (s : ℕ) (r : Recency) (w : ℕ) (ws : List ℕ) (l : Line) → recent r ≡ w ∷ ws → s < length rs → 4 * length rs ≤ length lines
    → sets_from (set lines (4 * s + w) l) 0 (set rs s r) ≡ set (sets_from lines 0 rs) s (l ∷ map (line_in lines s) ws)
forward_sets lines rs s r w ws l is inside fits =
    let none : 0 + s ≡ s = zero-add s in
    let some : 0 < length (recent r) = omega (arith, ap length is) in
    let long : length (set rs s r) ≡ length rs = length-set rs s r in
    let slot : 4 * s + w ≡ 4 * (0 + s) + get_or (recent r) 0 0 = ap₂ (λ (a b : ℕ). 4 * a + b) (sym none) (sym (ap (λ (xs : List ℕ). get_or xs 0 0) is)) in
    ap (λ n. sets_from (set lines n l) 0 (set rs s r)) slot
    ∙ set_line lines 0 (set rs s r) s r 0 l (omega arith) (sym (get_or-set_same rs s r r inside)) some (omega arith)
    ∙ ap₂ (λ (cache : List (List Line)) (ls : List Line). set cache s ls) (set_order lines 0 rs s r) (ap₂ (λ (n : ℕ) (xs : List ℕ). set (map (line_in lines n) xs) 0 l) none is)
    ∙ set-set (sets_from lines 0 rs) s (lines_of lines (0 + s) r) (l ∷ map (line_in lines s) ws)

-- s is the set of a block, and r its order of use
pub record IsSetOf (block : ℕ) (c : Cache) (s : ℕ) (r : Recency) : Type 0 where
  pub is : s ≡ block % (settings_of c).sets
  pub inside : s < vec_len c.orders
  pub order : r ≡ get_or (vec_items c.orders) s r

module _ {block : ℕ} {c : Cache} {s : ℕ} {r : Recency} (home : IsSetOf block c s r) where
  pub within : s < length (vec_items c.orders)
  within = omega (arith, home.inside, c.orders.ok.0)

  pub roomy : 4 * length (vec_items c.orders) ≤ length (table_of c)
  roomy = omega (arith, c.orders.ok.0, c.table.lines.ok.0, c.room)

  pub set_is : block_set block c ≡ lines_of (table_of c) s r
  set_is =
      ap (λ n. get_or (sets_of c) n []) (sym home.is) ∙ get_or-sets_from (table_of c) 0 (vec_items c.orders) s r within home.order ∙ ap (λ n. lines_of (table_of c) n r) (zero-add s)

  pub ways_are : ways_of block c ≡ recent r
  ways_are = ap (λ n. get_or (map recent (vec_items c.orders)) n []) (sym home.is) ∙ get_or-map recent (vec_items c.orders) s r [] within ∙ ap recent (sym home.order)

  pub set_long : length (block_set block c) ≡ length (recent r)
  set_long = ap length set_is ∙ length-lines_of (table_of c) s r

  pub few_used : length (recent r) ≤ (settings_of c).ways
  few_used = subst (λ order. length (recent order) ≤ (settings_of c).ways) (sym home.order) (c.few s r within)

  pub line_at : (p : ℕ) → p < length (recent r) → get_or (block_set block c) p blank ≡ line_in (table_of c) s (get_or (recent r) p 0)
  line_at p h = ap (λ ls. get_or ls p blank) set_is ∙ get_or-lines_of (table_of c) s r p blank h

  pub slot_below : (p : ℕ) → p < length (recent r) → 4 * s + get_or (recent r) p 0 < length (table_of c)
  slot_below p h = omega (arith, way_below r p h, roomy, within)

  pub lies : (p : ℕ) → p < length (recent r) → (line_in (table_of c) s (get_or (recent r) p 0)).block ≡ block
      → ((i : ℕ) → i < p → holds block (line_in (table_of c) s (get_or (recent r) i 0)) ≡ false) → Lies block c p (4 * s + get_or (recent r) p 0)
  lies p h same none = record {
    inside = omega (arith, set_long);
    way = ap₂ (λ (a b : ℕ). 4 * a + b) home.is (ap (λ (xs : List ℕ). get_or xs p 0) (sym ways_are));
    slotted = slot_below p h;
    line = line_at p h;
    holding = ap (holds block) (line_at p h) ∙ eq-eqb _ block same;
    before = λ i l. ap (holds block) (line_at i (omega arith)) ∙ none i l;
  }

  pub absent : ((i : ℕ) → i < length (recent r) → holds block (line_in (table_of c) s (get_or (recent r) i 0)) ≡ false) → AbsentBelow block (block_set block c) (length (block_set block c))
  absent none i l = let h : i < length (recent r) = omega (arith, set_long) in ap (holds block) (line_at i h) ∙ none i h

  -- the ways ws stand behind a way that comes forward
  comes : (r' : Recency) (w : ℕ) (ws : List ℕ) → recent r' ≡ w ∷ ws → map (line_in (table_of c) s) ws ≡ behind (settings_of c).ways block (block_set block c)
      → ComesFirst block c (table_of c) (set (vec_items c.orders) s r') (4 * s + w)
  comes r' w ws e same l =
      forward_sets (table_of c) (vec_items c.orders) s r' w ws l e within roomy
      ∙ ap₂ (λ (n : ℕ) (ls : List Line). set (sets_of c) n (l ∷ ls)) home.is same

  pub touched : (p slot : ℕ) → Lies block c p slot → (r' : Recency) → recent r' ≡ to_front p (recent r)
      → ComesFirst block c (table_of c) (set (vec_items c.orders) s r') slot
  touched p slot at r' e l =
      let f = line_in (table_of c) s in
      let ls = block_set block c in
      let few = few_used in
      let h : p < length (recent r) = omega (arith, set_long, at.inside) in
      let slot_is : slot ≡ 4 * s + get_or (recent r) p 0 = at.way ∙ ap₂ (λ (a b : ℕ). 4 * a + b) (sym home.is) (ap (λ (xs : List ℕ). get_or xs p 0) ways_are) in
      let moved : map f (remove (recent r) p) ≡ less (holds block) ls =
      map-append f (take p (recent r)) (drop (suc p) (recent r)) ∙ ap₂ ◌++◌ (sym (take-map f p (recent r))) (sym (drop-map f (suc p) (recent r)))
      ∙ ap (λ xs. take p xs ++ drop (suc p) xs) (sym set_is) ∙ sym (less_at (holds block) ls p blank at.inside at.holding at.before) in
      let short : length (less (holds block) ls) ≤ (settings_of c).ways - 1 =
      omega (arith, ap length (sym moved), length-map (remove (recent r) p) f, length-remove (recent r) p h) in
      ap (λ n. sets_from (set (table_of c) n l) 0 (set (vec_items c.orders) s r')) slot_is
      ∙ comes r' (get_or (recent r) p 0) (remove (recent r) p) e (moved ∙ sym (take_all ((settings_of c).ways - 1) (less (holds block) ls) short)) l

  pub entered : AbsentBelow block (block_set block c) (length (block_set block c)) → (r' : Recency) (w : ℕ) → recent r' ≡ w ∷ take ((settings_of c).ways - 1) (recent r)
      → ComesFirst block c (table_of c) (set (vec_items c.orders) s r') (4 * s + w)
  entered none r' w e =
      let n = (settings_of c).ways - 1 in
      comes r' w (take n (recent r)) e
      (sym (take-map (line_in (table_of c) s) n (recent r)) ∙ ap (take n) (sym set_is ∙ sym (less_none (holds block) (block_set block c) blank none)))
