-- What a change of one line, or of one set's order of use, does to the sets of a cache.
use Rattle.std.proofs.Common.{◌≡◌, ℕ, zero, suc, ◌+◌, ◌*◌, ◌<◌, ◌≤◌, List, [], ◌∷◌, length, get_or, set, sym, refl, ap, ◌∙◌, ap₂, inl, inr, add-zero, arith, get_or-set_other, get_or-take, get_or-set_same}
use Rattle.std.proofs.lemmas.List.{length-map, length-set, get_or-map, same_lists}
use Rattle.std.proofs.lemmas.Bool.{cases_eq, cases_lt}
use Rattle.rules.specs.Cache.{new_line}
use Rattle.rules.specs.declared.cache.Line.{Line}
use Rattle.cache.specs.Recency.{recent}
use Rattle.cache.specs.View.{line_in, lines_of, sets_from}
use Rattle.cache.specs.declared.recency.Recency.{Recency}
use Rattle.cache.proofs.Order.{length-recent}

module _ (r : Recency) where
  place_is : (i : ℕ) → i < length (recent r) → get_or (recent r) i 0 ≡ get_or r.order i 0
  place_is i h = get_or-take r.used r.order i 0 (omega (arith, length-recent r))

  pub way_below : (i : ℕ) → i < length (recent r) → get_or (recent r) i 0 < 4
  way_below i h = omega (arith, place_is i h, r.ways i 0 (omega (arith, length-recent r, r.few, r.four)))

  -- no way stands at two places
  pub ways_apart : (i j : ℕ) → i < length (recent r) → j < length (recent r) → (i ≡ j → ⊥) → get_or (recent r) i 0 ≡ get_or (recent r) j 0 → ⊥
  ways_apart i j h l ne e =
      let four = length-recent r in
      let same : get_or r.order i 0 ≡ get_or r.order j 0 = sym (place_is i h) ∙ e ∙ place_is j l in
      elim (cases_lt i j) [
        | inl less ↦ r.apart i j 0 less (omega (arith, r.few, r.four)) same
        | inr more ↦ r.apart j i 0 (omega arith) (omega (arith, r.few, r.four)) (sym same)
      ]

pub get_or-lines_of : (lines : List Line) (s : ℕ) (r : Recency) (p : ℕ) (d : Line) → p < length (recent r) → get_or (lines_of lines s r) p d ≡ line_in lines s (get_or (recent r) p 0)
get_or-lines_of lines s r p d h = get_or-map (line_in lines s) (recent r) p 0 d h

pub length-lines_of : (lines : List Line) (s : ℕ) (r : Recency) → length (lines_of lines s r) ≡ length (recent r)
length-lines_of lines s r = length-map (recent r) (line_in lines s)

pub get_or-sets_from : (lines : List Line) (s : ℕ) (rs : List Recency) (i : ℕ) (r : Recency) → i < length rs → r ≡ get_or rs i r → get_or (sets_from lines s rs) i [] ≡ lines_of lines (s + i) r
get_or-sets_from lines s [] i r h e = absurd (omega arith)
get_or-sets_from lines s (q ∷ rs) zero r h e = ap₂ (lines_of lines) (sym (add-zero s)) (sym e)
get_or-sets_from lines s (q ∷ rs) (suc i) r h e = get_or-sets_from lines (suc s) rs i r (omega arith) e ∙ ap (λ n. lines_of lines n r) (omega arith)

-- another order of use
pub set_order : (lines : List Line) (s : ℕ) (rs : List Recency) (i : ℕ) (r : Recency) → sets_from lines s (set rs i r) ≡ set (sets_from lines s rs) i (lines_of lines (s + i) r)
set_order lines s [] i r = refl
set_order lines s (q ∷ rs) zero r = ap (λ n. lines_of lines n r ∷ sets_from lines (suc s) rs) (sym (add-zero s))
set_order lines s (q ∷ rs) (suc i) r =
    ap (λ (ls : List (List Line)). lines_of lines s q ∷ ls) (set_order lines (suc s) rs i r ∙ ap (λ n. set (sets_from lines (suc s) rs) i (lines_of lines n r)) (omega arith))

-- a line of another set
other_set : (lines : List Line) (s : ℕ) (r : Recency) (slot : ℕ) (l : Line) → ((way : ℕ) → way < 4 → 4 * s + way ≡ slot → ⊥) → lines_of (set lines slot l) s r ≡ lines_of lines s r
other_set lines s r slot l away =
    same_lists _ _ (length-lines_of (set lines slot l) s r ∙ sym (length-lines_of lines s r)) (λ p d h.
    let inside : p < length (recent r) = omega (arith, length-lines_of (set lines slot l) s r) in
    get_or-lines_of (set lines slot l) s r p d inside
    ∙ get_or-set_other lines slot (4 * s + get_or (recent r) p 0) l (new_line [] 0) (away (get_or (recent r) p 0) (way_below r p inside))
    ∙ sym (get_or-lines_of lines s r p d inside))

-- a line of the set itself
own_set : (lines : List Line) (s : ℕ) (r : Recency) (p : ℕ) (l : Line) → p < length (recent r) → 4 * s + 4 ≤ length lines → lines_of (set lines (4 * s + get_or (recent r) p 0) l) s r ≡ set (lines_of lines s r) p l
own_set lines s r p l h fits =
    same_lists _ _ (length-lines_of changed s r ∙ sym (length-set (lines_of lines s r) p l ∙ length-lines_of lines s r)) (λ q d g.
    let inside : q < length (recent r) = omega (arith, length-lines_of changed s r) in
    get_or-lines_of changed s r q d inside ∙ at q d inside)
  where
    slot : ℕ
    slot = 4 * s + get_or (recent r) p 0

    changed : List Line
    changed = set lines slot l

    at : (q : ℕ) (d : Line) → q < length (recent r) → line_in changed s (get_or (recent r) q 0) ≡ get_or (set (lines_of lines s r) p l) q d
    at q d inside = elim (cases_eq q p) [
      | inl e ↦ ap (λ n. line_in changed s (get_or (recent r) n 0)) e
          ∙ get_or-set_same lines slot l (new_line [] 0) (omega (arith, way_below r p h))
          ∙ sym (ap (λ n. get_or (set (lines_of lines s r) p l) n d) e ∙ get_or-set_same (lines_of lines s r) p l d (omega (arith, length-lines_of lines s r)))
      | inr ne ↦ get_or-set_other lines slot (4 * s + get_or (recent r) q 0) l (new_line [] 0) (λ e. ways_apart r q p inside h ne (omega arith))
          ∙ sym (get_or-set_other (lines_of lines s r) p q l d ne ∙ get_or-lines_of lines s r q d inside)
    ]

-- a line of no set from s on
before_sets : (lines : List Line) (s : ℕ) (rs : List Recency) (slot : ℕ) (l : Line) → slot < 4 * s → sets_from (set lines slot l) s rs ≡ sets_from lines s rs
before_sets lines s [] slot l h = refl
before_sets lines s (r ∷ rs) slot l h =
    ap₂ (λ (x : List Line) (xs : List (List Line)). x ∷ xs) (other_set lines s r slot l (λ way w e. omega arith)) (before_sets lines (suc s) rs slot l (omega arith))

-- another line at a place of a set
pub set_line : (lines : List Line) (s : ℕ) (rs : List Recency) (i : ℕ) (r : Recency) (p : ℕ) (l : Line) → i < length rs → r ≡ get_or rs i r → p < length (recent r) → 4 * (s + length rs) ≤ length lines
    → sets_from (set lines (4 * (s + i) + get_or (recent r) p 0) l) s rs ≡ set (sets_from lines s rs) i (set (lines_of lines (s + i) r) p l)
set_line lines s [] i r p l h e g fits = absurd (omega arith)
set_line lines s (q ∷ rs) zero r p l h e g fits =
    let slot = 4 * (s + 0) + get_or (recent r) p 0 in
    let here : lines_of (set lines slot l) s q ≡ set (lines_of lines (s + 0) r) p l =
    ap₂ (lines_of (set lines slot l)) (sym (add-zero s)) (sym e) ∙ own_set lines (s + 0) r p l g (omega arith) in
    ap₂ (λ (x : List Line) (xs : List (List Line)). x ∷ xs) here (before_sets lines (suc s) rs slot l (omega (arith, way_below r p g)))
set_line lines s (q ∷ rs) (suc i) r p l h e g fits =
    let slot = 4 * (s + suc i) + get_or (recent r) p 0 in
    let on : slot ≡ 4 * (suc s + i) + get_or (recent r) p 0 = omega arith in
    ap₂ (λ (x : List Line) (xs : List (List Line)). x ∷ xs) (other_set lines s q slot l (λ way w f. omega arith))
    (ap (λ n. sets_from (set lines n l) (suc s) rs) on ∙ set_line lines (suc s) rs i r p l (omega arith) e g (omega arith) ∙ ap (λ n. set (sets_from lines (suc s) rs) i (set (lines_of lines n r) p l)) (omega arith))
