-- A list laid over part of another: its length, its beginning and its elements.
use Rattle.std.proofs.Common.{◌≡◌, ℕ, suc, ◌+◌, ◌-◌, ◌<◌, ◌≤◌, cond, ◌&&◌, ltb, leb, List, [], ◌∷◌, ◌++◌, length, get_or, take, drop, set, sym, refl, ap, ◌∙◌, ap₂, inl, inr, append_assoc, add-zero, arith, length-append, length-drop, take-append-drop, length-take, length-take-le, get_or-take, take_at}
use Rattle.std.proofs.lemmas.List.{get_or_append_left, get_or-append_right, get_or-drop, drop_at, take_more_set, drop-set-lt}
use Rattle.std.proofs.lemmas.Bool.{cases_lt, and_left, and_right, and_from, le-leb, lt-leb, lt-ltb, le-ltb, cond-true, cond-false}
use Rattle.rules.specs.Overlay.{overlay}

pub length-overlay : {X : Type 0} (p : ℕ) (new old : List X) → p + length new ≤ length old → length (overlay p new old) ≡ length old
length-overlay p new old h =
    length-append (take p old) (new ++ drop (p + length new) old) ∙ omega (arith, length-append new (drop (p + length new) old), length-take p old, length-drop (p + length new) old)

pub overlay_none : {X : Type 0} (p : ℕ) (old : List X) → overlay p [] old ≡ old
overlay_none p old = ap (λ n. take p old ++ drop n old) (add-zero p) ∙ take-append-drop p old

pub overlay-more : {X : Type 0} (p : ℕ) (b : X) (new old : List X) → p < length old → overlay p (b ∷ new) old ≡ overlay (p + 1) new (set old p b)
overlay-more {X} p b new old h =
    let after : p + 1 + length new ≡ p + suc (length new) = omega arith in
    let past : p < p + 1 + length new = omega arith in
    sym
    (ap₂ (λ (front back : List X). front ++ (new ++ back)) (take_more_set old p b h) (drop-set-lt (p + 1 + length new) old p b past)
    ∙ append_assoc (take p old) (b ∷ []) (new ++ drop (p + 1 + length new) old)
    ∙ ap (λ n. take p old ++ (b ∷ (new ++ drop n old))) after)

pub take-overlay : {X : Type 0} (p : ℕ) (new old : List X) → p ≤ length old → take (p + length new) (overlay p new old) ≡ take p old ++ new
take-overlay p new old h =
    let front : length (take p old ++ new) ≡ p + length new = length-append (take p old) new ∙ ap (λ n. n + length new) (length-take-le p old h) in
    ap (take (p + length new)) (sym (append_assoc (take p old) new (drop (p + length new) old))) ∙ take_at (take p old ++ new) (drop (p + length new) old) (p + length new) front

-- what was laid over lies there
pub overlay_at : {X : Type 0} (from : ℕ) (new old : List X) → from + length new ≤ length old → take (length new) (drop from (overlay from new old)) ≡ new
overlay_at from new old h =
    let front : length (take from old) ≡ from = length-take-le from old (omega arith) in
    ap (take (length new)) (drop_at (take from old) (new ++ drop (from + length new) old) from front) ∙ take_at new (drop (from + length new) old) (length new) refl

-- a place of what was overlaid
pub get_or-overlay : {X : Type 0} (from size : ℕ) (new old : List X) (i : ℕ) (d : X) → length new ≡ size → from + size ≤ length old
    → get_or (overlay from new old) i d ≡ cond (leb from i && ltb i (from + size)) (get_or new (i - from) d) (get_or old i d)
get_or-overlay from size new old i d long fits =
    elim (cases_lt i from) [
      | inl low ↦ get_or_append_left (take from old) _ d i (omega (arith, front)) ∙ get_or-take from old i d low ∙ sym (cond-false _ _ _ (and_left (leb from i) (ltb i (from + size)) (lt-leb from i low)))
      | inr past ↦
          get_or-append_right (take from old) _ from i d front past
          ∙ elim (cases_lt i (from + size)) [
            | inl high ↦
                get_or_append_left new _ d (i - from) (omega arith) ∙ sym (cond-true _ _ _ (and_from (leb from i) (ltb i (from + size)) (le-leb from i past) (lt-ltb i (from + size) high)))
            | inr behind ↦
                get_or-append_right new _ size (i - from) d long (omega arith) ∙ get_or-drop (from + length new) old (i - from - size) d ∙ ap (λ n. get_or old n d) (omega arith)
                ∙ sym (cond-false _ _ _ (and_right (leb from i) (ltb i (from + size)) (le-ltb i (from + size) behind)))
          ]
    ]
  where
    front : length (take from old) ≡ from
    front = length-take-le from old (omega arith)
