-- Words and lines as parts of a list.
use Rattle.std.proofs.Common.{◌≡◌, ℕ, suc, ◌+◌, ◌<◌, ◌≤◌, Bool, true, false, eqb, List, [], ◌∷◌, cond, length, take, take_all, drop, Some, None, inl, inr, sym, refl, ap, ◌∙◌, arith, rules, length-drop}
use Rattle.std.specs.Slice.{IsGetRangeResult}
use Rattle.std.specs.Borrow.{Bor}
use Rattle.std.specs.Prelude.{Option, unwrap_or}
use Rattle.std.proofs.lemmas.List.{drop_all, take_rest}
use Rattle.std.proofs.lemmas.List.Recursion.{is_position_or_len}
use Rattle.std.specs.Prelude.{nat_lt}
use Rattle.std.specs.List.{position, position_or_len}
use Rattle.std.proofs.lemmas.Bool.{cond-true, cond-false, cond_both, ne_eqb, lt-ltb, le-ltb, cases_lt}
use Rattle.text.specs.Lines.{up_to, onto, lines_of, word_at, past, no_lines}

pub up_to-take : (mark : ℕ) (bs : List ℕ) → take (length (up_to mark bs)) bs ≡ up_to mark bs
up_to-take mark [] = refl
up_to-take mark (c ∷ cs) = go (eqb c mark) refl (up_to-take mark cs)
  where
    go : (b : Bool) → eqb c mark ≡ b → take (length (up_to mark cs)) cs ≡ up_to mark cs → take (length (up_to mark (c ∷ cs))) (c ∷ cs) ≡ up_to mark (c ∷ cs)
    go true e ih = ap (λ l. take (length l) (c ∷ cs)) (cond-true (eqb c mark) _ _ e) ∙ sym (cond-true (eqb c mark) _ _ e)
    go false e ih = ap (λ l. take (length l) (c ∷ cs)) (cond-false (eqb c mark) _ _ e) ∙ ap (λ l. c ∷ l) ih ∙ sym (cond-false (eqb c mark) _ _ e)

length-up_to : (mark : ℕ) (bs : List ℕ) → length (up_to mark bs) ≡ position_or_len (λ b. eqb b mark) bs
length-up_to mark bs = is_position_or_len (λ cs. length (up_to mark cs)) (λ b. eqb b mark) refl (λ c cs. step (eqb c mark) c cs) bs
  where
    step : (b : Bool) (c : ℕ) (cs : List ℕ) → length (cond b [] (c ∷ up_to mark cs)) ≡ cond b 0 (1 + length (up_to mark cs))
    step true c cs = refl
    step false c cs = omega arith

some_same : (x y : ℕ) → Some x ≡ Some y → x ≡ y
some_same x y e = cc

some-none : (x : ℕ) → Some x ≡ None → ⊥
some-none x e = let z : ◌≡◌ {A = ℕ} 0 1 = cc in omega arith

-- what stands before the first mark, where there is one, and else all
module _ (mark : ℕ) (bs : List ℕ) where
  abbrev mark_at : ℕ
  mark_at = position_or_len (λ b. eqb b mark) bs

  pub up_to_found : (end : ℕ) → position (λ b. eqb b mark) bs ≡ Some end → take end bs ≡ up_to mark bs
  up_to_found end e = ap (λ n. take n bs) (sym (length-up_to mark bs ∙ here)) ∙ up_to-take mark bs
    where
      here : mark_at ≡ end
      here = elim (cases_lt mark_at (length bs)) [
        | inl inside ↦ some_same _ _ (sym (cond-true (nat_lt mark_at (length bs)) _ _ (lt-ltb _ _ inside)) ∙ e)
        | inr past ↦ absurd (some-none end (sym e ∙ cond-false (nat_lt mark_at (length bs)) _ _ (le-ltb _ _ past)))
      ]

  pub up_to_whole : position (λ b. eqb b mark) bs ≡ None → bs ≡ up_to mark bs
  up_to_whole e = sym (take_all (length (up_to mark bs)) bs past) ∙ up_to-take mark bs
    where
      past : length bs ≤ length (up_to mark bs)
      past = elim (cases_lt mark_at (length bs)) [
        | inl inside ↦ absurd (some-none mark_at (sym (cond-true (nat_lt mark_at (length bs)) _ _ (lt-ltb _ _ inside)) ∙ e))
        | inr l ↦ omega (arith, length-up_to mark bs)
      ]

length-up_to-le : (mark : ℕ) (bs : List ℕ) → length (up_to mark bs) ≤ length bs
length-up_to-le mark [] = omega arith
length-up_to-le mark (c ∷ cs) = cond_both (eqb c mark) [] (c ∷ up_to mark cs) (λ l. length l ≤ suc (length cs)) (λ _. omega arith) (λ _. omega (arith, length-up_to-le mark cs))

-- a word ends within its line
pub word_inside : (line word : List ℕ) (at : ℕ) → at ≤ length line → word ≡ word_at line at → at + (length word + 1) ≤ length line + 1
word_inside line word at inside is = omega (arith, ap length is, length-up_to-le 32 (drop at line), length-drop at line)

-- the first line of a text that has one, and the lines after it
pub lines_are : (bs : List ℕ) → 0 < length bs → lines_of bs ≡ up_to 10 bs ∷ lines_of (drop (length (up_to 10 bs) + 1) bs)
lines_are [] h = absurd (omega arith)
lines_are (c ∷ cs) h = go (eqb c 10) refl cs (λ l. lines_are cs l)
  where
    go : (b : Bool) → eqb c 10 ≡ b → (ds : List ℕ) → (0 < length ds → lines_of ds ≡ up_to 10 ds ∷ lines_of (drop (length (up_to 10 ds) + 1) ds)) → lines_of (c ∷ ds) ≡ up_to 10 (c ∷ ds) ∷ lines_of (drop (length (up_to 10 (c ∷ ds)) + 1) (c ∷ ds))
    go true e ds ih =
        cond-true (eqb c 10) _ _ e ∙ sym (ap (λ l. l ∷ lines_of (drop (length l + 1) (c ∷ ds))) (cond-true (eqb c 10) _ _ e))
    go false e [] ih =
        cond-false (eqb c 10) _ _ e ∙ sym (ap (λ l. l ∷ lines_of (drop (length l + 1) (c ∷ []))) (cond-false (eqb c 10) _ _ e))
    go false e (d ∷ ds) ih =
        let rest = up_to 10 (d ∷ ds) in
        let far : length (c ∷ rest) + 1 ≡ suc (length rest + 1) = omega arith in
        cond-false (eqb c 10) _ _ e ∙ ap (onto c) (ih (omega arith))
        ∙ sym (ap (λ l. l ∷ lines_of (drop (length l + 1) (c ∷ d ∷ ds))) (cond-false (eqb c 10) _ _ e) ∙ ap (λ k. (c ∷ rest) ∷ lines_of (drop k (c ∷ d ∷ ds))) far)

pub no_lines_lem : (bs : List ℕ) → length bs ≡ 0 → lines_of bs ≡ []
no_lines_lem [] h = refl
no_lines_lem (c ∷ cs) h = absurd (omega arith)

pub no_lines_is : (bs : List ℕ) → no_lines (lines_of bs) ≡ eqb (length bs) 0
no_lines_is [] = refl
no_lines_is (c ∷ cs) = ap no_lines (lines_are (c ∷ cs) (omega arith)) ∙ sym (ne_eqb (length (c ∷ cs)) 0 (λ e. omega arith))

-- what is left of a text after so many bytes
pub left_after : (bs : List ℕ) (n : ℕ) (o : Option (Bor (List ℕ))) (empty : Bor (List ℕ)) → empty.now ≡ [] → IsGetRangeResult bs n (length bs) o → (unwrap_or o empty).now ≡ drop n bs
left_after bs n None empty e h = e ∙ search (rules, drop_all)
left_after bs n (Some r) empty e h = search (rules, take_rest)
