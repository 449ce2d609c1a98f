-- One set: the line of a block found, taken out, brought forward, turned stale.
use Rattle.std.proofs.Common.{◌≡◌, ℕ, zero, suc, ◌-◌, ◌<◌, Bool, true, false, cond, eqb, ◌⊎◌, List, [], ◌∷◌, ◌++◌, map, length, get_or, take, drop, set, Some, None, Option, sym, refl, ap, ◌∙◌, ap₂, inl, inr, arith}
use Rattle.std.proofs.ByRecursion.{All-take}
use Rattle.std.proofs.lemmas.List.{take-map, take-take}
use Rattle.std.proofs.lemmas.Bool.{cond-true, cond-false, cond_both, cases_Bool, eqb-true, eq-eqb, ne_eqb}
use Rattle.std.specs.List.{AllByRecursion}
use Rattle.rules.specs.Cache.{new_line, refreshed, staled, first, less, holds, forward, behind, promoted, invalidated_in}
use Rattle.rules.specs.CacheLaws.{blocks_in}
use Rattle.rules.specs.declared.cache.Line.{Line}
use Rattle.rules.specs.declared.cache.Settings.{Settings}

-- no place below n passes the test
abbrev pub NoneBelow : {X : Type 0} → (X → Bool) → List X → X → ℕ → Type 0
NoneBelow test xs d n = (i : ℕ) → i < n → test (get_or xs i d) ≡ false

module _ {X : Type 0} (test : X → Bool) where
  pub first_at : (xs : List X) (p : ℕ) (d : X) → p < length xs → test (get_or xs p d) ≡ true → NoneBelow test xs d p → first test xs ≡ Some (get_or xs p d)
  first_at [] p d h t none = absurd (omega arith)
  first_at (x ∷ xs) zero d h t none = cond-true (test x) _ _ t
  first_at (x ∷ xs) (suc p) d h t none =
      cond-false (test x) _ _ (none 0 (omega arith)) ∙ first_at xs p d (omega arith) t (λ i l. none (suc i) (omega arith))

  pub less_at : (xs : List X) (p : ℕ) (d : X) → p < length xs → test (get_or xs p d) ≡ true → NoneBelow test xs d p → less test xs ≡ take p xs ++ drop (suc p) xs
  less_at [] p d h t none = absurd (omega arith)
  less_at (x ∷ xs) zero d h t none = cond-true (test x) _ _ t
  less_at (x ∷ xs) (suc p) d h t none =
      cond-false (test x) _ _ (none 0 (omega arith)) ∙ ap (λ (l : List X). x ∷ l) (less_at xs p d (omega arith) t (λ i l. none (suc i) (omega arith)))

  pub first_none : (xs : List X) (d : X) → NoneBelow test xs d (length xs) → first test xs ≡ None
  first_none [] d none = refl
  first_none (x ∷ xs) d none = cond-false (test x) _ _ (none 0 (omega arith)) ∙ first_none xs d (λ i l. none (suc i) (omega arith))

  pub less_none : (xs : List X) (d : X) → NoneBelow test xs d (length xs) → less test xs ≡ xs
  less_none [] d none = refl
  less_none (x ∷ xs) d none =
      cond-false (test x) _ _ (none 0 (omega arith)) ∙ ap (λ (l : List X). x ∷ l) (less_none xs d (λ i l. none (suc i) (omega arith)))

  -- what is found passes the test
  pub first_passes : (P : Option X → Type 0) → P None → ((x : X) → test x ≡ true → P (Some x)) → (xs : List X) → P (first test xs)
  first_passes P none some [] = none
  first_passes P none some (x ∷ xs) = cond_both (test x) (Some x) (first test xs) P (some x) (λ _. first_passes P none some xs)

  pub first_all : (P : X → Type 0) (Q : Option X → Type 0) → Q None → ((x : X) → P x → Q (Some x)) → (xs : List X) → AllByRecursion P xs → Q (first test xs)
  first_all P Q none some [] each = none
  first_all P Q none some (x ∷ xs) each = cond_both (test x) (Some x) (first test xs) Q (λ _. some x each.0) (λ _. first_all P Q none some xs each.1)

  pub all_less : (P : X → Type 0) (xs : List X) → AllByRecursion P xs → AllByRecursion P (less test xs)
  all_less P [] each = tt
  all_less P (x ∷ xs) each = cond_both (test x) xs (x ∷ less test xs) (AllByRecursion P) (λ _. each.1) (λ _. (each.0, all_less P xs each.1))

  -- one element less of those cut off beyond n + 1
  pub take_less : (n : ℕ) (xs : List X) → take n (less test (take (suc n) xs)) ≡ take n (less test xs)
  take_less zero xs = refl
  take_less (suc n) [] = refl
  take_less (suc n) (x ∷ xs) = go (test x) (take_less n xs)
    where
      go : (z : Bool) → take n (less test (take (suc n) xs)) ≡ take n (less test xs) → take (suc n) (cond z (take (suc n) xs) (x ∷ less test (take (suc n) xs))) ≡ take (suc n) (cond z xs (x ∷ less test xs))
      go true e = take-take (suc n) (suc n) xs (omega arith)
      go false e = ap (λ (l : List X). x ∷ l) e

  pub first-take : (n : ℕ) (xs : List X) → (first test (take n xs) ≡ None) ⊎ (first test (take n xs) ≡ first test xs)
  first-take zero xs = inl refl
  first-take (suc n) [] = inl refl
  first-take (suc n) (x ∷ xs) = go (test x) (first-take n xs)
    where
      go : (z : Bool) → (first test (take n xs) ≡ None) ⊎ (first test (take n xs) ≡ first test xs) → (cond z (Some x) (first test (take n xs)) ≡ None) ⊎ (cond z (Some x) (first test (take n xs)) ≡ cond z (Some x) (first test xs))
      go true r = inr refl
      go false r = r

  pub first-less : (other : X → Bool) → ((x : X) → other x ≡ true → test x ≡ false) → (xs : List X) → first test (less other xs) ≡ first test xs
  first-less other apart [] = refl
  first-less other apart (x ∷ xs) =
      cond_both (other x) xs (x ∷ less other xs) (λ l. first test l ≡ first test (x ∷ xs)) (λ t. sym (cond-false (test x) _ _ (apart x t)))
      (λ _. ap (cond (test x) (Some x)) (first-less other apart xs))

-- a line turned stale in its place

pub invalidated_at : (b : ℕ) (ls : List Line) (p : ℕ) (d : Line) → p < length ls → holds b (get_or ls p d) ≡ true → NoneBelow (holds b) ls d p → invalidated_in b ls ≡ set ls p (staled (get_or ls p d))
invalidated_at b [] p d h t none = absurd (omega arith)
invalidated_at b (l ∷ ls) zero d h t none = cond-true (holds b l) _ _ t
invalidated_at b (l ∷ ls) (suc p) d h t none =
    cond-false (holds b l) _ _ (none 0 (omega arith)) ∙ ap (λ (ms : List Line). l ∷ ms) (invalidated_at b ls p d (omega arith) t (λ i lt. none (suc i) (omega arith)))

pub invalidated_none : (b : ℕ) (ls : List Line) (d : Line) → NoneBelow (holds b) ls d (length ls) → invalidated_in b ls ≡ ls
invalidated_none b [] d none = refl
invalidated_none b (l ∷ ls) d none =
    cond-false (holds b l) _ _ (none 0 (omega arith)) ∙ ap (λ (ms : List Line). l ∷ ms) (invalidated_none b ls d (λ i lt. none (suc i) (omega arith)))

-- the blocks of a set

pub map-less : {X Y : Type 0} (f : X → Y) (test : Y → Bool) (xs : List X) → map f (less (λ x. test (f x)) xs) ≡ less test (map f xs)
map-less f test [] = refl
map-less {X} {Y} f test (x ∷ xs) = go (test (f x)) (map-less f test xs)
  where
    go : (z : Bool) → map f (less (λ y. test (f y)) xs) ≡ less test (map f xs) → map f (cond z xs (x ∷ less (λ y. test (f y)) xs)) ≡ cond z (map f xs) (f x ∷ less test (map f xs))
    go true e = refl
    go false e = ap (λ (ys : List Y). f x ∷ ys) e

pub blocks_less : (b : ℕ) (ls : List Line) → blocks_in (less (holds b) ls) ≡ less (λ c. eqb c b) (blocks_in ls)
blocks_less b ls = map-less (λ l. l.block) (λ c. eqb c b) ls

pub blocks_invalidated : (b : ℕ) (ls : List Line) → blocks_in (invalidated_in b ls) ≡ blocks_in ls
blocks_invalidated b [] = refl
blocks_invalidated b (l ∷ ls) =
    cond_both (holds b l) (staled l ∷ ls) (l ∷ invalidated_in b ls) (λ ms. blocks_in ms ≡ blocks_in (l ∷ ls)) (λ _. refl) (λ _. ap (λ (bs : List ℕ). l.block ∷ bs) (blocks_invalidated b ls))

pub forward_block : (fill : List ℕ) (b : ℕ) (ls : List Line) → (forward fill b (first (holds b) ls)).block ≡ b
forward_block fill b ls = first_passes (holds b) (λ o. (forward fill b o).block ≡ b) refl found ls
  where
    found : (l : Line) → holds b l ≡ true → (refreshed fill l).block ≡ b
    found l t = cond_both l.stale (new_line fill l.block) l (λ m. m.block ≡ b) (λ _. eqb-true l.block b t) (λ _. eqb-true l.block b t)

pub blocks_promoted : (k : Settings) (fill : List ℕ) (b : ℕ) (change : Line → Line) (ls : List Line) → ((l : Line) → (change l).block ≡ l.block)
    → blocks_in (promoted k fill b change ls) ≡ b ∷ take (k.ways - 1) (less (λ c. eqb c b) (blocks_in ls))
blocks_promoted k fill b change ls same =
    ap₂ (λ (c : ℕ) (cs : List ℕ). c ∷ cs) (same (forward fill b (first (holds b) ls)) ∙ forward_block fill b ls)
    (sym (take-map (λ (l : Line). l.block) (k.ways - 1) (less (holds b) ls)) ∙ ap (take (k.ways - 1)) (blocks_less b ls))

-- the line of a block, after something was done

pub forward_fresh : (fill : List ℕ) (b : ℕ) (o : Option Line) → (forward fill b o).stale ≡ false
forward_fresh fill b None = refl
forward_fresh fill b (Some l) = cond_both l.stale (new_line fill l.block) l (λ m. m.stale ≡ false) (λ _. refl) (λ e. e)

holds_apart : (b c : ℕ) → (b ≡ c → ⊥) → (l : Line) → holds b l ≡ true → holds c l ≡ false
holds_apart b c ne l t = ne_eqb l.block c (λ e. ne (sym (eqb-true l.block b t) ∙ e))

module _ (k : Settings) (fill : List ℕ) (b : ℕ) (change : Line → Line) (ls : List Line) (same : (l : Line) → (change l).block ≡ l.block) where
  front_block : (change (forward fill b (first (holds b) ls))).block ≡ b
  front_block = same (forward fill b (first (holds b) ls)) ∙ forward_block fill b ls

  pub first-promoted : first (holds b) (promoted k fill b change ls) ≡ Some (change (forward fill b (first (holds b) ls)))
  first-promoted = cond-true (holds b (change (forward fill b (first (holds b) ls)))) _ _ (eq-eqb _ b front_block)

  pub first-promoted_other : (c : ℕ) → (b ≡ c → ⊥) → (first (holds c) (promoted k fill b change ls) ≡ None) ⊎ (first (holds c) (promoted k fill b change ls) ≡ first (holds c) ls)
  first-promoted_other c ne =
      elim (first-take (holds c) (k.ways - 1) (less (holds b) ls)) [
        | inl none ↦ inl (past ∙ none)
        | inr kept ↦ inr (past ∙ kept ∙ first-less (holds c) (holds b) (holds_apart b c ne) ls)
      ]
    where
      past : first (holds c) (promoted k fill b change ls) ≡ first (holds c) (behind k.ways b ls)
      past = cond-false (holds c (change (forward fill b (first (holds b) ls)))) _ _ (ne_eqb _ c (λ e. ne (sym front_block ∙ e)))

abbrev pub staled_line : Option Line → Option Line
staled_line None = None
staled_line (Some l) = Some (staled l)

pub first_invalidated : (b : ℕ) (ls : List Line) → first (holds b) (invalidated_in b ls) ≡ staled_line (first (holds b) ls)
first_invalidated b [] = refl
first_invalidated b (l ∷ ls) = elim (cases_Bool (holds b l)) [
  | inl t ↦ ap (first (holds b)) (cond-true (holds b l) (staled l ∷ ls) _ t) ∙ cond-true (holds b l) (Some (staled l)) _ t ∙ sym (ap staled_line (cond-true (holds b l) (Some l) _ t))
  | inr f ↦ ap (first (holds b)) (cond-false (holds b l) _ (l ∷ invalidated_in b ls) f) ∙ cond-false (holds b l) (Some l) _ f ∙ first_invalidated b ls ∙ sym (ap staled_line (cond-false (holds b l) (Some l) _ f))
]

pub first_invalidated_other : (b c : ℕ) → (b ≡ c → ⊥) → (ls : List Line) → first (holds c) (invalidated_in b ls) ≡ first (holds c) ls
first_invalidated_other b c ne [] = refl
first_invalidated_other b c ne (l ∷ ls) =
    cond_both (holds b l) (staled l ∷ ls) (l ∷ invalidated_in b ls) (λ ms. first (holds c) ms ≡ first (holds c) (l ∷ ls))
    (λ t. cond-false (holds c l) _ _ (holds_apart b c ne l t) ∙ sym (cond-false (holds c l) _ _ (holds_apart b c ne l t)))
    (λ _. ap (cond (holds c l) (Some l)) (first_invalidated_other b c ne ls))

-- what holds of every line

module _ (P : Line → Type 0) where
  pub all_forward : (test : Line → Bool) (fill : List ℕ) (b : ℕ) → ((c : ℕ) → P (new_line fill c)) → (ls : List Line) → AllByRecursion P ls → P (forward fill b (first test ls))
  all_forward test fill b new ls = first_all test P (λ o. P (forward fill b o)) (new b) (λ l p. cond_both l.stale (new_line fill l.block) l P (λ _. new l.block) (λ _. p)) ls

  pub all_promoted : (k : Settings) (fill : List ℕ) (b : ℕ) (change : Line → Line) → ((c : ℕ) → P (new_line fill c)) → ((l : Line) → P l → P (change l)) → (ls : List Line) → AllByRecursion P ls → AllByRecursion P (promoted k fill b change ls)
  all_promoted k fill b change new keeps ls each =
      (keeps (forward fill b (first (holds b) ls)) (all_forward (holds b) fill b new ls each), All-take P (k.ways - 1) (less (holds b) ls) (all_less (holds b) P ls each))

  pub all_invalidated : (b : ℕ) → ((l : Line) → P l → P (staled l)) → (ls : List Line) → AllByRecursion P ls → AllByRecursion P (invalidated_in b ls)
  all_invalidated b keeps [] each = tt
  all_invalidated b keeps (l ∷ ls) each =
      cond_both (holds b l) (staled l ∷ ls) (l ∷ invalidated_in b ls) (AllByRecursion P) (λ _. (keeps l each.0, each.1)) (λ _. (each.0, all_invalidated b keeps ls each.1))
