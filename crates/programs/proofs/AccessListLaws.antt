-- A list wants its accesses in order, over a whole run, and its state then.
use Rattle.std.proofs.Common.{◌≡◌, ℕ, suc, ◌+◌, min, Bool, true, false, cond, ◌||◌, eqb, List, [], ◌∷◌, map, length, get_or, drop, sym, refl, ap, ◌∙◌, ap₂, arith}
use Rattle.std.proofs.lemmas.List.{get_or-drop, drop-drop}
use Rattle.std.proofs.lemmas.Bool.{cond_both, or_parts}
use Rattle.rules.specs.Program.{ran}
use Rattle.rules.specs.declared.program.Want.TheVariants.{Ended}
use Rattle.programs.specs.declared.list.ListedAccess.{ListedAccess}
use Rattle.programs.specs.AccessList.{list_state, access_at, number_of, moved_on, list_next, list_behaviour, front, last_loaded, WantsInOrder, MovesOn}
use Rattle.programs.specs.ListedAccess.{want_of, loads_or_stores}
use Rattle.programs.proofs.Numbers.{past, access_is}

module _ (s : List ℕ) where
  stays : (v : ℕ) → loads_or_stores (access_at s) ≡ false → list_next s v ≡ s
  stays v h = let e = or_parts (eqb (number_of s 0) 1) (eqb (number_of s 0) 2) h in simp (e.0, e.1)

  ends : loads_or_stores (access_at s) ≡ false → want_of (access_at s) ≡ Ended
  ends h = let e = or_parts (eqb (number_of s 0) 1) (eqb (number_of s 0) 2) h in simp (e.0, e.1)

  stays_ran : (values : List ℕ) → loads_or_stores (access_at s) ≡ false → ran list_behaviour s values ≡ s
  stays_ran [] h = refl
  stays_ran (v ∷ vs) h = ap (λ t. ran list_behaviour t vs) (stays v h) ∙ stays_ran vs h

  -- what is loaded last once the access at the place is given v
  abbrev loaded : ℕ → ℕ
  loaded v = cond (eqb (number_of s 0) 1) v (get_or s 1 0)

  goes : (v : ℕ) → loads_or_stores (access_at s) ≡ true → list_next s v ≡ moved_on (loaded v) s
  goes v h = on (eqb (number_of s 0) 1) (eqb (number_of s 0) 2) h
    where
      on : (x y : Bool) → (x || y) ≡ true → cond x (moved_on v s) (cond y (moved_on (get_or s 1 0) s) s) ≡ moved_on (cond x v (get_or s 1 0)) s
      on true y h = refl
      on false true h = refl
      on false false h = cc

module _ (xs : List ListedAccess) where
  -- the access at the place is the first of those left
  access_first : (place last : ℕ) (left : List ListedAccess) → drop place xs ≡ left → access_at (list_state place last xs) ≡ get_or left 0 past
  access_first place last left e = sym (access_is place last xs) ∙ grind (arith, get_or-drop)

  -- the state after a run with these accesses left, and its want
  abbrev Runs : ℕ → ℕ → List ListedAccess → List ℕ → Type 0
  Runs place last left values =
      (ran list_behaviour (list_state place last xs) values ≡ list_state (place + min (length values) (length left)) (last_loaded last left values) xs)
      × (want_of (access_at (ran list_behaviour (list_state place last xs) values)) ≡ get_or (map want_of left) (length values) Ended)

  ended : (place last : ℕ) (values : List ℕ) → loads_or_stores (access_at (list_state place last xs)) ≡ false → Runs place last [] values
  ended place last values h =
      let s = list_state place last xs in
      let here : place ≡ place + min (length values) 0 = omega arith in
      (stays_ran s values h ∙ ap (λ p. list_state p last xs) here, ap (λ t. want_of (access_at t)) (stays_ran s values h) ∙ ends s h)

  runs : (values : List ℕ) (place last : ℕ) (rest : List ListedAccess) → drop place xs ≡ rest → Runs place last (front rest) values
  runs values place last [] e = ended place last values (ap loads_or_stores (access_first place last [] e))
  runs [] place last (a ∷ rest) e =
      let at = access_first place last (a ∷ rest) e in
      cond_both (loads_or_stores a) (a ∷ front rest) [] (λ left. Runs place last left [])
      (λ t. (ap (λ p. list_state p last xs) (omega arith), ap want_of at)) (λ f. ended place last [] (ap loads_or_stores at ∙ f))
  runs (v ∷ vs) place last (a ∷ rest) e =
      let s = list_state place last xs in
      let at = access_first place last (a ∷ rest) e in
      let more = runs vs (place + 1) (loaded s v) rest (sym (drop-drop 1 place xs) ∙ ap (drop 1) e) in
      let on : (t : loads_or_stores a ≡ true) → ran list_behaviour s (v ∷ vs) ≡ ran list_behaviour (list_state (place + 1) (loaded s v) xs) vs =
      λ t. ap (λ u. ran list_behaviour u vs) (goes s v (ap loads_or_stores at ∙ t)) in
      let place_is : place + 1 + min (length vs) (length (front rest)) ≡ place + min (suc (length vs)) (suc (length (front rest))) = omega arith in
      let last-is : loaded s v ≡ cond (eqb a.kind 1) v last = ap (λ (b : ListedAccess). cond (eqb b.kind 1) v last) at in
      cond_both (loads_or_stores a) (a ∷ front rest) [] (λ left. Runs place last left (v ∷ vs))
      (λ t. (on t ∙ more.0 ∙ ap₂ (λ (p l : ℕ). list_state p (last_loaded l (front rest) vs) xs) place_is last-is, ap (λ u. want_of (access_at u)) (on t) ∙ more.1))
      (λ f. ended place last (v ∷ vs) (ap loads_or_stores at ∙ f))

pub list_wants : (accesses : List ListedAccess) → WantsInOrder accesses
list_wants accesses values = (runs accesses values 0 0 accesses refl).1

pub list_moves : (accesses : List ListedAccess) → MovesOn accesses
list_moves accesses values =
    (runs accesses values 0 0 accesses refl).0 ∙ ap (λ p. list_state p (last_loaded 0 (front accesses) values) accesses) (omega arith)
