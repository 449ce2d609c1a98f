-- The ways of a set's order of use.
use Rattle.std.proofs.Common.{◌≡◌, ℕ, zero, suc, ◌<◌, ◌≤◌, List, [], ◌∷◌, length, take, get_or, sym, refl, ap, ap₂, ◌∙◌, arith, length-take, get_or-take}
use Rattle.std.specs.List.{remove}
use Rattle.cache.specs.Recency.{recent, to_front}
use Rattle.cache.specs.declared.recency.Recency.{Recency}

pub spread : (xs : List ℕ) → length xs ≡ 4 → xs ≡ get_or xs 0 0 ∷ get_or xs 1 0 ∷ get_or xs 2 0 ∷ get_or xs 3 0 ∷ []
spread [] h = absurd (omega arith)
spread (a ∷ []) h = absurd (omega arith)
spread (a ∷ b ∷ []) h = absurd (omega arith)
spread (a ∷ b ∷ c ∷ []) h = absurd (omega arith)
spread (a ∷ b ∷ c ∷ d ∷ []) h = refl
spread (a ∷ b ∷ c ∷ d ∷ e ∷ xs) h = absurd (omega arith)

take_removed : {X : Type 0} (m p : ℕ) (xs : List X) → p ≤ m → take m (remove xs p) ≡ remove (take (suc m) xs) p
take_removed zero zero [] h = refl
take_removed (suc m) zero [] h = refl
take_removed m zero (x ∷ xs) h = refl
take_removed zero (suc p) xs h = absurd (omega arith)
take_removed (suc m) (suc p) [] h = refl
take_removed (suc m) (suc p) (x ∷ xs) h = ap (λ ys. x ∷ ys) (take_removed m p xs (omega arith))

-- a way in use comes first among those in use, whatever lies behind them
pub take-to_front : (n p : ℕ) (xs : List ℕ) → p < n → take n (to_front p xs) ≡ to_front p (take n xs)
take-to_front zero p xs h = absurd (omega arith)
take-to_front (suc m) p xs h = ap₂ (λ (y : ℕ) (ys : List ℕ). y ∷ ys) (sym (get_or-take (suc m) xs p 0 h)) (take_removed m p xs (omega arith))

module _ (r : Recency) where
  pub length-recent : length (recent r) ≡ r.used
  length-recent = length-take r.used r.order ∙ omega (arith, r.four, r.few)
