-- The bytes of a word.
use Rattle.std.proofs.Common.{◌≡◌, ℕ, zero, suc, ◌+◌, ◌*◌, ◌/◌, ◌%◌, ◌≤◌, List, [], ◌∷◌, ◌++◌, length, take, drop, replicate, refl, ap, ap₂, arith}
use Rattle.std.proofs.lemmas.List.{drop_all}
use Rattle.std.specs.Int.{from_le_bytes, to_le_bytes, w64}
use Rattle.rules.specs.Bytes.{low_bytes, number_of}
use Rattle.rules.proofs.Bytes.{number_of-more}

pub take-low_bytes : (k m n : ℕ) → k ≤ m → take k (low_bytes m n) ≡ low_bytes k n
take-low_bytes zero m n h = refl
take-low_bytes (suc k) zero n h = absurd (omega arith)
take-low_bytes (suc k) (suc m) n h = ap (λ bs. n % 256 ∷ bs) (take-low_bytes k m (n / 256) (omega arith))

-- as a word tells its bytes
pub eight_bytes : (n : ℕ) → to_le_bytes w64 n ≡ low_bytes 8 n
eight_bytes n =
    let m = n / 256 in
    cons refl (cons refl (cons (omega arith) (cons (omega arith) (cons (omega arith) (cons (omega arith) (cons (omega arith) (cons (omega arith) refl)))))))
  where
    cons : {a b : ℕ} {xs ys : List ℕ} → a ≡ b → xs ≡ ys → (a ∷ xs) ≡ (b ∷ ys)
    cons p q = ap₂ (λ (x : ℕ) (l : List ℕ). x ∷ l) p q

-- as a word reads its bytes
pub eight_read : (bs : List ℕ) → length bs ≡ 8 → from_le_bytes w64 bs ≡ number_of bs
eight_read bs long =
    omega (arith, number_of-more bs 0 (omega arith), number_of-more bs 1 (omega arith), number_of-more bs 2 (omega arith), number_of-more bs 3 (omega arith), number_of-more bs 4 (omega arith), number_of-more bs 5 (omega arith), number_of-more bs 6 (omega arith), number_of-more bs 7 (omega arith), ap number_of (drop_all 8 bs (omega arith)))

number_of-zeros : (k n : ℕ) → number_of (drop k (replicate n 0)) ≡ 0
number_of-zeros zero zero = refl
number_of-zeros (suc k) zero = refl
number_of-zeros zero (suc n) = omega (arith, number_of-zeros zero n)
number_of-zeros (suc k) (suc n) = number_of-zeros k n

-- bytes with zeros behind them
pub number_of-padded : (bs : List ℕ) (k n : ℕ) → number_of (bs ++ drop k (replicate n 0)) ≡ number_of bs
number_of-padded [] k n = number_of-zeros k n
number_of-padded (b ∷ bs) k n = ap (λ m. b + 256 * m) (number_of-padded bs k n)
