-- Numbers in bytes: their lengths and values, and a stretch of bytes written and read.
use Rattle.std.proofs.Common.{◌≡◌, ℕ, zero, suc, ◌+◌, ◌*◌, ◌/◌, ◌%◌, ◌^◌, ◌<◌, ◌≤◌, List, length, get_or, drop, sym, refl, ap, ◌∙◌, arith, length-drop}
use native.Mathlib.Nat.{pow-succ'}
use lib.Arith.{mod-mul}
use Rattle.std.proofs.lemmas.List.{length-take-le, get_or-take, get_or-drop, at_drop_more}
use Rattle.rules.specs.Bytes.{low_bytes, number_of, stretch}

pub length-low_bytes : (k n : ℕ) → length (low_bytes k n) ≡ k
length-low_bytes zero n = refl
length-low_bytes (suc k) n = ap suc (length-low_bytes k (n / 256))

pub number_of-low_bytes : (k n : ℕ) → number_of (low_bytes k n) ≡ n % 256 ^ k
number_of-low_bytes zero n = omega arith
number_of-low_bytes (suc k) n =
    let positive : 0 < 256 ^ k = pos k in
    let whole : n % (256 ^ k * 256) ≡ (n / 256 % 256 ^ k) * 256 + n % 256 = mod-mul n positive (omega arith) in
    let power : 256 ^ suc k ≡ 256 ^ k * 256 = omega (arith, pow-succ' 256 k) in
    omega (arith, number_of-low_bytes k (n / 256)) ∙ sym whole ∙ ap (λ m. n % m) (sym power)
  where
    pos : (k : ℕ) → 0 < 256 ^ k
    pos zero = omega arith
    pos (suc k) = omega (arith, pow-succ' 256 k, pos k)

pub number_of-more : (bs : List ℕ) (i : ℕ) → i < length bs → number_of (drop i bs) ≡ get_or bs i 0 + 256 * number_of (drop (i + 1) bs)
number_of-more bs i h = at_drop_more number_of bs i 0 h

-- stretches

pub length-stretch : (from size : ℕ) (bytes : List ℕ) → from + size ≤ length bytes → length (stretch from size bytes) ≡ size
length-stretch from size bytes h = length-take-le size (drop from bytes) (omega (arith, length-drop from bytes))

pub get_or-stretch : (from size : ℕ) (bytes : List ℕ) (i d : ℕ) → i < size → get_or (stretch from size bytes) i d ≡ get_or bytes (from + i) d
get_or-stretch from size bytes i d h = get_or-take size (drop from bytes) i d h ∙ get_or-drop from bytes i d
