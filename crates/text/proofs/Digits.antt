-- Hexadecimal digits, read and written.
use Rattle.std.proofs.Common.{◌≡◌, ℕ, zero, suc, ◌+◌, ◌*◌, ◌/◌, ◌%◌, ◌^◌, ◌<◌, ◌≤◌, max, min, ltb, leb, List, [], ◌∷◌, ◌++◌, length, Some, None, sym, refl, ap, ◌∙◌, subst, ⊎_elim, append_assoc, mod-eq_of_lt, arith, pow_pos, pow_mono, pow-add}
use native.Mathlib.Nat.{pow-succ'}
use lib.Arith.{mod-mul}
use Rattle.std.proofs.lemmas.Bool.{cond-true, cond-false, cond_both, and_from, cases_lt, le-leb, le-ltb, lt-ltb}
use Rattle.std.proofs.lemmas.Bool.Decides.{nat_tests}
use Rattle.text.specs.Hex.{between, digit_of, digits_after, at_most, number_in, digit_char, hex_digits, width_from, hex_width, hex_text}

pub sixteen : (k : ℕ) → 16 ^ k ≡ 2 ^ (4 * k)
sixteen zero = refl
sixteen (suc k) = omega (arith, sixteen k, pow-succ' 16 k, ap (λ n. 2 ^ n) (four k), pow-add 2 4 (4 * k))
  where
    four : (k : ℕ) → 4 * suc k ≡ 4 + 4 * k
    four k = omega arith

positive : (k : ℕ) → 0 < 16 ^ k
positive k = omega (arith, sixteen k, pow_pos (4 * k))

-- the next digit, and those after it
pub digits_more : (text : List ℕ) (place k value : ℕ) → place ≡ suc k → (text ++ digit_char (value / 2 ^ (4 * k) % 16) ∷ []) ++ hex_digits k value ≡ text ++ hex_digits place value
digits_more text place k value is =
    append_assoc text (digit_char (value / 2 ^ (4 * k) % 16) ∷ []) (hex_digits k value)
    ∙ ap (λ p. text ++ (digit_char (value / p % 16) ∷ hex_digits k value)) (sym (sixteen k))
    ∙ ap (λ n. text ++ hex_digits n value) (sym is)

pub digits_grow : (value d i : ℕ) → value < 16 ^ i → d < 16 → 16 * value + d < 16 ^ (i + 1)
digits_grow value d i below small = omega (arith, below, small, pow-add 16 i 1)

pub digits_fit : (value d i : ℕ) → value < 16 ^ i → d < 16 → i < 16 → 16 * value + d < 2 ^ 64
digits_fit value d i below small few =
    let whole : 4 * (i + 1) ≤ 64 = omega arith in
    omega (arith, digits_grow value d i below small, sixteen (i + 1), pow_mono {i = 4 * (i + 1)} {j = 64} whole)

pub number_is : (most : ℕ) (word : List ℕ) → 1 ≤ length word → length word ≤ 16 → number_in most word ≡ at_most most (digits_after 0 word)
number_is most word least few = cond-true (between 1 16 (length word)) _ _ (and_from (leb 1 (length word)) (leb (length word) 16) (le-leb 1 (length word) least) (le-leb (length word) 16 few))

digit_char_below : (d : ℕ) → d < 16 → digit_char d < 128
digit_char_below d h = cond_both (ltb d 10) (48 + d) (55 + d) (λ x. x < 128) (λ _. omega arith) (λ _. omega arith)

pub nibble_char : (value k : ℕ) → digit_char (value / 2 ^ (4 * k) % 16) < 128
nibble_char value k = digit_char_below (value / 2 ^ (4 * k) % 16) (omega arith)

-- what is written is read as it was

char_digit : (d : ℕ) → d < 16 → digit_of (digit_char d) ≡ Some d
char_digit d h = grind (arith, nat_tests)

digits_read : (k n value : ℕ) → digits_after value (hex_digits k n) ≡ Some (value * 16 ^ k + n % 16 ^ k)
digits_read zero n value = ap Some (omega arith)
digits_read (suc k) n value =
    let d = n / 16 ^ k % 16 in
    let split : n % (16 * 16 ^ k) ≡ (n / 16 ^ k % 16) * 16 ^ k + n % 16 ^ k = mod-mul n {m = 16} {c = 16 ^ k} (omega arith) (positive k) in
    ap (λ o. elim o [ Some x ↦ digits_after (16 * value + x) (hex_digits k n) | None ↦ None ]) (char_digit d (omega arith))
    ∙ digits_read k n (16 * value + d)
    ∙ ap Some (omega (arith, split, ap (λ p. value * p) (pow-succ' 16 k), ap (λ p. n % p) (pow-succ' 16 k)))

-- one digit, or one more than the rest has
pub width_one : (most n : ℕ) → n < 16 → width_from (suc most) n ≡ 1
unfolding width_from
width_one most n h = cond-true (ltb n 16) _ _ (lt-ltb n 16 h)

pub width_more : (most n : ℕ) → 16 ≤ n → width_from (suc most) n ≡ 1 + width_from most (n / 16)
unfolding width_from
width_more most n h = cond-false (ltb n 16) _ _ (le-ltb n 16 h)

-- the digits hold the whole number, and are some
record Wide (most n : ℕ) : Type 0 where
  holds : n < 16 ^ width_from most n
  some : 1 ≤ width_from most n
  few : width_from most n ≤ most

wide : (most n : ℕ) → 0 < most → n < 16 ^ most → Wide most n
wide zero n l h = absurd (omega arith)
wide (suc most) n l h = ⊎_elim
    (λ small. let is = width_one most n small in record { holds = subst (λ k. n < 16 ^ k) (sym is) small; some = omega arith; few = omega arith })
    (λ large.
    let is = width_more most n large in
    let below : n / 16 < 16 ^ most = omega (arith, pow-succ' 16 most) in
    let left : 0 < most = positive most (n / 16) (omega arith) below in
    let r = wide most (n / 16) left below in
    let k = width_from most (n / 16) in
    record { holds = subst (λ j. n < 16 ^ j) (sym is) (omega (arith, r.holds, pow-add 16 1 k)); some = omega arith; few = omega (arith, r.few) })
    (cases_lt n 16)
  where
    positive : (m x : ℕ) → 0 < x → x < 16 ^ m → 0 < m
    positive zero x p q = absurd (omega arith)
    positive (suc m) x p q = omega arith

-- a number between two powers of 16 has as many digits as they say
pub width_is : (most n k : ℕ) → n < 16 ^ suc most → 16 ^ k ≤ max n 1 → n < 16 * 16 ^ k → k + 1 ≡ width_from (suc most) n
width_is most n zero fits least high = sym (width_one most n (omega arith))
width_is zero n (suc k) fits least high = absurd (omega (arith, least, pow-succ' 16 k, positive k))
width_is (suc most) n (suc k) fits least high =
    let low : 16 * 16 ^ k ≤ max n 1 = omega (arith, least, pow-succ' 16 k) in
    let large : 16 ≤ n = omega (arith, low, positive k) in
    let rest : k + 1 ≡ width_from (suc most) (n / 16) = width_is most (n / 16) k (omega (arith, pow-succ' 16 (suc most))) (omega (arith, low)) (omega (arith, pow-succ' 16 k)) in
    omega (arith, rest, width_more (suc most) n large)

length-hex_digits : (k n : ℕ) → length (hex_digits k n) ≡ k
length-hex_digits zero n = refl
length-hex_digits (suc k) n = ap suc (length-hex_digits k n)

pub width_few : (n : ℕ) → n < 2 ^ 64 → hex_width n ≤ 16
width_few n h = (wide 16 n (omega arith) (omega arith)).few

pub text_read : (most n : ℕ) → most < 2 ^ 64 → n ≤ most → number_in most (hex_text n) ≡ Some n
text_read most n h low =
    let r = wide 16 n (omega arith) (omega arith) in
    let k = width_from 16 n in
    let size = length-hex_digits k n in
    let value : 0 * 16 ^ k + n % 16 ^ k ≡ n = omega (arith, mod-eq_of_lt r.holds) in
    number_is most (hex_text n) (omega (arith, r.some)) (omega (arith, r.few))
    ∙ ap (at_most most) (digits_read k n 0 ∙ ap Some value)
    ∙ cond-true (leb n most) _ _ (le-leb n most low)

-- a number's digits are its text
pub digits_text : (k n : ℕ) → n < 2 ^ 64 → k ≡ hex_width n → hex_digits (min k 16) n ≡ hex_text n
digits_text k n h is = let width : min k 16 ≡ hex_width n = omega (arith, is, width_few n h) in ap (λ j. hex_digits j n) width
