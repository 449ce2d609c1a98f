-- Bits of numbers, bits of bytes, and bits laid over others.
use Rattle.std.proofs.Common.{◌≡◌, ℕ, zero, suc, ◌+◌, ◌-◌, ◌*◌, ◌/◌, ◌%◌, ◌^◌, ◌<◌, ◌≤◌, min, Bool, true, false, not, eqb, List, [], ◌∷◌, ◌++◌, length, get_or, take, drop, set, sym, refl, ap, ◌∙◌, subst, ap₂, append-nil, add-zero, suc-add, zero-add, add-one, arith, length-drop, take-append-drop, length-take, length-take-le, get_or-take, take-take, get_or-append-add, shr-shr}
use native.Mathlib.Nat.{pow-succ'}
use lib.Bits.{bit_xor, block_half, block_odd, xor_shr, xor_mod, xor_zero_r}
use lib.Pow.{mod-pow-add}
use lib.Seq.{set-append_left}
use Rattle.std.proofs.lemmas.List.{get_or_append_left, set-append_right}
use Rattle.std.proofs.lemmas.Bool.{eqb-true, eqb-false, eq-eqb, ne_eqb}
use Rattle.std.specs.List.{AllByRecursion}
use Rattle.rules.specs.Bits.{is_odd, low_bits, bit, value_of, bits_of, bytes_of, bits_in}

-- one number

pub length-low_bits : (k n : ℕ) → length (low_bits k n) ≡ k
length-low_bits zero n = refl
length-low_bits (suc k) n = ap suc (length-low_bits k (n / 2))

bit-is_odd : (n : ℕ) → bit (is_odd n) ≡ n % 2
bit-is_odd n = go (is_odd n) refl
  where
    go : (b : Bool) → is_odd n ≡ b → bit b ≡ n % 2
    go true e = sym (eqb-true (n % 2) 1 e)
    go false e = let ne = eqb-false (n % 2) 1 e in omega arith

is_odd-bit : (b : Bool) (m n : ℕ) → n ≡ bit b + 2 * m → is_odd n ≡ b
is_odd-bit true m n e = eq-eqb (n % 2) 1 (omega arith)
is_odd-bit false m n e = ne_eqb (n % 2) 1 (λ h. omega arith)

half_bit : (b : Bool) (m n : ℕ) → n ≡ bit b + 2 * m → n / 2 ≡ m
half_bit true m n e = omega arith
half_bit false m n e = omega arith

pub low_bits-value_of : (bs : List Bool) → low_bits (length bs) (value_of bs) ≡ bs
low_bits-value_of [] = refl
low_bits-value_of (b ∷ bs) =
    ap₂ (λ (x : Bool) (xs : List Bool). x ∷ xs) (is_odd-bit b (value_of bs) _ refl) (ap (low_bits (length bs)) (half_bit b (value_of bs) _ refl) ∙ low_bits-value_of bs)

pub value_of-low_bits : (k n : ℕ) → value_of (low_bits k n) ≡ n % 2 ^ k
value_of-low_bits zero n = omega arith
value_of-low_bits (suc k) n =
    let whole : n % 2 ^ suc k ≡ (n / 2 % 2 ^ k) * 2 + n % 2 = ap (λ (e : ℕ). n % 2 ^ e) (sym (add-one k)) ∙ mod-pow-add n k 1 in
    omega (arith, value_of-low_bits k (n / 2), bit-is_odd n, whole)

pub value_of_below : (bs : List Bool) → value_of bs < 2 ^ length bs
value_of_below [] = omega arith
value_of_below (true ∷ bs) = omega (arith, value_of_below bs, pow-succ' 2 (length bs))
value_of_below (false ∷ bs) = omega (arith, value_of_below bs, pow-succ' 2 (length bs))

-- x below y: the bits of x, and then those of y
pub low_bits_join : (j k x y : ℕ) → x < 2 ^ j → low_bits (j + k) (y * 2 ^ j + x) ≡ low_bits j x ++ low_bits k y
low_bits_join zero k x y h = ap₂ low_bits (zero-add k) (omega arith)
low_bits_join (suc j) k x y h =
    let odd = ap (λ (n : ℕ). eqb n 1) (block_odd y j x) in
    let halves : x / 2 < 2 ^ j = omega (arith, pow-succ' 2 j) in
    rw (suc-add j k) (ap₂ (λ (b : Bool) (bs : List Bool). b ∷ bs) odd (ap (low_bits (j + k)) (block_half y j x) ∙ low_bits_join j k (x / 2) y halves))

-- only the lowest bits count
pub low_bits_low : (k x y : ℕ) → x < 2 ^ k → low_bits k (y * 2 ^ k + x) ≡ low_bits k x
low_bits_low k x y h = ap (λ n. low_bits n (y * 2 ^ k + x)) (sym (add-zero k)) ∙ low_bits_join k 0 x y h ∙ append-nil (low_bits k x)

pub get_or-low_bits : (k n i : ℕ) → i < k → get_or (low_bits k n) i false ≡ is_odd (n / 2 ^ i)
get_or-low_bits zero n i h = absurd (omega arith)
get_or-low_bits (suc k) n zero h = ap is_odd (omega arith)
get_or-low_bits (suc k) n (suc i) h =
    get_or-low_bits k (n / 2) i (omega arith) ∙ ap is_odd (shr-shr n 1 i ∙ ap (λ (e : ℕ). n / 2 ^ e) (suc-add 0 i ∙ ap suc (zero-add i)))

-- one bit turned
pub low_bits_flip : (k a i : ℕ) → i < k → low_bits k (bit_xor a (2 ^ i)) ≡ set (low_bits k a) i (not (is_odd (a / 2 ^ i)))
low_bits_flip zero a i h = absurd (omega arith)
low_bits_flip (suc k) a zero h =
    ap₂ (λ (b : Bool) (bs : List Bool). b ∷ bs) (flip (a % 2) (bit_xor a 1 % 2) (omega arith) (xor_mod a 1 1) ∙ ap (λ n. not (is_odd n)) (omega arith))
    (ap (low_bits k) (xor_shr a 1 1 ∙ xor_zero_r (a / 2)))
  where
    flip : (r x : ℕ) → r < 2 → x ≡ bit_xor r 1 → eqb x 1 ≡ not (eqb r 1)
    flip zero x l e = ap (λ n. eqb n 1) e
    flip (suc zero) x l e = ap (λ n. eqb n 1) e
    flip (suc (suc r)) x l e = absurd (omega arith)
low_bits_flip (suc k) a (suc i) h =
    let even : 2 ^ suc i % 2 ≡ 0 = omega (arith, pow-succ' 2 i) in
    let half : 2 ^ suc i / 2 ≡ 2 ^ i = omega (arith, pow-succ' 2 i) in
    let low : bit_xor a (2 ^ suc i) % 2 ≡ a % 2 = xor_mod a (2 ^ suc i) 1 ∙ ap (bit_xor (a % 2)) even ∙ xor_zero_r (a % 2) in
    let high : bit_xor a (2 ^ suc i) / 2 ≡ bit_xor (a / 2) (2 ^ i) = xor_shr a (2 ^ suc i) 1 ∙ ap (bit_xor (a / 2)) half in
    let down : a / 2 / 2 ^ i ≡ a / 2 ^ suc i = shr-shr a 1 i ∙ ap (λ (e : ℕ). a / 2 ^ e) (suc-add 0 i ∙ ap suc (zero-add i)) in
    ap₂ (λ (b : Bool) (bs : List Bool). b ∷ bs) (ap (λ (n : ℕ). eqb n 1) low)
    (ap (low_bits k) high ∙ low_bits_flip k (a / 2) i (omega arith) ∙ ap (λ n. set (low_bits k (a / 2)) i (not (is_odd n))) down)

-- bytes

pub length-bits_of : (bs : List ℕ) → length (bits_of bs) ≡ 8 * length bs
length-bits_of [] = refl
length-bits_of (b ∷ bs) = omega (arith, length-bits_of bs)

pub length-bits_in : (bs : List ℕ) → length (bits_in bs) ≡ min (length bs * 8) (2 ^ 64 - 1)
unfolding bits_in
length-bits_in bs = length-take (2 ^ 64 - 1) (bits_of bs) ∙ omega (arith, length-bits_of bs)

pub bits_of-append : (xs ys : List ℕ) → bits_of (xs ++ ys) ≡ bits_of xs ++ bits_of ys
bits_of-append [] ys = refl
bits_of-append (x ∷ xs) ys = ap (λ l. low_bits 8 x ++ l) (bits_of-append xs ys)

pub bytes_of-bits_of : (bs : List ℕ) → AllByRecursion (λ b. b < 256) bs → bytes_of (length bs) (bits_of bs) ≡ bs
bytes_of-bits_of [] h = refl
bytes_of-bits_of (b ∷ bs) h =
    ap₂ (λ (x : ℕ) (xs : List ℕ). x ∷ xs) (value_of-low_bits 8 b ∙ omega (arith, h.0)) (bytes_of-bits_of bs h.1)

pub bits_of-bytes_of : (k : ℕ) (bits : List Bool) → length bits ≡ 8 * k → bits_of (bytes_of k bits) ≡ bits
bits_of-bytes_of zero [] h = refl
bits_of-bytes_of zero (b ∷ bits) h = absurd (omega arith)
bits_of-bytes_of (suc k) bits h =
    let eight : length (take 8 bits) ≡ 8 = length-take-le 8 bits (omega arith) in
    let first : low_bits 8 (value_of (take 8 bits)) ≡ take 8 bits = ap (λ n. low_bits n (value_of (take 8 bits))) (sym eight) ∙ low_bits-value_of (take 8 bits) in
    let rest : bits_of (bytes_of k (drop 8 bits)) ≡ drop 8 bits = bits_of-bytes_of k (drop 8 bits) (omega (arith, length-drop 8 bits)) in
    ap₂ ◌++◌ first rest ∙ take-append-drop 8 bits

-- the bit r of the byte q
bit_at : (bs : List ℕ) (q r : ℕ) → q < length bs → r < 8 → get_or (bits_of bs) (8 * q + r) false ≡ is_odd (get_or bs q 0 / 2 ^ r)
bit_at [] q r h l = absurd (omega arith)
bit_at (b ∷ bs) zero r h l =
    get_or_append_left (low_bits 8 b) (bits_of bs) false (8 * 0 + r) (omega arith) ∙ ap (λ n. get_or (low_bits 8 b) n false) (zero-add r) ∙ get_or-low_bits 8 b r l
bit_at (b ∷ bs) (suc q) r h l =
    let back : 8 * suc q + r ≡ 8 + (8 * q + r) = omega arith in
    ap (λ n. get_or (bits_of (b ∷ bs)) n false) back ∙ get_or-append-add (low_bits 8 b) (bits_of bs) (8 * q + r) false ∙ bit_at bs q r (omega arith) l

pub get_or-bits_of : (bs : List ℕ) (p : ℕ) → p < 8 * length bs → get_or (bits_of bs) p false ≡ is_odd (get_or bs (p / 8) 0 / 2 ^ (p % 8))
get_or-bits_of bs p h = ap (λ n. get_or (bits_of bs) n false) (omega arith) ∙ bit_at bs (p / 8) (p % 8) (omega arith) (omega arith)

set_bit : (bs : List ℕ) (q r v : ℕ) (x : Bool) → q < length bs → r < 8 → low_bits 8 v ≡ set (low_bits 8 (get_or bs q 0)) r x → bits_of (set bs q v) ≡ set (bits_of bs) (8 * q + r) x
set_bit [] q r v x h l e = absurd (omega arith)
set_bit (b ∷ bs) zero r v x h l e =
    ap (λ f. f ++ bits_of bs) e ∙ sym (set-append_left (low_bits 8 b) (bits_of bs) r x (omega arith)) ∙ ap (λ n. set (bits_of (b ∷ bs)) n x) (sym (zero-add r))
set_bit (b ∷ bs) (suc q) r v x h l e =
    ap (λ f. low_bits 8 b ++ f) (set_bit bs q r v x (omega arith) l e) ∙ ap (λ n. low_bits 8 b ++ set (bits_of bs) n x) (omega arith) ∙ sym (set-append_right (low_bits 8 b) (bits_of bs) 8 (8 * suc q + r) x refl (omega arith))

-- a byte with another bit at one place
pub set-bits_of : (bs : List ℕ) (p v : ℕ) (x : Bool) → p < 8 * length bs → low_bits 8 v ≡ set (low_bits 8 (get_or bs (p / 8) 0)) (p % 8) x → bits_of (set bs (p / 8) v) ≡ set (bits_of bs) p x
set-bits_of bs p v x h e = set_bit bs (p / 8) (p % 8) v x (omega arith) (omega arith) e ∙ ap (λ n. set (bits_of bs) n x) (omega arith)

pub value_of_push : (bs : List Bool) (b : Bool) → value_of (bs ++ b ∷ []) ≡ value_of bs + bit b * 2 ^ length bs
value_of_push [] b = omega arith
value_of_push (x ∷ bs) b = omega (arith, value_of_push bs b, ap (λ n. bit b * n) (pow-succ' 2 (length bs)))

pub value_of-take_below : (i : ℕ) (bs : List Bool) → i ≤ length bs → value_of (take i bs) < 2 ^ i
value_of-take_below i bs h = subst (λ (n : ℕ). value_of (take i bs) < 2 ^ n) (length-take-le i bs h) (value_of_below (take i bs))

pub take-bits_in : (k : ℕ) (bytes : List ℕ) → k ≤ length (bits_in bytes) → take k (bits_in bytes) ≡ take k (bits_of bytes)
unfolding bits_in
take-bits_in k bytes h = take-take k (2 ^ 64 - 1) (bits_of bytes) (omega (arith, length-take (2 ^ 64 - 1) (bits_of bytes)))

pub get_or-bits_in : (bytes : List ℕ) (p : ℕ) → p < length (bits_in bytes) → get_or (bits_in bytes) p false ≡ get_or (bits_of bytes) p false
unfolding bits_in
get_or-bits_in bytes p h = get_or-take (2 ^ 64 - 1) (bits_of bytes) p false (omega (arith, length-take (2 ^ 64 - 1) (bits_of bytes)))
