-- Bits and bytes. Bits fill a byte from its lowest, and a list of bits has the lowest first.
use Rattle.std.specs.Prelude.{ℕ, zero, suc, ◌+◌, ◌-◌, ◌*◌, ◌/◌, ◌%◌, ◌^◌, Bool, true, false, List, [], ◌∷◌, ◌++◌, take, drop, ◌==◌}

abbrev pub is_odd : ℕ → Bool
is_odd n = n % 2 == 1

-- the k lowest bits of n
abbrev pub low_bits : ℕ → ℕ → List Bool
low_bits zero n = []
low_bits (suc k) n = is_odd n ∷ low_bits k (n / 2)

abbrev pub bit : Bool → ℕ
bit true = 1
bit false = 0

-- the number that bits spell
abbrev pub value_of : List Bool → ℕ
value_of [] = 0
value_of (b ∷ bs) = bit b + 2 * value_of bs

abbrev pub bits_of : List ℕ → List Bool
bits_of [] = []
bits_of (b ∷ bs) = low_bits 8 b ++ bits_of bs

-- the first k bytes that the bits fill
abbrev pub bytes_of : ℕ → List Bool → List ℕ
bytes_of zero bs = []
bytes_of (suc k) bs = value_of (take 8 bs) ∷ bytes_of k (drop 8 bs)

-- The bits of a buffer that have a place after them: a place is a machine word. No real buffer has as many.
unfoldable pub bits_in : List ℕ → List Bool
bits_in bytes = take (2 ^ 64 - 1) (bits_of bytes)
