-- Numbers in hexadecimal.
use Rattle.std.specs.Prelude.{ℕ, zero, suc, ◌+◌, ◌-◌, ◌*◌, ◌/◌, ◌%◌, ◌^◌, Bool, ◌&&◌, if◌then◌else◌, List, [], ◌∷◌, length, Some, None, Option, nat_le, nat_lt}
use Rattle.std.specs.List.{flat_map}

-- reading

abbrev pub between : ℕ → ℕ → ℕ → Bool
between least most n = nat_le least n && nat_le n most

-- the value of a digit 0 to 9 or A to F
abbrev pub digit_of : ℕ → Option ℕ
digit_of c = if between 48 57 c then Some (c - 48) else (if between 65 70 c then Some (c - 55) else None)

-- the number of the digits, after those that came to `value`
abbrev pub digits_after : ℕ → List ℕ → Option ℕ
digits_after value [] = Some value
digits_after value (c ∷ cs) = elim (digit_of c) [ Some d ↦ digits_after (16 * value + d) cs | None ↦ None ]

abbrev pub at_most : ℕ → Option ℕ → Option ℕ
at_most most (Some n) = if nat_le n most then Some n else None
at_most most None = None

-- a number is 1 to 16 digits, and not above `most`
abbrev pub number_in : ℕ → List ℕ → Option ℕ
number_in most cs = if between 1 16 (length cs) then at_most most (digits_after 0 cs) else None

-- writing

abbrev pub digit_char : ℕ → ℕ
digit_char d = if nat_lt d 10 then 48 + d else 55 + d

-- the k lowest digits of n, highest first
abbrev pub hex_digits : ℕ → ℕ → List ℕ
hex_digits zero n = []
hex_digits (suc k) n = digit_char (n / 16 ^ k % 16) ∷ hex_digits k n

-- how many digits n has, of `most` at the most
unfoldable pub width_from : ℕ → ℕ → ℕ
width_from zero n = 0
width_from (suc most) n = if nat_lt n 16 then 1 else 1 + width_from most (n / 16)

abbrev pub hex_width : ℕ → ℕ
hex_width n = width_from 16 n

abbrev pub hex_text : ℕ → List ℕ
hex_text n = hex_digits (hex_width n) n

abbrev pub hex_bytes : List ℕ → List ℕ
hex_bytes bytes = flat_map (hex_digits 2) bytes
