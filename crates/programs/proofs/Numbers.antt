-- The access that a state of numbers has at its place.
use Rattle.std.proofs.Common.{◌≡◌, ℕ, zero, suc, ◌+◌, ◌*◌, ◌^◌, ◌<◌, All, List, [], ◌∷◌, length, get_or, take, sym, arith}
use Rattle.std.specs.List.{flat_map}
use Rattle.std.proofs.lemmas.Grind.{flat_map-append}
use Rattle.std.proofs.lemmas.List.{get_or_append_left, get_or-replicate, take_more}
use Rattle.std.proofs.lemmas.List.Elements.{All-append}
use Rattle.programs.specs.declared.list.ListedAccess.{ListedAccess}
use Rattle.programs.specs.AccessList.{list_state, access_at}
use Rattle.programs.specs.ListedAccess.{numbers_of}

-- what stands past the last access
abbrev pub past : ListedAccess
past = record { kind = 0; address = 0; size = 0; value = 0 }

number_at : (xs : List ListedAccess) (place i : ℕ) → i < 4 → get_or (flat_map numbers_of xs) (4 * place + i) 0 ≡ get_or (numbers_of (get_or xs place past)) i 0
number_at [] place i h = sym (get_or-replicate 4 i 0 0 h)
number_at (a ∷ xs) zero i h =
    let e : 4 * 0 + i ≡ i = omega arith in
    rw e (get_or_append_left (numbers_of a) (flat_map numbers_of xs) 0 i h)
number_at (a ∷ xs) (suc place) i h =
    let e : 4 * suc place + i ≡ suc (suc (suc (suc (4 * place + i)))) = omega arith in
    rw e (number_at xs place i h)

pub access_is : (place last : ℕ) (xs : List ListedAccess) → get_or xs place past ≡ access_at (list_state place last xs)
access_is place last xs =
    sym (rw (number_at xs place 0 (omega arith), number_at xs place 1 (omega arith), number_at xs place 2 (omega arith), number_at xs place 3 (omega arith)))

-- the numbers of one more access fit
pub below_more : (xs : List ListedAccess) (i : ℕ) → i < length xs → All (λ n. n < 2 ^ 64) (flat_map numbers_of (take i xs)) → All (λ n. n < 2 ^ 64) (numbers_of (get_or xs i past)) → All (λ n. n < 2 ^ 64) (flat_map numbers_of (take (i + 1) xs))
below_more xs i within held here = rw (take_more xs i past within, flat_map-append numbers_of) (All-append (λ n. n < 2 ^ 64) _ _ held here)
