-- The groups of a number, gathered in one word.
use Rattle.std.proofs.Common.{◌≡◌, ℕ, zero, suc, ◌+◌, ◌*◌, ◌/◌, ◌%◌, ◌^◌, ◌<◌, ◌≤◌, Bool, cond, List, [], ◌∷◌, ◌++◌, length, sym, ap, ◌∙◌, append_assoc, add_comm, arith, length-append, subst, ltb, pow-add, refl, ap₂}
use lib.Arith.{digits_lt}
use Rattle.std.specs.Int.{from_bool}
use Rattle.std.proofs.lemmas.Nat.{shl_whole}
use Rattle.std.proofs.lemmas.Bool.{cond-true, cond-false, lt-ltb, ltb-true}
use Rattle.rules.specs.Bits.{bit, low_bits, value_of}
use Rattle.rules.proofs.Bits.{length-low_bits, low_bits-value_of, value_of-low_bits, value_of_push, value_of_below, low_bits_join}
use Rattle.codes.specs.Chunked.{greatest, more, groups}
use Rattle.codes.specs.ChunkedLaws.{either, length-groups, fewer, turns_left}
use Rattle.codes.proofs.Words.{bit_of}

-- a group with its connect bit
abbrev pub linked : ℕ → ℕ → List Bool
linked w n = low_bits w n ++ (more w n ∷ [])

length-linked : (w n : ℕ) → length (linked w n) ≡ w + 1
length-linked w n = length-append (low_bits w n) (more w n ∷ []) ∙ omega (arith, length-low_bits w n)

-- A group put above a word that is seen as its bits. The code shifts the connect bit above the `low` bits, and both
-- above the word.
pub record Put (word count w n low link : ℕ) (done : List Bool) : Type 0 where
  pub fits : count + w < 64
  pub is : ((low + (link * 2 ^ w) % 2 ^ 64) * 2 ^ count) % 2 ^ 64 ≡ value_of (linked w n) * 2 ^ count
  pub below : word + value_of (linked w n) * 2 ^ count < 2 ^ (count + w + 1)
  pub bits : low_bits (count + w + 1) (word + value_of (linked w n) * 2 ^ count) ≡ done ++ linked w n

pub put : (word count w n low link : ℕ) (done : List Bool) → low_bits count word ≡ done → word < 2 ^ count → w ≤ 6 → length done + w < 64 → low ≡ n % 2 ^ w → link ≡ from_bool (more w n) → Put word count w n low link done
put word count w n low link done is below narrow fits low_is link_is =
    let group = linked w n in
    let long = length-linked w n in
    let bit_is = bit_of (more w n) in
    let room : count + w < 64 = omega (arith, ap length is, length-low_bits count word) in
    let small : value_of group < 2 ^ (w + 1) = subst (λ k. value_of group < 2 ^ k) long (value_of_below group) in
    let shifted = shl_whole (from_bool (more w n)) 1 w 64 (omega arith) (omega arith) in
    let group_is : n % 2 ^ w + (from_bool (more w n) * 2 ^ w) % 2 ^ 64 ≡ value_of group =
    omega (arith, shifted, ap (λ x. x * 2 ^ w) bit_is.0, value_of_push (low_bits w n) (more w n), value_of-low_bits w n, ap (λ k. bit (more w n) * 2 ^ k) (length-low_bits w n)) in
    let size : count + w + 1 ≡ count + length group = omega arith in
    record {
      fits = room;
      is = (λ i. ((low_is i + (link_is i * 2 ^ w) % 2 ^ 64) * 2 ^ count) % 2 ^ 64) ∙ ap (λ x. (x * 2 ^ count) % 2 ^ 64) group_is ∙ shl_whole (value_of group) (w + 1) count 64 small (omega arith);
      below = omega (arith, ap (λ k. 2 ^ k) size, ap (λ k. 2 ^ (count + k)) long, pow-add 2 count (w + 1), digits_lt {q = value_of group} {m = 2 ^ (w + 1)} {r = word} {c = 2 ^ count} small below);
      bits = ap₂ low_bits size (add_comm word (value_of group * 2 ^ count)) ∙ low_bits_join count (length group) word (value_of group) below ∙ ap₂ ◌++◌ is (low_bits-value_of group);
    }

-- the groups after one, of what is left of the number
abbrev pub following : ℕ → ℕ → List Bool
following later rest = cond (ltb 0 rest) (groups 32 later later rest) []

-- a turn more than a number needs changes nothing
turn_spare : (turns later w n : ℕ) → 1 ≤ w → 1 ≤ later → 0 < turns → n < 2 ^ turns → groups turns later w n ≡ groups (suc turns) later w n
unfolding groups
turn_spare zero later w n lw ll some small = absurd (omega arith)
turn_spare (suc turns) later w n lw ll some small =
    let rest = n / 2 ^ w in
    ap (λ l. low_bits w n ++ (more w n ∷ l))
    (either (more w n)
    (λ e. ap (λ g. cond (more w n) g []) (turn_spare turns later later rest ll ll (turns_left turns later w n lw small (ltb-true 0 rest e)) (fewer turns later w n lw small)))
    (λ e. cond-false (more w n) _ _ e ∙ sym (cond-false (more w n) _ _ e)))

pub opened : (later w n : ℕ) → 1 ≤ w → 1 ≤ later → n ≤ greatest → groups 32 later w n ≡ linked w n ++ following later (n / 2 ^ w)
unfolding groups
opened later w n lw ll fits =
    let rest = n / 2 ^ w in
    ap (λ g. low_bits w n ++ (more w n ∷ cond (more w n) g [])) (turn_spare 31 later later rest ll ll (omega arith) (fewer 31 later w n lw (omega arith)))
    ∙ sym (append_assoc (low_bits w n) (more w n ∷ []) (following later rest))

-- `done` are the bits so far, and `rest` is what is left of the number
module _ (later rest : ℕ) (done all : List Bool) (some : 0 < rest) (is : done ++ following later rest ≡ all) where
  standing : done ++ groups 32 later later rest ≡ all
  standing = ap (λ l. done ++ l) (sym (cond-true (ltb 0 rest) _ _ (lt-ltb 0 rest some))) ∙ is

  pub room_left : length all ≤ 64 → length done + later < 64
  room_left h =
      omega (arith, h, ap length standing, length-append done (groups 32 later later rest), length-groups 31 later later rest (more later rest) refl)

  pub spelled_more : 1 ≤ later → rest ≤ greatest → (done ++ linked later rest) ++ following later (rest / 2 ^ later) ≡ all
  spelled_more ll fits =
      append_assoc done (linked later rest) (following later (rest / 2 ^ later)) ∙ ap (λ l. done ++ l) (sym (opened later later rest ll ll fits)) ∙ standing
