-- The registers and the word that a state of numbers has.
use Rattle.std.proofs.Common.{◌≡◌, ℕ, ◌+◌, ◌<◌, ◌≤◌, List, ◌∷◌, length, get_or, set, sym, ap, ◌∙◌, one-add}
use Rattle.std.proofs.lemmas.List.{get_or_append_left, set-append_left, drop_at, get_or_past}
use Rattle.programs.specs.Core.{core_state, register_at, word_at, with_number, next_by, core_next}
use Rattle.programs.specs.Instruction.{instruction_of}

pub register_is : (place : ℕ) (registers words : List ℕ) (i : ℕ) → i < length registers
    → get_or registers i 0 ≡ register_at (core_state place registers words) i
register_is place registers words i h = sym (get_or_append_left registers words 0 i h)

pub word_is : (place : ℕ) (registers words : List ℕ) → length registers ≡ 8 → get_or words place 0 ≡ word_at (core_state place registers words)
word_is place registers words eight = sym (ap (λ ns. get_or ns place 0) (drop_at registers words 8 eight))

pub number_is : (place : ℕ) (registers words : List ℕ) (d number : ℕ) → d < length registers
    → core_state (place + 1) (set registers d number) words ≡ with_number d number (core_state place registers words)
number_is place registers words d number h =
    sym (rw one-add (ap (λ ns. (place + 1) ∷ ns) (set-append_left registers words d number h)))

-- a core past its words stays
pub past_stays : (place : ℕ) (registers words : List ℕ) (value : ℕ) → length registers ≡ 8 → length words ≤ place
    → core_state place registers words ≡ core_next (core_state place registers words) value
past_stays place registers words value eight past =
    ap (λ w. next_by (instruction_of w).op (instruction_of w) value (core_state place registers words)) (sym (get_or_past words place 0 past) ∙ word_is place registers words eight)
