-- A small core. Its state: the place of the word that is next, the eight registers, and the words.
use Rattle.std.specs.Prelude.{◌≡◌, ℕ, ◌+◌, ◌%◌, ◌^◌, ◌<◌, List, ◌∷◌, ◌++◌, length, take, drop, replicate, ◌==◌, if◌then◌else◌, slice_index, slice_set}
use Rattle.std.specs.List.{AllByRecursion}
use Rattle.rules.specs.Program.{Behaviour, ran}
use Rattle.rules.specs.declared.program.Want.{Want}
use Rattle.rules.specs.declared.program.Want.TheVariants as want
use Rattle.programs.specs.declared.instruction.Op.{Op}
use Rattle.programs.specs.declared.instruction.Op.TheVariants.{Constant, AddConstant, AddRegister, Load, Store, Jump, Other}
use Rattle.programs.specs.declared.instruction.Instruction.{Instruction}
use Rattle.programs.specs.declared.processor.Core.{Core}
use Rattle.programs.specs.Instruction.{size_bytes, instruction_of, loaded_into}

abbrev pub core_state : ℕ → List ℕ → List ℕ → List ℕ
core_state place registers words = place ∷ (registers ++ words)

abbrev pub state_of : Core → List ℕ
state_of p = core_state p.place p.registers p.words.items

abbrev pub register_at : List ℕ → ℕ → ℕ
register_at state i = slice_index (drop 1 state) i

-- the word at the place, and 0 past the words; its op, 0, ends the program
abbrev pub word_at : List ℕ → ℕ
word_at state = slice_index (drop 9 state) (slice_index state 0)

abbrev pub sum32 : ℕ → ℕ → ℕ
sum32 a b = (a + b) % 2 ^ 32

abbrev pub address_by : Instruction → List ℕ → ℕ
address_by i state = sum32 (register_at state i.s) i.k

abbrev pub want_by : Op → Instruction → List ℕ → Want
want_by Constant i state = want.Quiet
want_by AddConstant i state = want.Quiet
want_by AddRegister i state = want.Quiet
want_by (Load size) i state = want.Load (address_by i state) (size_bytes size)
want_by (Store size) i state = want.Store (address_by i state) (size_bytes size) (register_at state i.d % 256 ^ size_bytes size)
want_by Jump i state = want.Quiet
want_by Other i state = want.Ended

abbrev pub gone_to : ℕ → List ℕ → List ℕ
gone_to place state = slice_set state 0 place

abbrev pub next_place : List ℕ → ℕ
next_place state = slice_index state 0 + 1

-- on to the next word, with the number in register d
abbrev pub with_number : ℕ → ℕ → List ℕ → List ℕ
with_number d number state = slice_set (gone_to (next_place state) state) (1 + d) number

abbrev pub next_by : Op → Instruction → ℕ → List ℕ → List ℕ
next_by Constant i value state = with_number i.d i.k state
next_by AddConstant i value state = with_number i.d (sum32 (register_at state i.s) i.k) state
next_by AddRegister i value state = with_number i.d (sum32 (register_at state i.d) (register_at state i.s)) state
next_by (Load size) i value state = with_number i.d (loaded_into size value) state
next_by (Store size) i value state = gone_to (next_place state) state
next_by Jump i value state = gone_to (if register_at state i.d == 0 then next_place state else i.k) state
next_by Other i value state = state

abbrev pub core_want : List ℕ → Want
core_want state = want_by (instruction_of (word_at state)).op (instruction_of (word_at state)) state

abbrev pub core_next : List ℕ → ℕ → List ℕ
core_next state value = next_by (instruction_of (word_at state)).op (instruction_of (word_at state)) value state

abbrev pub core_behaviour : Behaviour
core_behaviour = record { want = core_want; next = core_next }

-- a state with these words, and with eight registers that are below 2 ^ 32
pub record CoreKeeps (words state : List ℕ) : Type 0 where
  pub same : drop 9 state ≡ words
  pub eight : length (take 8 (drop 1 state)) ≡ 8
  pub below : AllByRecursion (λ r. r < 2 ^ 32) (take 8 (drop 1 state))

-- Whatever the values, the words never change, and every register stays below 2 ^ 32.
abbrev pub CoreRuns : List ℕ → Type 0
CoreRuns words = (values : List ℕ) → CoreKeeps words (ran core_behaviour (core_state 0 (replicate 8 0) words) values)
