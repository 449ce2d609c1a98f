-- The words of the core: bits 31 to 28 are the op, 26 to 24 d, 22 to 20 s, and 15 to 0 k.
use Rattle.std.specs.Prelude.{ℕ, ◌/◌, ◌%◌, ◌^◌, List, [], ◌∷◌, slice_index_or}
use Rattle.programs.specs.declared.instruction.Size.{Size}
use Rattle.programs.specs.declared.instruction.Size.TheVariants.{One, Two, Four}
use Rattle.programs.specs.declared.instruction.Op.{Op}
use Rattle.programs.specs.declared.instruction.Op.TheVariants.{Constant, AddConstant, AddRegister, Load, Store, Jump, Other}
use Rattle.programs.specs.declared.instruction.Instruction.{Instruction}

abbrev pub size_bytes : Size → ℕ
size_bytes One = 1
size_bytes Two = 2
size_bytes Four = 4

-- the ops from 0 to 10; those above are others too
abbrev pub ops : List Op
ops = Other ∷ Constant ∷ AddConstant ∷ AddRegister ∷ Load One ∷ Load Two ∷ Load Four ∷ Store One ∷ Store Two ∷ Store Four ∷ Jump ∷ []

abbrev pub op_numbered : ℕ → Op
op_numbered n = slice_index_or ops n Other

abbrev pub instruction_of : ℕ → Instruction
instruction_of word = record {
  op = op_numbered (word / 2 ^ 28 % 16);
  d = word / 2 ^ 24 % 8;
  s = word / 2 ^ 20 % 8;
  k = word % 2 ^ 16;
}

-- what a load puts into its register: the low bytes, the upper bits zero
abbrev pub loaded_into : Size → ℕ → ℕ
loaded_into size value = value % 256 ^ size_bytes size
