-- The number of a refusal. Want of memory is no refusal by rule and has none.
use Rattle.std.specs.Prelude.{ℕ, Ok, Err, Result}
use Rattle.std.specs.declared.alloc.AllocError.{AllocError}
use Rattle.programs.specs.declared.refusal.ProgramRefusal.{ProgramRefusal}
use Rattle.programs.specs.declared.refusal.ProgramRefusal.TheVariants.{TooLong, NoMemory}

abbrev pub refusal_number : ProgramRefusal → Result ℕ AllocError
refusal_number TooLong = Ok 2
refusal_number (NoMemory fault) = Err fault
