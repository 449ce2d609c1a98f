-- What making a program of some length answers, told by what is made: its first state, or the copy of its items.
use Rattle.std.specs.Prelude.{◌≡◌, ℕ, ◌<◌, ◌≤◌, Ok, Err, Result}
use Rattle.programs.specs.declared.refusal.ProgramRefusal.{ProgramRefusal}
use Rattle.programs.specs.declared.refusal.ProgramRefusal.TheVariants.{TooLong, NoMemory}

abbrev pub longest : ℕ
longest = 1024

-- too long exactly above the longest; a program that is not may find no memory
abbrev pub Refuses : ℕ → ProgramRefusal → Type 0
Refuses count TooLong = longest < count
Refuses count (NoMemory e) = count ≤ longest

abbrev pub Makes : {A : Type 0} → ℕ → A → Result A ProgramRefusal → Type 0
Makes count first (Ok made) = (count ≤ longest) × (made ≡ first)
Makes count first (Err refusal) = Refuses count refusal
