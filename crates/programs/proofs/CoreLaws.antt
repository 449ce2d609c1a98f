-- A core keeps its words, and its registers fit, over a whole run.
use Rattle.std.proofs.Common.{◌≡◌, ℕ, ◌+◌, ◌^◌, ◌<◌, All, List, [], ◌∷◌, length, set, replicate, refl, ap, ◌∙◌, subst, arith}
use Rattle.std.proofs.lemmas.List.{length-set, take_at, drop_at}
use Rattle.std.proofs.lemmas.List.Elements.{All-set, All-replicate, recursion_from_All}
use Rattle.rules.specs.Program.{ran}
use Rattle.programs.specs.declared.instruction.Instruction.{Instruction}
use Rattle.programs.specs.declared.instruction.Op.{Op}
use Rattle.programs.specs.declared.instruction.Op.TheVariants.{Constant, AddConstant, AddRegister, Load, Store, Jump, Other}
use Rattle.programs.specs.declared.instruction.Size.{Size}
use Rattle.programs.specs.declared.instruction.Size.TheVariants.{One, Two, Four}
use Rattle.programs.specs.Core.{core_state, word_at, with_number, next_by, core_behaviour, CoreKeeps, CoreRuns}
use Rattle.programs.specs.Instruction.{instruction_of, loaded_into}
use Rattle.programs.proofs.Registers.{number_is}

loaded_below : (size : Size) (value : ℕ) → loaded_into size value < 2 ^ 32
loaded_below One value = omega arith
loaded_below Two value = omega arith
loaded_below Four value = omega arith

module _ (words : List ℕ) where
  -- a state with the words, and with eight registers that fit
  data Fits : List ℕ → Type 0 where
    fits : (place : ℕ) (registers : List ℕ) → length registers ≡ 8 → All (λ r. r < 2 ^ 32) registers → Fits (core_state place registers words)

  number_fits : {state : List ℕ} (d number : ℕ) → Fits state → d < 8 → number < 2 ^ 32 → Fits (with_number d number state)
  number_fits d number (fits place registers eight below) h small =
      subst Fits (number_is place registers words d number (omega arith))
      (fits (place + 1) (set registers d number) (length-set registers d number ∙ eight) (All-set (λ r. r < 2 ^ 32) registers d number small below))

  place_fits : {state : List ℕ} (place : ℕ) → Fits state → Fits (set state 0 place)
  place_fits place (fits _ registers eight below) = fits place registers eight below

  next_fits : {state : List ℕ} (op : Op) (i : Instruction) (value : ℕ) → Fits state → i.d < 8 → i.k < 2 ^ 32 → Fits (next_by op i value state)
  next_fits Constant i value f h small = number_fits i.d i.k f h small
  next_fits AddConstant i value f h small = number_fits i.d _ f h (omega arith)
  next_fits AddRegister i value f h small = number_fits i.d _ f h (omega arith)
  next_fits (Load size) i value f h small = number_fits i.d _ f h (loaded_below size value)
  next_fits (Store size) i value f h small = place_fits _ f
  next_fits Jump i value f h small = place_fits _ f
  next_fits Other i value f h small = f

  run_fits : (values : List ℕ) {state : List ℕ} → Fits state → Fits (ran core_behaviour state values)
  run_fits [] f = f
  run_fits (v ∷ vs) {state} f =
      let i = instruction_of (word_at state) in
      run_fits vs (next_fits i.op i v f (omega arith) (omega arith))

  keeps : {state : List ℕ} → Fits state → CoreKeeps words state
  keeps (fits place registers eight below) =
      let taken = take_at registers words 8 eight in
      record { same = drop_at registers words 8 eight; eight = ap length taken ∙ eight; below = rw taken (recursion_from_All (λ r. r < 2 ^ 32) registers below) }

  pub core_runs : CoreRuns words
  core_runs values = keeps (run_fits values (fits 0 (replicate 8 0) refl (All-replicate (λ r. r < 2 ^ 32) 8 0 (omega arith))))
