-- What a program means: a state, told as a list of numbers, decides the want; it and one value decide the next state.
use Rattle.std.specs.Prelude.{◌≡◌, ℕ, List, [], ◌∷◌}
use Rattle.rules.specs.declared.program.Want.{Want}
use Rattle.rules.specs.declared.program.Want.TheVariants.{Ended}

pub record Behaviour : Type 0 where
  pub want : List ℕ → Want
  pub next : List ℕ → ℕ → List ℕ

-- the state after going on with each value in turn
abbrev pub ran : Behaviour → List ℕ → List ℕ → List ℕ
ran b s [] = s
ran b s (v ∷ vs) = ran b (b.next s v) vs

pub record Lawful (b : Behaviour) : Type 0 where
  -- an ended program stays
  pub stays : (s : List ℕ) (v : ℕ) → b.want s ≡ Ended → b.next s v ≡ s
