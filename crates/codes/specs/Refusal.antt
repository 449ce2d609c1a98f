-- The refusals of making a code.
use Rattle.std.specs.Prelude.{ℕ, Bool, ◌&&◌, nat_le}
use Rattle.codes.specs.declared.refusal.MakeRefusal.{MakeRefusal}
use Rattle.codes.specs.declared.refusal.MakeRefusal.TheVariants.{OutOfRange}

abbrev pub making_number : MakeRefusal → ℕ
making_number OutOfRange = 1

abbrev pub between : ℕ → ℕ → ℕ → Bool
between least most n = nat_le least n && nat_le n most
