-- A result, seen through a view of what it holds.
use Rattle.std.specs.Prelude.{Ok, Err, Result}

abbrev pub on_ok : {A B E : Type 0} → (A → B) → Result A E → Result B E
on_ok view (Ok a) = Ok (view a)
on_ok view (Err e) = Err e
