-- One access of a list: a load, a store, or another kind, which ends the list.
use Rattle.std.specs.Prelude.{ℕ, Bool, ◌||◌, List, [], ◌∷◌, ◌==◌, if◌then◌else◌}
use Rattle.rules.specs.declared.program.Want.{Want}
use Rattle.rules.specs.declared.program.Want.TheVariants.{Load, Store, Ended}
use Rattle.programs.specs.declared.list.ListedAccess.{ListedAccess}

abbrev pub numbers_of : ListedAccess → List ℕ
numbers_of a = a.kind ∷ a.address ∷ a.size ∷ a.value ∷ []

abbrev pub want_of : ListedAccess → Want
want_of a =
    if a.kind == 1 then Load a.address a.size
    else (if a.kind == 2 then Store a.address a.size a.value else Ended)

abbrev pub loads_or_stores : ListedAccess → Bool
loads_or_stores a = a.kind == 1 || a.kind == 2
