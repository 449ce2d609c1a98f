-- The order of use of a set's lines.
use Rattle.std.specs.Prelude.{ℕ, List, ◌∷◌, take, slice_index}
use Rattle.std.specs.List.{remove}
use Rattle.cache.specs.declared.recency.Recency.{Recency}

-- the ways in use, latest use first
abbrev pub recent : Recency → List ℕ
recent r = take r.used r.order

-- the element at a place comes first
abbrev pub to_front : ℕ → List ℕ → List ℕ
to_front place xs = slice_index xs place ∷ remove xs place
