-- A list laid over part of another: bits over a buffer's bits, bytes over a line's bytes.
use Rattle.std.specs.Prelude.{ℕ, ◌+◌, List, ◌++◌, length, take, drop}

-- old, with new over it from the place on
abbrev pub overlay : {X : Type 0} → ℕ → List X → List X → List X
overlay place new old = take place old ++ (new ++ drop (place + length new) old)
