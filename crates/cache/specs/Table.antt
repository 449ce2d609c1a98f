-- A line of the table that is lent.
use Rattle.std.specs.Prelude.{ℕ}
use Rattle.std.specs.Borrow.{Fml, Lends, MutBor}
use Rattle.std.specs.Vec.{with_item}
use Rattle.rules.specs.contracts.cache.Line.{the_row as line_row}
use Rattle.rules.specs.declared.cache.Line.{Line}
use Rattle.cache.specs.contracts.table.Table.{the_row as table_row}
use Rattle.cache.specs.declared.table.Table.{Table}

-- the table ends with the last value that is written through the line in its slot
abbrev pub LendsLine : MutBor Table → ℕ → MutBor Line → Fml
LendsLine table slot line = Lends table_row line_row table line (λ w. record { lines = with_item table.now.lines slot w })
