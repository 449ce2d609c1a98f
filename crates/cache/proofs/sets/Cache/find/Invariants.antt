use Rattle.std.proofs.Common.{◌≡◌, ℕ, ◌<◌, false, get_or}
use Rattle.rules.specs.Cache.{holds}
use Rattle.cache.specs.Recency.{recent}
use Rattle.cache.specs.View.{line_in, table_of}
use Rattle.cache.proofs.sets.Cache.find.Given as goal

abbrev pub invariant-loop-place : goal.invariant-loop-place
invariant-loop-place l = (i : ℕ) → i < l.place → holds l.block (line_in (table_of l.self) l.set (get_or (recent l.order) i 0)) ≡ false
