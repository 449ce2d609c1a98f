-- The settings of a cache, the sets of lines that it holds, and what an operation does to them.
use Rattle.std.specs.Prelude.{◌≡◌, ℕ, suc, ◌+◌, ◌*◌, List, [], ◌∷◌, map, vec_items, slice_index_or}
use Rattle.rules.specs.Cache.{new_line, empty_cache, Operation, applied}
use Rattle.rules.specs.declared.cache.Line.{Line}
use Rattle.rules.specs.declared.cache.Settings.{Settings}
use Rattle.cache.specs.Recency.{recent}
use Rattle.cache.specs.declared.recency.Recency.{Recency}
use Rattle.cache.specs.declared.sets.Cache.{Cache}

abbrev pub settings_of : Cache → Settings
settings_of c = c.shape.settings

-- what stands for a line outside the table
abbrev pub blank : Line
blank = new_line [] 0

-- the line in a way of the set s
abbrev pub line_in : List Line → ℕ → ℕ → Line
line_in lines s way = slice_index_or lines (4 * s + way) blank

-- the lines of the set s, latest use first
abbrev pub lines_of : List Line → ℕ → Recency → List Line
lines_of lines s r = map (line_in lines s) (recent r)

-- the sets from s on
abbrev pub sets_from : List Line → ℕ → List Recency → List (List Line)
sets_from lines s [] = []
sets_from lines s (r ∷ rs) = lines_of lines s r ∷ sets_from lines (suc s) rs

abbrev pub table_of : Cache → List Line
table_of c = vec_items c.table.lines

abbrev pub sets_of : Cache → List (List Line)
sets_of c = sets_from (table_of c) 0 (vec_items c.orders)

-- a cache with no line
pub record IsEmpty (k : Settings) (c : Cache) : Type 0 where
  pub settings : settings_of c ≡ k
  pub sets : sets_of c ≡ empty_cache k

-- the operation is done to a cache
pub record Does (op : Operation) (before after : Cache) : Type 0 where
  pub settings : settings_of after ≡ settings_of before
  pub sets : sets_of after ≡ applied (settings_of before) op (sets_of before)
