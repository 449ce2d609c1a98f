-- Where a block's line lies, and how the block comes forward.
use Rattle.std.specs.Prelude.{◌≡◌, ℕ, ◌+◌, ◌*◌, ◌%◌, ◌<◌, true, false, List, [], ◌∷◌, map, length, Some, None, vec_items, vec_len, Option, slice_index, slice_index_or, slice_set}
use Rattle.rules.specs.Cache.{first, holds, forward, behind, set_for, on_set}
use Rattle.rules.specs.declared.cache.Line.{Line}
use Rattle.cache.specs.Recency.{recent}
use Rattle.cache.specs.View.{settings_of, blank, table_of, sets_from, sets_of}
use Rattle.cache.specs.declared.recency.Recency.{Recency}
use Rattle.cache.specs.declared.sets.Cache.{Cache}
use Rattle.cache.specs.declared.sets.Found.{Found}

-- no line at a place below n holds the block
abbrev pub AbsentBelow : ℕ → List Line → ℕ → Type 0
AbsentBelow block ls n = (i : ℕ) → i < n → holds block (slice_index_or ls i blank) ≡ false

-- the block's set
abbrev pub block_set : ℕ → Cache → List Line
block_set block c = set_for (settings_of c) block (sets_of c)

-- the ways of the block's set that are in use, latest use first
abbrev pub ways_of : ℕ → Cache → List ℕ
ways_of block c = slice_index_or (map recent (vec_items c.orders)) (block % (settings_of c).sets) []

-- the first line of its set that holds the block is at the place, and in the slot of the table
pub record Lies (block : ℕ) (c : Cache) (place slot : ℕ) : Type 0 where
  pub inside : place < length (block_set block c)
  pub way : slot ≡ 4 * (block % (settings_of c).sets) + slice_index (ways_of block c) place
  pub slotted : slot < length (table_of c)
  pub line : slice_index_or (block_set block c) place blank ≡ slice_index_or (table_of c) slot blank
  pub holding : holds block (slice_index_or (block_set block c) place blank) ≡ true
  pub before : AbsentBelow block (block_set block c) place

abbrev pub Finds : ℕ → Cache → Option Found → Type 0
Finds block c None = AbsentBelow block (block_set block c) (length (block_set block c))
Finds block c (Some f) = Lies block c f.place f.slot

-- any line that is put in the slot is then the first of the block's set, with the others behind it
abbrev pub ComesFirst : ℕ → Cache → List Line → List Recency → ℕ → Type 0
ComesFirst block before lines orders slot =
    (l : Line) → sets_from (slice_set lines slot l) 0 orders ≡ on_set (settings_of before) block (λ ls. l ∷ behind (settings_of before).ways block ls) (sets_of before)

-- the order of use is the one after a use of the block, whose line is to lie in the slot
pub record ComesForward (block : ℕ) (before after : Cache) (slot : ℕ) : Type 0 where
  pub shape : after.shape ≡ before.shape
  pub table : after.table ≡ before.table
  pub slotted : slot < length (table_of before)
  pub sets : ComesFirst block before (table_of before) (vec_items after.orders) slot

-- the block's line, filled if it has to be, lies in the slot and is the first of its set
pub record Brings (block : ℕ) (fill : List ℕ) (before after : Cache) (slot : ℕ) : Type 0 where
  pub settings : settings_of after ≡ settings_of before
  pub slotted : slot < vec_len after.table.lines
  pub line : (l : Line) → l ≡ slice_index_or (table_of after) slot l → l ≡ forward fill block (first (holds block) (block_set block before))
  pub sets : ComesFirst block before (table_of after) (vec_items after.orders) slot
