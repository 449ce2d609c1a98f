-- What holds of a cache after any operations, from the empty cache on. A history has its latest operation first.
use Rattle.std.specs.Prelude.{◌≡◌, ℕ, suc, ◌+◌, ◌-◌, ◌*◌, ◌%◌, ◌^◌, ◌<◌, ◌≤◌, Bool, true, false, not, ◌&&◌, ◌⊎◌, List, [], ◌∷◌, map, length, take, Some, None, Decides, Option, ◌==◌, ◌≢◌, if◌then◌else◌, nat_eq, nat_le, nat_lt, slice_index, slice_index_or}
use Rattle.std.specs.List.{AllByRecursion}
use Rattle.rules.specs.Bytes.{low_bytes}
use Rattle.rules.specs.Cache.{less, first, holds, block_of, offset_of, region_from, region_size, empty_cache, set_for, is_aligned, is_load_known, loaded_value, Operation, load, store, invalidate, applied}
use Rattle.rules.specs.declared.cache.Line.{Line}
use Rattle.rules.specs.declared.cache.Settings.{Settings}

abbrev pub after : Settings → List Operation → List (List Line)
after k [] = empty_cache k
after k (op ∷ earlier) = applied k op (after k earlier)

-- the blocks of a set, in its order
abbrev pub blocks_in : List Line → List ℕ
blocks_in = map (λ l. l.block)

-- Recency: a set holds the blocks that were loaded or stored last, at most as many as it has ways, latest use first.

-- a block is used: it comes first, and no longer stands where it stood
abbrev pub used_first : ℕ → List ℕ → List ℕ
used_first block blocks = block ∷ less (λ b. nat_eq b block) blocks

-- the blocks of the set s that were used, each once, latest use first
abbrev pub uses : Settings → ℕ → List Operation → List ℕ
uses k s [] = []
uses k s (load fill address size ∷ earlier) = if block_of address % k.sets == s then used_first (block_of address) (uses k s earlier) else uses k s earlier
uses k s (store fill address size value ∷ earlier) = if block_of address % k.sets == s then used_first (block_of address) (uses k s earlier) else uses k s earlier
uses k s (invalidate address ∷ earlier) = uses k s earlier

abbrev pub LatestUses : Settings → Type 0
LatestUses k = (history : List Operation) (s : ℕ) → s < k.sets → blocks_in (slice_index_or (after k history) s []) ≡ take k.ways (uses k s history)

-- no number stands twice
abbrev pub Apart : List ℕ → Type 0
Apart ns = (i j : ℕ) → i < j → j < length ns → slice_index ns i ≢ slice_index ns j

-- a set has at most as many lines as ways, and no block twice
abbrev pub SetsBounded : Settings → Type 0
SetsBounded k = (history : List Operation) (s : ℕ) → s < k.sets → (length (slice_index_or (after k history) s []) ≤ k.ways) × Apart (blocks_in (slice_index_or (after k history) s []))

-- Flags: a granule is flagged exactly if an operation flagged it, and its block's line has been there and fresh ever since.

abbrev pub fresh_line : Option Line → Bool
fresh_line None = false
fresh_line (Some l) = not l.stale

abbrev pub flag_of : ℕ → Option Line → Bool
flag_of q None = false
flag_of q (Some l) = slice_index_or l.flags q false

abbrev pub line_for : Settings → ℕ → List (List Line) → Option Line
line_for k block cache = first (holds block) (set_for k block cache)

-- every byte of the granule q lies in the stretch
abbrev pub Covered : (granule from size q : ℕ) → Type 0
Covered granule from size q = (p : ℕ) → q * granule ≤ p → p < suc q * granule → (from ≤ p) × (p < from + size)

-- The operation flags granule q of the block: a load every granule of its region, a store every granule that it covers
-- whole. A known load is counted too: its granules are flagged already.
abbrev pub FlagsGranule : Settings → ℕ → ℕ → Operation → Type 0
FlagsGranule k block q (load fill address size) = (block_of address ≡ block) × Covered k.granule (region_from k address size) (region_size k size) q
FlagsGranule k block q (store fill address size value) = (block_of address ≡ block) × Covered k.granule (offset_of address) size q
FlagsGranule k block q (invalidate address) = ⊥

-- the granule was flagged, and the block's line has been there and fresh since
abbrev pub Held : Settings → ℕ → ℕ → List Operation → Type 0
Held k block q [] = ⊥
Held k block q (op ∷ earlier) = (fresh_line (line_for k block (after k (op ∷ earlier))) ≡ true) × (FlagsGranule k block q op ⊎ Held k block q earlier)

abbrev pub FlagsHeld : Settings → Type 0
FlagsHeld k = (history : List Operation) (block q : ℕ) → q < 16 → Decides (flag_of q (line_for k block (after k history))) (Held k block q history)

-- an aligned load is known exactly if every granule of its region is held
abbrev pub KnownHeld : Settings → Type 0
KnownHeld k = (history : List Operation) (address size : ℕ) → is_aligned address size ≡ true
    → Decides (is_load_known k address size (after k history)) ((q : ℕ) → q < 16 → Covered k.granule (region_from k address size) (region_size k size) q → Held k (block_of address) q history)

-- Marks: a line is stale exactly if its block was invalidated after its latest load or store.

abbrev pub invalidated_since : ℕ → List Operation → Bool
invalidated_since block [] = false
invalidated_since block (load fill address size ∷ earlier) = if block_of address == block then false else invalidated_since block earlier
invalidated_since block (store fill address size value ∷ earlier) = if block_of address == block then false else invalidated_since block earlier
invalidated_since block (invalidate address ∷ earlier) = if block_of address == block then true else invalidated_since block earlier

abbrev pub MarksSince : Settings → Type 0
MarksSince k = (history : List Operation) (block : ℕ) (l : Line) → line_for k block (after k history) ≡ Some l → l.stale ≡ invalidated_since block history

-- Only the line of an operation's own block is changed: each other line stays as it is, or is dropped.

abbrev pub block_of_operation : Operation → ℕ
block_of_operation (load fill address size) = block_of address
block_of_operation (store fill address size value) = block_of address
block_of_operation (invalidate address) = block_of address

abbrev pub OthersKept : Settings → Type 0
OthersKept k = (op : Operation) (earlier : List Operation) (block : ℕ) → (block_of_operation op ≢ block)
    → (line_for k block (after k (op ∷ earlier)) ≡ None) ⊎ (line_for k block (after k (op ∷ earlier)) ≡ line_for k block (after k earlier))

-- Regions: the region of an access is an aligned stretch of its block, holds the access, and is made of whole granules.
-- It is as large as the access, or as a granule.

pub record RegionHolds (k : Settings) (address size : ℕ) : Type 0 where
  pub inside : region_from k address size + region_size k size ≤ 16
  pub aligned : region_from k address size % region_size k size ≡ 0
  pub begins : region_from k address size ≤ offset_of address
  pub ends : offset_of address + size ≤ region_from k address size + region_size k size
  pub granules : region_size k size % k.granule ≡ 0
  pub least : (region_size k size ≡ size) ⊎ (region_size k size ≡ k.granule)

abbrev pub RegionsHold : Settings → Type 0
RegionsHold k = (address size : ℕ) → is_aligned address size ≡ true → RegionHolds k address size

-- an operation as a cache is given it: the access is aligned, and the fill has a block's 16 bytes
abbrev pub Given : Operation → Type 0
Given (load fill address size) = (length fill ≡ 16) × (is_aligned address size ≡ true)
Given (store fill address size value) = (length fill ≡ 16) × (is_aligned address size ≡ true)
Given (invalidate address) = Unit {0}

-- Bytes: a byte of a line is the one that was stored last since the line was filled, or else the fill's.

-- byte p that a load or store finds, given that of the block's line before it: the line's own if it was there and fresh,
-- else the fill's
abbrev pub found_byte : Settings → ℕ → ℕ → List ℕ → List Operation → ℕ → ℕ
found_byte k block p fill earlier own = if fresh_line (line_for k block (after k earlier)) then own else slice_index fill p

-- byte p of the block's line
abbrev pub byte_since : Settings → ℕ → ℕ → List Operation → ℕ
byte_since k block p [] = 0
byte_since k block p (load fill address size ∷ earlier) =
    if block_of address == block then found_byte k block p fill earlier (byte_since k block p earlier)
    else byte_since k block p earlier
byte_since k block p (store fill address size value ∷ earlier) =
    let covered = nat_le (offset_of address) p && nat_lt p (offset_of address + size) in
    let found = found_byte k block p fill earlier (byte_since k block p earlier) in
    if block_of address == block then (if covered then slice_index (low_bytes size value) (p - offset_of address) else found)
    else byte_since k block p earlier
byte_since k block p (invalidate address ∷ earlier) = byte_since k block p earlier

abbrev pub BytesSince : Settings → Type 0
BytesSince k = (history : List Operation) → AllByRecursion Given history → (block p : ℕ) (l : Line) → p < 16 → line_for k block (after k history) ≡ Some l → slice_index l.bytes p ≡ byte_since k block p history

-- Stores: straight after a store, a load of the same access reads the value, as far as it fits the access.

abbrev pub StoresRead : Settings → Type 0
StoresRead k = (history : List Operation) (fill next : List ℕ) (address size value : ℕ) → AllByRecursion Given (store fill address size value ∷ history)
    → loaded_value k next address size (after k (store fill address size value ∷ history)) ≡ value % 256 ^ size

pub record CacheLaws (k : Settings) : Type 0 where
  pub recency : LatestUses k
  pub bounded : SetsBounded k
  pub flags : FlagsHeld k
  pub known : KnownHeld k
  pub marks : MarksSince k
  pub others : OthersKept k
  pub regions : RegionsHold k
  pub bytes : BytesSince k
  pub stores : StoresRead k
