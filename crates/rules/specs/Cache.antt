-- The first-access cache: a list of sets, each a list of lines, latest use first.
use Rattle.std.specs.Prelude.{ℕ, suc, ◌+◌, ◌-◌, ◌*◌, ◌/◌, ◌%◌, max, Bool, true, false, not, ◌&&◌, ◌||◌, List, [], ◌∷◌, take, replicate, Some, None, Option, ◌==◌, if◌then◌else◌, nat_le, slice_index_or, slice_set}
use Rattle.rules.specs.Bytes.{low_bytes, number_of, stretch}
use Rattle.rules.specs.Overlay.{overlay}
use Rattle.rules.specs.declared.cache.Line.{Line}
use Rattle.rules.specs.declared.cache.Settings.{Settings}

abbrev pub one_of : List ℕ → ℕ → Bool
one_of [] n = false
one_of (m ∷ ms) n = n == m || one_of ms n

-- a size of an access, or of a granule
abbrev pub is_size : ℕ → Bool
is_size = one_of (1 ∷ 2 ∷ 4 ∷ 8 ∷ [])

abbrev pub are_settings : Settings → Bool
are_settings k = one_of (1 ∷ 2 ∷ 4 ∷ 8 ∷ 16 ∷ []) k.sets && (one_of (1 ∷ 2 ∷ 4 ∷ []) k.ways && is_size k.granule)

-- a size that an access may have, at a multiple of it
abbrev pub is_aligned : ℕ → ℕ → Bool
is_aligned address size = is_size size && address % size == 0

-- a proper access is aligned and ends within memory
abbrev pub is_proper : ℕ → ℕ → ℕ → Bool
is_proper memory address size = is_aligned address size && nat_le (address + size) memory

abbrev pub block_of : ℕ → ℕ
block_of address = address / 16

-- where in its block an address lies
abbrev pub offset_of : ℕ → ℕ
offset_of address = address % 16

-- The region of an access: the aligned stretch of max(size, granule) bytes of its block that holds it.
abbrev pub region_size : Settings → ℕ → ℕ
region_size k size = max size k.granule

abbrev pub region_from : Settings → ℕ → ℕ → ℕ
region_from k address size = offset_of address / region_size k size * region_size k size

-- Flags

-- the granule q lies whole in the stretch
abbrev pub within : ℕ → ℕ → ℕ → ℕ → Bool
within granule from size q = nat_le from (q * granule) && nat_le (suc q * granule) (from + size)

-- the flags from granule q on, with those set whose granules lie whole in the stretch
abbrev pub flagged : ℕ → ℕ → ℕ → ℕ → List Bool → List Bool
flagged granule from size q [] = []
flagged granule from size q (f ∷ fs) = (f || within granule from size q) ∷ flagged granule from size (suc q) fs

-- every granule, from q on, that lies whole in the stretch has its flag
abbrev pub all_flagged : ℕ → ℕ → ℕ → ℕ → List Bool → Bool
all_flagged granule from size q [] = true
all_flagged granule from size q (f ∷ fs) = (f || not (within granule from size q)) && all_flagged granule from size (suc q) fs

-- One line

abbrev pub new_line : List ℕ → ℕ → Line
new_line fill block = record { block = block; bytes = fill; flags = replicate 16 false; stale = false }

-- a stale line takes the fill's bytes and loses flags and mark
abbrev pub refreshed : List ℕ → Line → Line
refreshed fill l = if l.stale then new_line fill l.block else l

-- a line with its mark, and no flags
abbrev pub staled : Line → Line
staled l = record { block = l.block; bytes = l.bytes; flags = replicate 16 false; stale = true }

-- the granules that lie whole in the stretch are flagged
abbrev pub flagged_line : Settings → ℕ → ℕ → Line → Line
flagged_line k from size l = record { block = l.block; bytes = l.bytes; flags = flagged k.granule from size 0 l.flags; stale = l.stale }

-- bytes are written from a place of the line on
abbrev pub overwritten : ℕ → List ℕ → Line → Line
overwritten from new l = record { block = l.block; bytes = overlay from new l.bytes; flags = l.flags; stale = l.stale }

abbrev pub region_flagged : Settings → ℕ → ℕ → Line → Line
region_flagged k address size = flagged_line k (region_from k address size) (region_size k size)

-- the low bytes of the value are written, and a granule that they cover whole is flagged
abbrev pub stored_in : Settings → ℕ → ℕ → ℕ → Line → Line
stored_in k address size value l = flagged_line k (offset_of address) size (overwritten (offset_of address) (low_bytes size value) l)

abbrev pub read_in : ℕ → ℕ → Line → ℕ
read_in address size l = number_of (stretch (offset_of address) size l.bytes)

-- One set

-- the first element that passes the test
abbrev pub first : {X : Type 0} → (X → Bool) → List X → Option X
first test [] = None
first test (x ∷ xs) = if test x then Some x else first test xs

-- the elements but for the first that passes the test
abbrev pub less : {X : Type 0} → (X → Bool) → List X → List X
less test [] = []
less test (x ∷ xs) = if test x then xs else x ∷ less test xs

abbrev pub holds : ℕ → Line → Bool
holds block l = l.block == block

-- the line that comes forward for a block
abbrev pub forward : List ℕ → ℕ → Option Line → Line
forward fill block None = new_line fill block
forward fill block (Some l) = refreshed fill l

-- the lines behind it: the others, which are at most one fewer than the ways; so a full set that lacked the block drops its last
abbrev pub behind : ℕ → ℕ → List Line → List Line
behind ways block ls = take (ways - 1) (less (holds block) ls)

-- the block's line comes forward and is changed
abbrev pub promoted : Settings → List ℕ → ℕ → (Line → Line) → List Line → List Line
promoted k fill block change ls = change (forward fill block (first (holds block) ls)) ∷ behind k.ways block ls

-- a load is known by the line that its block has before anything moves
abbrev pub known_by : Settings → ℕ → ℕ → Option Line → Bool
known_by k address size None = false
known_by k address size (Some l) = not l.stale && all_flagged k.granule (region_from k address size) (region_size k size) 0 l.flags

abbrev pub known_in : Settings → ℕ → ℕ → List Line → Bool
known_in k address size ls = known_by k address size (first (holds (block_of address)) ls)

-- the block's line turns stale in its place
abbrev pub invalidated_in : ℕ → List Line → List Line
invalidated_in block [] = []
invalidated_in block (l ∷ ls) = if holds block l then staled l ∷ ls else l ∷ invalidated_in block ls

-- The cache

abbrev pub empty_cache : Settings → List (List Line)
empty_cache k = replicate k.sets []

abbrev pub set_for : Settings → ℕ → List (List Line) → List Line
set_for k block cache = slice_index_or cache (block % k.sets) []

-- the block's set is changed
abbrev pub on_set : Settings → ℕ → (List Line → List Line) → List (List Line) → List (List Line)
on_set k block change cache = slice_set cache (block % k.sets) (change (set_for k block cache))

abbrev pub is_load_known : Settings → ℕ → ℕ → List (List Line) → Bool
is_load_known k address size cache = known_in k address size (set_for k (block_of address) cache)

-- a load that isn't known flags its region
abbrev pub loaded_in : Settings → List ℕ → ℕ → ℕ → List Line → List Line
loaded_in k fill address size ls = promoted k fill (block_of address) (if known_in k address size ls then (λ l. l) else region_flagged k address size) ls

-- what a load reads from the line that comes forward
abbrev pub loaded_value : Settings → List ℕ → ℕ → ℕ → List (List Line) → ℕ
loaded_value k fill address size cache = read_in address size (forward fill (block_of address) (first (holds (block_of address)) (set_for k (block_of address) cache)))

-- What is done to a cache. The fill is what the access's line takes if its block is absent or stale.
pub data Operation : Type 0 where
  load : (fill : List ℕ) (address size : ℕ) → Operation
  store : (fill : List ℕ) (address size value : ℕ) → Operation
  invalidate : (address : ℕ) → Operation

abbrev pub applied : Settings → Operation → List (List Line) → List (List Line)
applied k (load fill address size) = on_set k (block_of address) (loaded_in k fill address size)
applied k (store fill address size value) = on_set k (block_of address) (promoted k fill (block_of address) (stored_in k address size value))
applied k (invalidate address) = on_set k (block_of address) (invalidated_in (block_of address))
