-- A program that is a list of accesses. Its state: the place in the list, the value loaded last, and four numbers
-- for each access.
use Rattle.std.specs.Prelude.{◌≡◌, ℕ, ◌+◌, ◌*◌, min, List, [], ◌∷◌, map, length, drop, ◌==◌, if◌then◌else◌, slice_index, slice_index_or, slice_set}
use Rattle.std.specs.List.{flat_map}
use Rattle.rules.specs.Program.{Behaviour, ran}
use Rattle.rules.specs.declared.program.Want.TheVariants.{Ended}
use Rattle.programs.specs.declared.list.AccessList.{AccessList}
use Rattle.programs.specs.declared.list.ListedAccess.{ListedAccess}
use Rattle.programs.specs.ListedAccess.{numbers_of, want_of, loads_or_stores}

abbrev pub list_state : ℕ → ℕ → List ListedAccess → List ℕ
list_state place last accesses = place ∷ last ∷ flat_map numbers_of accesses

abbrev pub state_of : AccessList → List ℕ
state_of p = list_state p.place p.last p.accesses.items

-- one number of the access at the place, and 0 past the last access
abbrev pub number_of : List ℕ → ℕ → ℕ
number_of s i = slice_index (drop 2 s) (4 * slice_index s 0 + i)

abbrev pub access_at : List ℕ → ListedAccess
access_at s = record {
  kind = number_of s 0;
  address = number_of s 1;
  size = number_of s 2;
  value = number_of s 3;
}

-- one place on, with the value loaded last
abbrev pub moved_on : ℕ → List ℕ → List ℕ
moved_on last s = slice_set (slice_set s 0 (slice_index s 0 + 1)) 1 last

abbrev pub list_next : List ℕ → ℕ → List ℕ
list_next s v =
    if number_of s 0 == 1 then moved_on v s
    else (if number_of s 0 == 2 then moved_on (slice_index s 1) s else s)

abbrev pub list_behaviour : Behaviour
list_behaviour = record { want = λ s. want_of (access_at s); next = list_next }

-- the accesses up to the first that is neither a load nor a store
abbrev pub front : List ListedAccess → List ListedAccess
front [] = []
front (a ∷ accesses) = if loads_or_stores a then a ∷ front accesses else []

-- A list wants these accesses one after the other, whatever the values, and is then ended.
abbrev pub WantsInOrder : List ListedAccess → Type 0
WantsInOrder accesses = (values : List ℕ) → list_behaviour.want (ran list_behaviour (list_state 0 0 accesses) values) ≡ slice_index_or (map want_of (front accesses)) (length values) Ended

-- the value given at the latest load, where the accesses are given one value each
abbrev pub last_loaded : ℕ → List ListedAccess → List ℕ → ℕ
last_loaded last [] values = last
last_loaded last (a ∷ accesses) [] = last
last_loaded last (a ∷ accesses) (v ∷ vs) = last_loaded (if a.kind == 1 then v else last) accesses vs

-- Its state then: one place on for each value, up to the end; the value given at the latest load, and 0 before any; the same accesses.
abbrev pub MovesOn : List ListedAccess → Type 0
MovesOn accesses = (values : List ℕ) → ran list_behaviour (list_state 0 0 accesses) values ≡ list_state (min (length values) (length (front accesses))) (last_loaded 0 (front accesses) values) accesses

pub record ListRuns (accesses : List ListedAccess) : Type 0 where
  pub wants : WantsInOrder accesses
  pub moves : MovesOn accesses
