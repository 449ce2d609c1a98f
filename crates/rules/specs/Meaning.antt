-- What a count code means, and the laws that it owes.
use Rattle.std.specs.Prelude.{◌≡◌, ℕ, ◌<◌, ◌≤◌, Bool, List, ◌++◌, length, take}
use Rattle.std.specs.List.{AllByRecursion}

-- a list of bits is read as a number, with how many bits that took, or is cut, or is bad
pub data Reading : Type 0 where
  number : ℕ → ℕ → Reading
  cut : Reading
  bad : Reading

pub record Meaning : Type 0 where
  pub top : ℕ
  pub name : List ℕ
  pub bits : ℕ → List Bool
  pub reading : List Bool → Reading

-- bs begins with the bits of n, a number of the code, and they are `used` bits
pub record Begins (m : Meaning) (bs : List Bool) (n used : ℕ) : Type 0 where
  pub in_range : n ≤ m.top
  pub length_is : used ≡ length (m.bits n)
  pub rest : List Bool
  pub split : bs ≡ m.bits n ++ rest

pub record Sound (m : Meaning) : Type 0 where
  pub least : 1 ≤ m.top
  pub most : m.top ≤ 4294967295
  pub three : length m.name ≡ 3
  pub bytes : AllByRecursion (λ b. b < 256) m.name
  pub short : (n : ℕ) → n ≤ m.top → length (m.bits n) ≤ 64
  -- the bits of a number, followed by anything, are read as that number, and no further bit is used
  pub whole : (n : ℕ) → n ≤ m.top → (rest : List Bool) → m.reading (m.bits n ++ rest) ≡ number n (length (m.bits n))
  -- a shorter beginning of them is cut
  pub cuts : (n : ℕ) → n ≤ m.top → (k : ℕ) → k < length (m.bits n) → m.reading (take k (m.bits n)) ≡ cut
  -- what is read as a number begins with the bits of that number
  pub begins : (bs : List Bool) (n used : ℕ) → m.reading bs ≡ number n used → Begins m bs n used
