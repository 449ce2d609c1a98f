-- A word that is seen as its bits: they give it back, and how many they are.
use Rattle.std.specs.Prelude.{◌≡◌, ℕ, ◌^◌, ◌<◌, length}
use Rattle.std.proofs.Common.{◌∙◌, mod-eq_of_lt}
use Rattle.rules.specs.Bits.{low_bits, value_of}
use Rattle.rules.proofs.Bits.{length-low_bits, value_of-low_bits}

pub word_back : (size word : ℕ) → word < 2 ^ size → value_of (low_bits size word) ≡ word
word_back size word below = value_of-low_bits size word ∙ mod-eq_of_lt below

pub size_back : (size word : ℕ) → length (low_bits size word) ≡ size
size_back = length-low_bits
