-- The words of a line.
use Rattle.std.specs.Prelude.{ℕ, ◌+◌, ◌*◌, ◌/◌, ◌%◌, ◌^◌, List, [], ◌∷◌, bit_xor, slice_index}

-- the byte at i, 0 past the end
abbrev pub byte : List ℕ → ℕ → ℕ
byte t i = slice_index t i

-- the eight bytes from i on, the first the highest
abbrev pub word : List ℕ → ℕ → ℕ
word t i =
    byte t i * 2 ^ 56 + byte t (i + 1) * 2 ^ 48 + byte t (i + 2) * 2 ^ 40 + byte t (i + 3) * 2 ^ 32 + byte t (i + 4) * 2 ^ 24
    + byte t (i + 5) * 2 ^ 16 + byte t (i + 6) * 2 ^ 8 + byte t (i + 7)

-- the first 64 bytes
abbrev pub words_of : List ℕ → List ℕ
words_of t = word t 0 ∷ word t 8 ∷ word t 16 ∷ word t 24 ∷ word t 32 ∷ word t 40 ∷ word t 48 ∷ word t 56 ∷ []

-- a word mixed into what was mixed before
abbrev pub stirred : ℕ → ℕ → ℕ
stirred m w = bit_xor (bit_xor m w * 0x9e37_79b9_7f4a_7c15 % 2 ^ 64) (bit_xor m w * 0x9e37_79b9_7f4a_7c15 % 2 ^ 64 / 2 ^ 32)
