-- Numbers as they are written.
use Rattle.std.specs.Prelude.{◌≡◌, ℕ, ◌+◌, ◌-◌, ◌*◌, ◌≤◌, List, [], ◌∷◌, length}

-- a byte from 0 to 9
abbrev pub Digit : ℕ → Type 0
Digit c = (48 ≤ c) × (c ≤ 57)

-- decimal digits after the number v make it n
abbrev pub Spells : ℕ → List ℕ → ℕ → Type 0
Spells v [] n = v ≡ n
Spells v (c ∷ cs) n = Digit c × Spells (v * 10 + (c - 48)) cs n

-- one to three decimal digits spell the number, which is at most 255
pub record Numeral (text : List ℕ) (n : ℕ) : Type 0 where
  pub some : 1 ≤ length text
  pub few : length text ≤ 3
  pub spells : Spells 0 text n
  pub byte : n ≤ 255

-- each text spells the number in its place
abbrev pub Numerals : List (List ℕ) → List ℕ → Type 0
Numerals [] [] = Unit {0}
Numerals [] (n ∷ ns) = ⊥
Numerals (t ∷ ts) [] = ⊥
Numerals (t ∷ ts) (n ∷ ns) = Numeral t n × Numerals ts ns
