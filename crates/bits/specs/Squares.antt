-- Squares by number, 8 * row + column, each from 0, and how they lie to each other.
use Rattle.std.specs.Prelude.{◌≡◌, ℕ, ◌+◌, ◌/◌, ◌%◌, ◌⊎◌}
use Rattle.bits.specs.declared.direction.Direction.{Direction}
use Rattle.bits.specs.declared.direction.Direction.TheVariants.{North, East, South, West}

-- rows 1 to 8 are 0 to 7
abbrev pub row : ℕ → ℕ
row s = s / 8

-- columns a to h are 0 to 7
abbrev pub column : ℕ → ℕ
column s = s % 8

-- one square from s in the direction lies t: north is a row up, east a column up
abbrev pub Toward : Direction → ℕ → ℕ → Type 0
Toward North s t = (row t ≡ row s + 1) × (column t ≡ column s)
Toward East s t = (row t ≡ row s) × (column t ≡ column s + 1)
Toward South s t = (row t + 1 ≡ row s) × (column t ≡ column s)
Toward West s t = (row t ≡ row s) × (column t + 1 ≡ column s)

abbrev pub ApartByOne : ℕ → ℕ → Type 0
ApartByOne a b = (a + 1 ≡ b) ⊎ (b + 1 ≡ a)

-- two squares are next to each other: same row and columns one apart, or same column and rows one apart
abbrev pub Next : ℕ → ℕ → Type 0
Next s k = ((row s ≡ row k) × ApartByOne (column s) (column k)) ⊎ ((column s ≡ column k) × ApartByOne (row s) (row k))
