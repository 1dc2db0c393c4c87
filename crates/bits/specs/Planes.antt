-- Planes as sets of squares.
use Rattle.std.specs.Prelude.{◌≡◌, ◌≢◌, ℕ, List}
use Rattle.bits.specs.declared.plane.Plane.{Plane}
use Rattle.bits.specs.Digits.{digit, chosen}

-- 1 where the square s is in the plane, else 0
abbrev pub on : Plane → ℕ → ℕ
on p s = digit p.word s

-- the square s is 1 or 0 in the new plane, as said, and every other square is as it was
pub record Changed (old new : Plane) (s v : ℕ) : Type 0 where
  pub here : on new s ≡ v
  pub others : (k : ℕ) → k ≢ s → on new k ≡ on old k

-- the squares of the plane are those that a property holds of
abbrev pub SquaresWhere : Plane → (ℕ → Type 0) → Type 0
SquaresWhere p P = (s : ℕ) → (on p s ≡ 1 → P s) × (P s → on p s ≡ 1)

-- the squares of the plane in ascending order
abbrev pub squares : Plane → List ℕ
squares p = chosen (on p) 0 64
