-- What four planes must keep to be a board.
use Rattle.std.specs.Prelude.{ℕ, ◌+◌, ◌*◌, ◌≤◌}
use Rattle.bits.specs.declared.plane.Plane.{Plane}
use Rattle.bits.specs.Planes.{on}

-- the strength that the planes give a square
abbrev pub strength_on : Plane → Plane → Plane → ℕ → ℕ
strength_on ones twos fours s = on ones s + 2 * on twos s + 4 * on fours s

-- no strength is above an elephant's, and Gold's squares are occupied
abbrev pub Fitting : Plane → Plane → Plane → Plane → Type 0
Fitting gold ones twos fours = (s : ℕ) → (strength_on ones twos fours s ≤ 6) × (on gold s ≤ strength_on ones twos fours s)
