-- Where a code's step goes.
use Rattle.std.proofs.Common.{◌≡◌, ℕ, ◌≢◌, arith}
use Rattle.bits.specs.declared.direction.Direction.{Direction}
use Rattle.bits.specs.declared.direction.Direction.TheVariants.{North, East, South, West}
use Rattle.bits.specs.Squares.{Toward, Next}
use Rattle.bits.proofs.Compass.{toward_next}
use Rattle.rules.specs.Codes.{square, direction, Goes}

-- one square from s in a direction lies one
pub toward_one : (d : Direction) (s t u : ℕ) → Toward d s t → Toward d s u → t ≡ u
toward_one North s t u g h = omega arith
toward_one East s t u g h = omega arith
toward_one South s t u g h = omega arith
toward_one West s t u g h = omega arith

-- to one square
pub goes_one : {c t u : ℕ} → Goes c t → Goes c u → t ≡ u
goes_one {c} {t} {u} g h = toward_one (direction c) (square c) t u g.toward h.toward

-- next to the square that it left
pub goes_next : {c t : ℕ} → Goes c t → Next t (square c)
goes_next {c} {t} g = toward_next (direction c) (square c) t g.toward

-- and so not back to it
pub goes_away : {c t : ℕ} → Goes c t → square c ≢ t
goes_away g e = let n = goes_next g in omega arith
