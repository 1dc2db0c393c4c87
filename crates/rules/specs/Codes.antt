-- Step codes: 4 * square + direction, the directions north 0, east 1, south 2 and west 3.
use Rattle.std.specs.Prelude.{ℕ, zero, suc, ◌/◌, ◌%◌, ◌<◌}
use Rattle.bits.specs.declared.direction.Direction.{Direction}
use Rattle.bits.specs.declared.direction.Direction.TheVariants.{North, East, South, West}
use Rattle.bits.specs.Squares.{Toward}
use Rattle.board.specs.declared.pieces.Side.{Side}
use Rattle.board.specs.declared.pieces.Side.TheVariants.{Gold, Silver}

abbrev pub compass : ℕ → Direction
compass zero = North
compass (suc zero) = East
compass (suc (suc zero)) = South
compass (suc (suc (suc n))) = West

-- the square that the code's piece stands on
abbrev pub square : ℕ → ℕ
square c = c / 4

-- the direction that it steps in
abbrev pub direction : ℕ → Direction
direction c = compass (c % 4)

-- the code's step goes to the square t; one that leaves the board goes to none
pub record Goes (c t : ℕ) : Type 0 where
  pub inside : t < 64
  pub toward : Toward (direction c) (square c) t

-- backward for the side's rabbits
abbrev pub back : Side → Direction
back Gold = South
back Silver = North
