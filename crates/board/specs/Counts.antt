-- How many pieces of a kind a board has.
use Rattle.std.specs.Prelude.{ℕ, ◌*◌, ◌≤◌, cond, Some, None, Option, ◌==◌, nat_lt}
use Rattle.bits.specs.Digits.{tally}
use Rattle.board.specs.declared.pieces.Side.{Side}
use Rattle.board.specs.declared.pieces.Kind.{Kind}
use Rattle.board.specs.declared.pieces.Piece.{Piece}
use Rattle.board.specs.declared.board.Board.{Board}
use Rattle.board.specs.Pieces.{power, side_number, full}
use Rattle.board.specs.Cells.{cell}
use Rattle.board.specs.Standing.{Supported}

-- 1 where the square holds a piece of the side, else 0
abbrev pub of_side : Option Piece → Side → ℕ
of_side None side = 0
of_side (Some p) side = cond (side_number p.side == side_number side) 1 0

-- the strength of what the square holds, 0 where it is empty
abbrev pub strength_in : Option Piece → ℕ
strength_in None = 0
strength_in (Some p) = power p.kind

-- 1 where the square holds a piece of the kind, else 0
abbrev pub of_kind : Option Piece → Kind → ℕ
of_kind c k = cond (strength_in c == power k) 1 0

-- 1 where it holds a piece stronger than the kind, else 0
abbrev pub above_kind : Option Piece → Kind → ℕ
above_kind c k = cond (nat_lt (power k) (strength_in c)) 1 0

-- 1 where it holds a piece, else 0
abbrev pub occupied_by : Option Piece → ℕ
occupied_by None = 0
occupied_by (Some p) = 1

-- how many pieces of the side and the kind the board has
unfoldable pub count_of : Board → Side → Kind → ℕ
count_of b side kind = tally (λ s. of_side (cell b s) side * of_kind (cell b s) kind) 64

-- at most the full set of each side
abbrev pub WithinFullSet : Board → Type 0
WithinFullSet b = (side : Side) (kind : Kind) → count_of b side kind ≤ full kind

-- the board of a position: at most the full set of each side, and no unsupported piece
pub record Lawful (b : Board) : Type 0 where
  pub within : WithinFullSet b
  pub supported : Supported b
