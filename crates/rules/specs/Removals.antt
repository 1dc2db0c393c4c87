-- The piece that a step removes.
use Rattle.std.specs.Prelude.{◌≡◌, ℕ, Some, None, Option}
use Rattle.bits.specs.declared.square.Square.{Square}
use Rattle.board.specs.declared.pieces.Piece.{Piece}
use Rattle.board.specs.declared.board.Board.{Board}
use Rattle.board.specs.Cells.{cell}
use Rattle.board.specs.Standing.{Unsupported, Supported}
use Rattle.rules.specs.Steps.{Step, Removes}

-- what is told of the board after the move: no piece is unsupported, or the piece on that square is
abbrev pub Tells : Board → Option (Square × Piece) → Type 0
Tells moved None = Supported moved
Tells moved (Some x) = Unsupported moved x.0.number × (cell moved x.0.number ≡ Some x.1)

-- the code's step removes at most one piece
abbrev pub RemovesOneAtMost : Board → ℕ → Type 0
RemovesOneAtMost b c = (b' : Board) (t : Step b c b') (s k : ℕ) → Removes t s → Removes t k → s ≡ k
