-- What one step makes of a board.
use Rattle.std.specs.Prelude.{◌≡◌, ℕ, Some, None}
use Rattle.board.specs.declared.pieces.Side.{Side}
use Rattle.board.specs.declared.pieces.Piece.{Piece}
use Rattle.board.specs.declared.board.Board.{Board}
use Rattle.board.specs.Pieces.{opponent}
use Rattle.board.specs.Cells.{cell, Moved}
use Rattle.board.specs.Standing.{Unsupported, Settled}
use Rattle.rules.specs.Codes.{square, Goes}

-- the side's own piece p stands on the square s
pub record Own (side : Side) (b : Board) (s : ℕ) (p : Piece) : Type 0 where
  pub there : cell b s ≡ Some p
  pub mine : p.side ≡ side

-- the enemy's piece p stands on the square s
pub record Enemy (side : Side) (b : Board) (s : ℕ) (p : Piece) : Type 0 where
  pub there : cell b s ≡ Some p
  pub theirs : p.side ≡ opponent side

-- the piece on the code's square goes to the empty square next to it; then the unsupported pieces are removed
pub record Step (b : Board) (c : ℕ) (b' : Board) : Type 0 where
  pub target : ℕ
  pub goes : Goes c target
  pub piece : Piece
  pub there : cell b (square c) ≡ Some piece
  pub empty : cell b target ≡ None
  pub moved : Board
  pub moves : Moved b (square c) target moved
  pub settles : Settled moved b'

-- the step removes the piece that stands on s after the move
abbrev pub Removes : {b : Board} {c : ℕ} {b' : Board} → Step b c b' → ℕ → Type 0
Removes t s = Unsupported t.moved s
