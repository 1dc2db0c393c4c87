-- What a code asks of a board.
use Rattle.std.specs.Prelude.{◌≡◌, ℕ, Some, None}
use Rattle.board.specs.declared.board.Board.{Board}
use Rattle.board.specs.Cells.{cell}
use Rattle.rules.specs.declared.half_turn.checks.Asked.{Asked}
use Rattle.rules.specs.Codes.{square, Goes}

-- the piece on the code's square may step to the empty square that the code goes to
pub record AsksFor (b : Board) (c : ℕ) (a : Asked) : Type 0 where
  pub stands : a.from.number ≡ square c
  pub goes : Goes c a.to.number
  pub there : cell b (square c) ≡ Some a.piece
  pub empty : cell b a.to.number ≡ None
