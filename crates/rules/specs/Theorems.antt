-- Whoever has a turn has one that ends on another board.
use Rattle.std.specs.Prelude.{ℕ, List, ◌≢◌}
use Rattle.board.specs.declared.pieces.Side.{Side}
use Rattle.board.specs.declared.board.Board.{Board}
use Rattle.rules.specs.Actions.{Turn}

abbrev pub ChangeIsPossible : Type 0
ChangeIsPossible =
    (side : Side) (b : Board) (cs : List ℕ) (b' : Board) → Turn side b cs b'
    → (ds : List ℕ) × (d : Board) × Turn side b ds d × (d ≢ b)
