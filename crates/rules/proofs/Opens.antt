-- What is open when a step ends a pull or finishes a push.
use Rattle.std.proofs.Common.{ℕ}
use Rattle.board.specs.declared.pieces.Side.{Side}
use Rattle.board.specs.declared.pieces.Piece.{Piece}
use Rattle.board.specs.declared.board.Board.{Board}
use Rattle.rules.specs.Codes.{square}
use Rattle.rules.specs.Steps.{Own}
use Rattle.rules.specs.HalfTurns.{Open, NoPush, Ends, Finishes}
use Rattle.rules.specs.HalfTurns.Open.{nothing, pull_possible, push_open}
use Rattle.rules.proofs.Pieces.{not_both}

module _ (side : Side) (b : Board) (c : ℕ) where
  -- no own step ends a pull
  pub own_ends_none : {p : Piece} (o : Open) → Own side b (square c) p → Ends side o b c → ⊥
  own_ends_none nothing w e = e
  own_ends_none (pull_possible s k) w e = not_both w e.enemy
  own_ends_none (push_open s k) w e = e

  -- no pull is ended while a push is open
  pub ends_closed : (o : Open) → Ends side o b c → NoPush o
  ends_closed nothing e = tt
  ends_closed (pull_possible s k) e = tt
  ends_closed (push_open s k) e = e

  -- only an open push is finished
  pub finishes_open : (o : Open) → Finishes side o b c → NoPush o → ⊥
  finishes_open nothing f h = f
  finishes_open (pull_possible s k) f h = f
  finishes_open (push_open s k) f h = h
