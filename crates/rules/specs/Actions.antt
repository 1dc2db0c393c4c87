-- Plain steps, pushes and pulls, and the turns that they make up.
use Rattle.std.specs.Prelude.{◌≡◌, ℕ, ◌≤◌, List, [], ◌∷◌, ◌++◌, length, ◌≢◌}
use Rattle.bits.specs.Squares.{Next}
use Rattle.board.specs.declared.pieces.Side.{Side}
use Rattle.board.specs.declared.pieces.Piece.{Piece}
use Rattle.board.specs.declared.pieces.Kind.{Kind}
use Rattle.board.specs.declared.pieces.Kind.TheVariants.{Rabbit}
use Rattle.board.specs.declared.board.Board.{Board}
use Rattle.board.specs.Pieces.{Stronger}
use Rattle.board.specs.Standing.{Frozen}
use Rattle.rules.specs.Codes.{square, direction, Goes, back}
use Rattle.rules.specs.Steps.{Own, Enemy, Step}

-- a plain step: an own piece that isn't frozen steps, a rabbit not backward
pub record Plain (side : Side) (b : Board) (c : ℕ) (b' : Board) : Type 0 where
  pub piece : Piece
  pub own : Own side b (square c) piece
  pub free : Frozen b (square c) → ⊥
  pub ahead : piece.kind ≡ Rabbit → direction c ≢ back side
  pub step : Step b c b'

-- an own piece on the square s is stronger than the kind and isn't frozen
pub record CanPush (side : Side) (b : Board) (s : ℕ) (k : Kind) : Type 0 where
  pub piece : Piece
  pub own : Own side b s piece
  pub free : Frozen b s → ⊥
  pub stronger : Stronger piece.kind k

-- such a piece stands next to the square s
pub record Pusher (side : Side) (b : Board) (s : ℕ) (k : Kind) : Type 0 where
  pub place : ℕ
  pub near : Next s place
  pub able : CanPush side b place k

-- what begins a push: an enemy piece steps while an own stronger piece that isn't frozen is next to it
pub record BeginsPush (side : Side) (b : Board) (c : ℕ) : Type 0 where
  pub piece : Piece
  pub enemy : Enemy side b (square c) piece
  pub pusher : Pusher side b (square c) piece.kind

-- what finishes a push of a piece of the kind k from the square s: an own stronger piece steps into s
pub record FinishesPush (side : Side) (s : ℕ) (k : Kind) (b : Board) (c : ℕ) : Type 0 where
  pub piece : Piece
  pub own : Own side b (square c) piece
  pub stronger : Stronger piece.kind k
  pub into : Goes c s

-- what ends a pull by a piece of the kind k from the square s: a weaker enemy piece steps into s.
-- Whether the puller still stands is not asked: one that its own step removed completes the pull.
pub record EndsPull (side : Side) (s : ℕ) (k : Kind) (b : Board) (c : ℕ) : Type 0 where
  pub piece : Piece
  pub enemy : Enemy side b (square c) piece
  pub weaker : Stronger k piece.kind
  pub into : Goes c s

-- a push: an enemy piece steps, and an own piece that isn't frozen then follows into the square it left
pub record Push (side : Side) (b : Board) (c d : ℕ) (b'' : Board) : Type 0 where
  pub between : Board
  pub begins : BeginsPush side b c
  pub first : Step b c between
  pub finishes : FinishesPush side (square c) begins.piece.kind between d
  pub free : Frozen between (square d) → ⊥
  pub second : Step between d b''

-- a pull: an own piece makes a plain step, and an enemy piece is drawn into the square it left
pub record Pull (side : Side) (b : Board) (c d : ℕ) (b'' : Board) : Type 0 where
  pub between : Board
  pub plain : Plain side b c between
  pub ends : EndsPull side (square c) plain.piece.kind between d
  pub second : Step between d b''

-- an action is a plain step, a push or a pull, whole
pub data Action (side : Side) (b : Board) : List ℕ → Board → Type 0 where
  plain : {c : ℕ} {b' : Board} → Plain side b c b' → Action side b (c ∷ []) b'
  push : {c d : ℕ} {b' : Board} → Push side b c d b' → Action side b (c ∷ d ∷ []) b'
  pull : {c d : ℕ} {b' : Board} → Pull side b c d b' → Action side b (c ∷ d ∷ []) b'

-- actions, each on the board where the last one ended, read their codes one after another
pub data Reading (side : Side) : Board → List ℕ → Board → Type 0 where
  done : {b : Board} → Reading side b [] b
  act : {b b' b'' : Board} {cs ds : List ℕ} → Action side b cs b' → Reading side b' ds b'' → Reading side b (cs ++ ds) b''

-- a turn: one to four codes that have a reading
pub record Turn (side : Side) (b : Board) (cs : List ℕ) (b' : Board) : Type 0 where
  pub some : 1 ≤ length cs
  pub few : length cs ≤ 4
  pub reading : Reading side b cs b'
