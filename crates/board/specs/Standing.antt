-- How pieces stand to each other: friends, stronger enemies, frozen and unsupported pieces.
use Rattle.std.specs.Prelude.{◌≡◌, ℕ, ◌⊎◌, Some, None}
use Rattle.bits.specs.Squares.{Next}
use Rattle.board.specs.declared.pieces.Side.{Side}
use Rattle.board.specs.declared.pieces.Piece.{Piece}
use Rattle.board.specs.declared.board.Board.{Board}
use Rattle.board.specs.Pieces.{opponent, Stronger}
use Rattle.board.specs.Cells.{cell}

-- a piece of the side stands next to the square s
pub record FriendNext (b : Board) (s : ℕ) (side : Side) : Type 0 where
  pub place : ℕ
  pub piece : Piece
  pub near : Next s place
  pub there : cell b place ≡ Some piece
  pub friend : piece.side ≡ side

-- an enemy of the piece p, stronger than it, stands next to the square s
pub record StrongerNext (b : Board) (s : ℕ) (p : Piece) : Type 0 where
  pub place : ℕ
  pub piece : Piece
  pub near : Next s place
  pub there : cell b place ≡ Some piece
  pub enemy : piece.side ≡ opponent p.side
  pub stronger : Stronger piece.kind p.kind

-- a stronger enemy of the piece p is next to the square s, and no friend is
abbrev pub Held : Board → ℕ → Piece → Type 0
Held b s p = StrongerNext b s p × (FriendNext b s p.side → ⊥)

-- a piece is frozen when a stronger enemy is next to it and no friend is
pub record Frozen (b : Board) (s : ℕ) : Type 0 where
  pub piece : Piece
  pub there : cell b s ≡ Some piece
  pub threat : StrongerNext b s piece
  pub alone : FriendNext b s piece.side → ⊥

-- a piece of the side stands on the square s with no friend next to it
pub record Lone (b : Board) (side : Side) (s : ℕ) : Type 0 where
  pub piece : Piece
  pub there : cell b s ≡ Some piece
  pub mine : piece.side ≡ side
  pub alone : FriendNext b s side → ⊥

-- the traps: c3, f3, c6 and f6
abbrev pub Trap : ℕ → Type 0
Trap s = (s ≡ 18) ⊎ (s ≡ 21) ⊎ (s ≡ 42) ⊎ (s ≡ 45)

-- a piece on a trap with no friend next to it is unsupported
pub record Unsupported (b : Board) (s : ℕ) : Type 0 where
  pub trap : Trap s
  pub piece : Piece
  pub there : cell b s ≡ Some piece
  pub alone : FriendNext b s piece.side → ⊥

-- no piece is unsupported
abbrev pub Supported : Board → Type 0
Supported b = (s : ℕ) → Unsupported b s → ⊥

-- every unsupported piece is gone, and every other square has what it had
pub record Settled (old new : Board) : Type 0 where
  pub gone : (s : ℕ) → Unsupported old s → cell new s ≡ None
  pub kept : (s : ℕ) → (Unsupported old s → ⊥) → cell new s ≡ cell old s
