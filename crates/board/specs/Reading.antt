-- Boards and setups written as letters, and when they are refused.
use Rattle.std.specs.Prelude.{◌≡◌, ℕ, ◌+◌, ◌<◌, ◌≤◌, ◌≢◌, ◌⊎◌, List, [], ◌∷◌, length, map, Some, None, Ok, Option, Result, slice_index}
use Rattle.std.specs.List.{range_with_len}
use Rattle.board.specs.declared.pieces.Side.{Side}
use Rattle.board.specs.declared.pieces.Side.TheVariants.{Gold, Silver}
use Rattle.board.specs.declared.pieces.Kind.{Kind}
use Rattle.board.specs.declared.pieces.Piece.{Piece}
use Rattle.board.specs.declared.board.Board.{Board}
use Rattle.board.specs.declared.refusal.Refusal.{Refusal}
use Rattle.board.specs.Pieces.{full}
use Rattle.board.specs.Letters.{letter_by, spelled}
use Rattle.board.specs.Cells.{cell}
use Rattle.board.specs.Standing.{Unsupported}
use Rattle.board.specs.Counts.{count_of}
use Rattle.board.specs.Refusals.{Check}

-- the board has what 64 letters say, in the order of the squares
abbrev pub Shows : List ℕ → Board → Type 0
Shows letters b = (s : ℕ) → s < 64 → slice_index letters s ≡ spelled (cell b s)

-- the letters of the board's squares, in the order of their numbers
abbrev pub letters_of : Board → List ℕ
letters_of b = map (λ s. spelled (cell b s)) (range_with_len 0 64)

-- the board has what the letters are read as on the squares from the first on, and nothing else
pub record LaidOut (Reads : ℕ → Result (Option Piece) Refusal → Type 0) (first : ℕ) (letters : List ℕ) (b : Board) : Type 0 where
  pub placed : (k : ℕ) → k < length letters → Reads (slice_index letters k) (Ok (cell b (first + k)))
  pub bare : (s : ℕ) → (s < first) ⊎ (first + length letters ≤ s) → cell b s ≡ None

-- a board is read from letters
abbrev pub board_checks : List ℕ → List Check
board_checks letters =
    -- not 64 letters
    (6, length letters ≢ 64) ∷
    -- a byte that is no letter of a square
    (8, (k : ℕ) × (k < length letters) × ((c : Option Piece) → slice_index letters k ≢ spelled c)) ∷
    []

-- a position is read from letters and a side number
abbrev pub position_checks : List ℕ → ℕ → List Check
position_checks letters side =
    -- not 64 letters
    (6, length letters ≢ 64) ∷
    -- a side number that is neither 0 nor 1
    (7, 1 < side) ∷
    -- a byte that is no letter of a square
    (8, (k : ℕ) × (k < length letters) × ((c : Option Piece) → slice_index letters k ≢ spelled c)) ∷
    -- more of a kind than the full set
    (9, (b : Board) × Shows letters b × (side : Side) × (kind : Kind) × (full kind < count_of b side kind)) ∷
    -- an unsupported piece
    (10, (b : Board) × Shows letters b × (s : ℕ) × Unsupported b s) ∷
    []

-- the first square of a side's two rows: rows 1 and 2 for Gold, 7 and 8 for Silver
abbrev pub home : Side → ℕ
home Gold = 0
home Silver = 48

-- the letter k of a setup is one of the side's, and its piece stands on the square k of the side's two rows
abbrev pub Placed : Side → List ℕ → Board → ℕ → Type 0
Placed side letters b k =
    (kind : Kind) × (slice_index letters k ≡ letter_by side kind) × (cell b (home side + k) ≡ Some (record { side = side; kind = kind }))

-- the board has what 16 letters say on the side's two rows, and nothing else
pub record SetsUp (side : Side) (letters : List ℕ) (b : Board) : Type 0 where
  pub placed : (k : ℕ) → k < 16 → Placed side letters b k
  pub bare : (s : ℕ) → (s < home side) ⊎ (home side + 16 ≤ s) → cell b s ≡ None

-- a setup is read from letters for a side
abbrev pub setup_checks : Side → List ℕ → List Check
setup_checks side letters =
    -- not 16 letters
    (6, length letters ≢ 16) ∷
    -- a byte that is no letter of the side
    (8, (k : ℕ) × (k < length letters) × ((kind : Kind) → slice_index letters k ≢ letter_by side kind)) ∷
    -- not the full set
    (9, (b : Board) × SetsUp side letters b × (kind : Kind) × (count_of b side kind ≢ full kind)) ∷
    []
