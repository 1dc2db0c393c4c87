-- What stands on each square of a board.
use Rattle.std.specs.Prelude.{◌≡◌, ℕ, zero, suc, ◌+◌, ◌*◌, ◌<◌, ◌≤◌, ◌≢◌, List, [], ◌∷◌, Some, None, Option, Bool, cond, ◌==◌}
use Rattle.std.specs.Ordering.{eq_of_both, on as by}
use Rattle.bits.specs.Planes.{on}
use Rattle.board.specs.declared.pieces.Side.{Side}
use Rattle.board.specs.declared.pieces.Side.TheVariants.{Gold, Silver}
use Rattle.board.specs.declared.pieces.Kind.{Kind}
use Rattle.board.specs.declared.pieces.Kind.TheVariants.{Elephant, Camel, Horse, Dog, Cat, Rabbit}
use Rattle.board.specs.declared.pieces.Piece.{Piece}
use Rattle.board.specs.declared.board.Board.{Board}

abbrev pub side_of : ℕ → Side
side_of zero = Silver
side_of (suc g) = Gold

abbrev pub holding : ℕ → Kind → Option Piece
holding g k = Some (record { side = side_of g; kind = k })

-- what a square holds, by its digits in the planes of Gold, of the fours, of the twos and of the ones
abbrev pub decode : ℕ → ℕ → ℕ → ℕ → Option Piece
decode g zero zero zero = None
decode g zero zero (suc c) = holding g Rabbit
decode g zero (suc b) zero = holding g Cat
decode g zero (suc b) (suc c) = holding g Dog
decode g (suc a) zero zero = holding g Horse
decode g (suc a) zero (suc c) = holding g Camel
decode g (suc a) (suc b) c = holding g Elephant

-- 1 where a digit is set, else 0
abbrev pub bit : Bool → ℕ
bit b = cond b 1 0

-- the digits of Gold, of the ones, of the twos and of the fours are those of a square that holds c
pub record Spells (gold one two four : Bool) (c : Option Piece) : Type 0 where
  pub decodes : decode (bit gold) (bit four) (bit two) (bit one) ≡ c
  pub strength : bit one + 2 * bit two + 4 * bit four ≤ 6
  pub occupied : bit gold ≤ bit one + 2 * bit two + 4 * bit four

-- what stands on the square s
abbrev pub cell : Board → ℕ → Option Piece
cell b s = decode (on b.gold s) (on b.fours s) (on b.twos s) (on b.ones s)

-- the words of the planes of Gold, of the ones, of the twos and of the fours
abbrev pub words_of : Board → List ℕ
words_of b = b.gold.word ∷ b.ones.word ∷ b.twos.word ∷ b.fours.word ∷ []

-- the four planes of the boards are the same
abbrev pub same_planes : Board → Board → Bool
same_planes =
    eq_of_both (eq_of_both (eq_of_both (by (λ b. b.gold.word) ◌==◌) (by (λ b. b.ones.word) ◌==◌)) (by (λ b. b.twos.word) ◌==◌))
    (by (λ b. b.fours.word) ◌==◌)

-- the two boards have the same on each of the 64 squares
abbrev pub SameSquares : Board → Board → Type 0
SameSquares b d = (s : ℕ) → s < 64 → cell b s ≡ cell d s

-- the square s has c, and every other square has what it had
pub record Changed (old new : Board) (s : ℕ) (c : Option Piece) : Type 0 where
  pub here : cell new s ≡ c
  pub others : (k : ℕ) → k ≢ s → cell new k ≡ cell old k

-- the piece of s has gone to t, and every other square has what it had
pub record Moved (old : Board) (s t : ℕ) (new : Board) : Type 0 where
  pub left : cell new s ≡ None
  pub reached : cell new t ≡ cell old s
  pub others : (k : ℕ) → k ≢ s → k ≢ t → cell new k ≡ cell old k
