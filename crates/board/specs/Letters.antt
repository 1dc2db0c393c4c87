-- The letters of pieces and of squares.
use Rattle.std.specs.Prelude.{◌≡◌, ◌≢◌, ℕ, ◌+◌, ◌↔◌, Some, None, Ok, Option, Result, IfErr, MatchResult}
use Rattle.board.specs.declared.pieces.Side.{Side}
use Rattle.board.specs.declared.pieces.Side.TheVariants.{Gold, Silver}
use Rattle.board.specs.declared.pieces.Kind.{Kind}
use Rattle.board.specs.declared.pieces.Kind.TheVariants.{Elephant, Camel, Horse, Dog, Cat, Rabbit}
use Rattle.board.specs.declared.pieces.Piece.{Piece}
use Rattle.board.specs.declared.refusal.Refusal.{Refusal}
use Rattle.board.specs.declared.refusal.Refusal.TheVariants.{Letter}

-- E M H D C R, by their codes
abbrev pub capital : Kind → ℕ
capital Elephant = 69
capital Camel = 77
capital Horse = 72
capital Dog = 68
capital Cat = 67
capital Rabbit = 82

-- Gold's letters are capitals, Silver's the same in lower case
abbrev pub letter_by : Side → Kind → ℕ
letter_by Gold k = capital k
letter_by Silver k = capital k + 32

abbrev pub letter_of : Piece → ℕ
letter_of p = letter_by p.side p.kind

-- a letter is read as the piece that it stands for, and one that stands for none is refused
abbrev pub LetterRead : ℕ → Result Piece Refusal → Type 0
LetterRead letter r = ((p : Piece) → (r ≡ Ok p) ↔ (letter ≡ letter_of p)) × IfErr r (λ e. e ≡ Letter)

-- a square is written as its piece's letter, or as a full stop where it is empty
abbrev pub spelled : Option Piece → ℕ
spelled None = 46
spelled (Some p) = letter_of p

-- a letter is read as what it says of a square, and one that is no letter of a square is refused
abbrev pub SquareRead : ℕ → Result (Option Piece) Refusal → Type 0
SquareRead letter r = MatchResult r (λ c. letter ≡ spelled c) (λ e. (e ≡ Letter) × ((c : Option Piece) → letter ≢ spelled c))

-- a letter is read as the side's piece that it stands for, and one that stands for none of them is refused
abbrev pub OwnRead : Side → ℕ → Result (Option Piece) Refusal → Type 0
OwnRead side letter r =
    MatchResult r (λ c. (kind : Kind) × (letter ≡ letter_by side kind) × (c ≡ Some (record { side = side; kind = kind })))
    (λ e. (e ≡ Letter) × ((kind : Kind) → letter ≢ letter_by side kind))
