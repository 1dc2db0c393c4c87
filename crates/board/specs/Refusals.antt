-- The numbers and layers of refusals, and the first check that hits.
use Rattle.std.specs.Prelude.{ℕ, List, [], ◌∷◌, MatchBool, ◌==◌, codes}
use Rattle.board.specs.declared.refusal.Refusal.{Refusal}
use Rattle.board.specs.declared.refusal.Refusal.TheVariants.{
  Form,
  MatchEnded,
  NotDue,
  SetupSquare,
  OtherPiece,
  Length,
  SideNumber,
  Letter,
  FullSet,
  Unsupported,
  HistoryCapacity,
  OffBoard,
  EmptySquare,
  StepsMade,
  Occupied,
  NoPushOrPull,
  Frozen,
  RabbitBackward,
  UnfinishedPush,
  Removal,
  HalfPush,
  Unchanged,
  ThirdTime,
  StoreFull,
  CountFull,
  ShortMemory,
}
use Rattle.board.specs.declared.refusal.Layer.{Layer}
use Rattle.board.specs.declared.refusal.Layer.TheVariants.{Notation, Caller, Store, Rules}

abbrev pub refusal_number : Refusal → ℕ
refusal_number Form = 1
refusal_number MatchEnded = 2
refusal_number NotDue = 3
refusal_number SetupSquare = 4
refusal_number OtherPiece = 5
refusal_number Length = 6
refusal_number SideNumber = 7
refusal_number Letter = 8
refusal_number FullSet = 9
refusal_number Unsupported = 10
refusal_number HistoryCapacity = 11
refusal_number OffBoard = 12
refusal_number EmptySquare = 13
refusal_number StepsMade = 14
refusal_number Occupied = 15
refusal_number NoPushOrPull = 16
refusal_number Frozen = 17
refusal_number RabbitBackward = 18
refusal_number UnfinishedPush = 19
refusal_number Removal = 20
refusal_number HalfPush = 21
refusal_number Unchanged = 22
refusal_number ThirdTime = 23
refusal_number StoreFull = 24
refusal_number CountFull = 25
refusal_number ShortMemory = 26

abbrev pub refusal_layer : Refusal → Layer
refusal_layer Form = Notation
refusal_layer MatchEnded = Notation
refusal_layer NotDue = Notation
refusal_layer SetupSquare = Notation
refusal_layer OtherPiece = Notation
refusal_layer Length = Caller
refusal_layer SideNumber = Caller
refusal_layer Letter = Rules
refusal_layer FullSet = Rules
refusal_layer Unsupported = Rules
refusal_layer HistoryCapacity = Store
refusal_layer OffBoard = Rules
refusal_layer EmptySquare = Rules
refusal_layer StepsMade = Rules
refusal_layer Occupied = Rules
refusal_layer NoPushOrPull = Rules
refusal_layer Frozen = Rules
refusal_layer RabbitBackward = Rules
refusal_layer UnfinishedPush = Rules
refusal_layer Removal = Notation
refusal_layer HalfPush = Notation
refusal_layer Unchanged = Rules
refusal_layer ThirdTime = Rules
refusal_layer StoreFull = Store
refusal_layer CountFull = Store
refusal_layer ShortMemory = Caller

-- what a refusal is printed as
abbrev pub refusal_text : Refusal → List ℕ
refusal_text Form = codes "wrong form"
refusal_text MatchEnded = codes "the match has ended"
refusal_text NotDue = codes "not due"
refusal_text SetupSquare = codes "wrong square of a setup"
refusal_text OtherPiece = codes "another piece"
refusal_text Length = codes "not 64 letters for a position, or not 16 for a setup"
refusal_text SideNumber = codes "the side number is neither 0 nor 1"
refusal_text Letter = codes "a byte is no letter of a square, or in a setup no letter of the side"
refusal_text FullSet = codes "a position has more of a kind than the full set, or a setup is not just the full set"
refusal_text Unsupported = codes "a piece on a trap has no friend next to it"
refusal_text HistoryCapacity = codes "the capacity of the history is reached"
refusal_text OffBoard = codes "the step leaves the board"
refusal_text EmptySquare = codes "the square is empty"
refusal_text StepsMade = codes "too many steps are made"
refusal_text Occupied = codes "the target is occupied"
refusal_text NoPushOrPull = codes "the step is neither a push nor a pull"
refusal_text Frozen = codes "the piece is frozen"
refusal_text RabbitBackward = codes "a rabbit goes backward"
refusal_text UnfinishedPush = codes "a push stays unfinished"
refusal_text Removal = codes "wrong removal"
refusal_text HalfPush = codes "half a push"
refusal_text Unchanged = codes "the position is unchanged"
refusal_text ThirdTime = codes "the position stands a third time"
refusal_text StoreFull = codes "the key is not held, and as many keys are held as the capacity"
refusal_text CountFull = codes "the key's count is 255"
refusal_text ShortMemory = codes "the memory is too short"

-- a check has a number, and says when it hits; the checks of a call stand in order
abbrev pub Check : Type 1
Check = ℕ × Type 0

-- no check hits
abbrev pub NoneHits : List Check → Type 0
NoneHits [] = Unit {0}
NoneHits (c ∷ cs) = (c.1 → ⊥) × NoneHits cs

-- n is the number of the first check that hits
abbrev pub FirstHit : List Check → ℕ → Type 0
FirstHit [] n = ⊥
FirstHit (c ∷ cs) n = MatchBool (c.0 == n) c.1 ((c.1 → ⊥) × FirstHit cs n)
