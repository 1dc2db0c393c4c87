-- What a task is answered, and what a line.
use Rattle.std.specs.Prelude.{◌≡◌, ℕ, List, [], Ok, Err, Result}
use Rattle.position.specs.declared.position.Position.{Position}
use Rattle.board.specs.Pieces.{side_number}
use Rattle.board.specs.Refusals.{refusal_number, NoneHits, FirstHit}
use Rattle.board.specs.Reading.{Shows, position_checks}
use Rattle.rules.specs.declared.playing.Played.TheVariants.{Half as HalfPlayed}
use Rattle.rules.specs.Actions.{Turn as IsTurn}
use Rattle.rules.specs.Played.{Plays}
use Rattle.turn.specs.declared.answer.Outcome.{Outcome}
use Rattle.turn.specs.declared.answer.Outcome.TheVariants.{Start, Turn, Half}
use Rattle.turn.specs.declared.answer.Complaint.{Complaint}
use Rattle.turn.specs.declared.answer.Complaint.TheVariants.{Unreadable, NoBoard, NoStep}
use Rattle.turn.specs.Tasks.{Says}

-- the letters and the side number are those of the position
pub record Shown (letters : List ℕ) (side : ℕ) (p : Position) : Type 0 where
  pub taken : NoneHits (position_checks letters side)
  pub shows : Shows letters p.board
  pub moves : side_number p.side ≡ side

-- what a task is answered: the board, where there are no codes; the end of the turn that they are; the board with a push
-- half done; the first check that hits the board; or the place of the first code that is refused, and its first check that hits
abbrev pub Judged : List ℕ → ℕ → List ℕ → Result Outcome Complaint → Type 0
Judged letters side codes (Ok (Start b)) = (p : Position) × Shown letters side p × (codes ≡ []) × (b ≡ p.board)
Judged letters side codes (Ok (Turn b)) = (p : Position) × Shown letters side p × IsTurn p.side p.board codes b
Judged letters side codes (Ok (Half b)) = (p : Position) × Shown letters side p × Plays p.side p.board codes (Ok (HalfPlayed b))
Judged letters side codes (Err (NoBoard why)) = FirstHit (position_checks letters side) (refusal_number why)
Judged letters side codes (Err (NoStep refused)) = (p : Position) × Shown letters side p × Plays p.side p.board codes (Err refused)
Judged letters side codes (Err Unreadable) = ⊥

-- a line that says no task is unreadable, and any other is answered as its task
pub data Answered (line : List ℕ) : Result Outcome Complaint → Type 0 where
  unread : ((letters codes : List ℕ) (side : ℕ) → Says line letters side codes → ⊥) → Answered line (Err Unreadable)
  told : {letters codes : List ℕ} {side : ℕ} {a : Result Outcome Complaint} → Says line letters side codes → Judged letters side codes a → Answered line a
