-- What the calls on a half-made turn answer.
use Rattle.std.specs.Prelude.{◌≡◌, ℕ, ◌⊎◌, List, Result, MatchResult}
use Rattle.board.specs.declared.pieces.Side.{Side}
use Rattle.board.specs.declared.refusal.Refusal.{Refusal}
use Rattle.board.specs.Refusals.{Check, refusal_number, NoneHits, FirstHit}
use Rattle.rules.specs.declared.half_turn.HalfTurn.{HalfTurn}
use Rattle.rules.specs.HalfTurns.{Half, half_of, StepsPlain, StepsPull}

-- no check hits and the answer is as said, or the answer has the number of the first check that hits
abbrev pub Answers : {A : Type 0} → List Check → (A → Type 0) → Result A Refusal → Type 0
Answers checks accepted r = MatchResult r (λ x. NoneHits checks × accepted x) (λ why. FirstHit checks (refusal_number why))

-- the half-made turn goes on by a way of taking the code, for the same side
abbrev pub GoesOn : (Side → Half → ℕ → Half → Type 0) → HalfTurn → ℕ → HalfTurn → Type 0
GoesOn way h c h' = (h'.side ≡ h.side) × way h.side (half_of h) c (half_of h')

-- a plain step, or the second half of a pull
abbrev pub Steps : Side → Half → ℕ → Half → Type 0
Steps side x c y = StepsPlain side x c y ⊎ StepsPull side x c y
