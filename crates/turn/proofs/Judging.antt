-- What a task is answered, by what its codes play.
use Rattle.std.proofs.Common.{◌≡◌, ℕ, List, Ok, Err, Result, refl, subst}
use Rattle.position.specs.declared.position.Position.{Position}
use Rattle.board.specs.Pieces.{side_number}
use Rattle.board.specs.Refusals.{NoneHits}
use Rattle.board.specs.Reading.{Shows, position_checks}
use Rattle.rules.specs.declared.playing.Played.{Played}
use Rattle.rules.specs.declared.playing.Played.TheVariants.{Start, Whole, Half}
use Rattle.rules.specs.declared.playing.StepRefused.{StepRefused}
use Rattle.rules.specs.Played.{Plays}
use Rattle.turn.specs.declared.answer.Outcome.{Outcome}
use Rattle.turn.specs.declared.answer.Outcome.TheVariants.{Start as Starts, Turn as Turns, Half as Halves}
use Rattle.turn.specs.declared.answer.Complaint.{Complaint}
use Rattle.turn.specs.declared.answer.Complaint.TheVariants.{NoStep}
use Rattle.turn.specs.Judging.{Judged}

-- the answer for what is played from the position
abbrev pub told_of : Position → Result Played StepRefused → Result Outcome Complaint
told_of p (Ok Start) = Ok (Starts p.board)
told_of p (Ok (Whole b)) = Ok (Turns b)
told_of p (Ok (Half b)) = Ok (Halves b)
told_of p (Err refused) = Err (NoStep refused)

pub judged : (letters : List ℕ) {cs ds : List ℕ} {side : ℕ} (p : Position) (r : Result Played StepRefused) → NoneHits (position_checks letters side) × Shows letters p.board × (side_number p.side ≡ side)
    → cs ≡ ds → Plays p.side p.board cs r → Judged letters side ds (told_of p r)
judged letters {ds = ds} {side} p r read same plays = go r (subst (λ (cs : List ℕ). Plays p.side p.board cs r) same plays)
  where
    go : (r : Result Played StepRefused) → Plays p.side p.board ds r → Judged letters side ds (told_of p r)
    go (Ok Start) h = (p, record { taken = read.0; shows = read.1; moves = read.2 }, h, refl)
    go (Ok (Whole b)) h = (p, record { taken = read.0; shows = read.1; moves = read.2 }, h)
    go (Ok (Half b)) h = (p, record { taken = read.0; shows = read.1; moves = read.2 }, h)
    go (Err refused) h = (p, record { taken = read.0; shows = read.1; moves = read.2 }, h)
