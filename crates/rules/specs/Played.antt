-- What a list of codes plays from a board.
use Rattle.std.specs.Prelude.{◌≡◌, ℕ, ◌<◌, List, [], length, take, slice_index, Ok, Err, Result}
use Rattle.board.specs.declared.pieces.Side.{Side}
use Rattle.board.specs.declared.pieces.Kind.{Kind}
use Rattle.board.specs.declared.board.Board.{Board}
use Rattle.board.specs.Refusals.{refusal_number, FirstHit}
use Rattle.rules.specs.declared.playing.Played.{Played}
use Rattle.rules.specs.declared.playing.Played.TheVariants.{Start, Whole, Half}
use Rattle.rules.specs.declared.playing.StepRefused.{StepRefused}
use Rattle.rules.specs.Actions.{Turn}
use Rattle.rules.specs.HalfTurns.{Half as HalfMade, Runs, start}
use Rattle.rules.specs.HalfTurns.Half.{half}
use Rattle.rules.specs.HalfTurns.Open.{push_open}
use Rattle.rules.specs.Checks.{read_checks}

-- no codes; a turn and its end; a push left half done; or the first code that is refused, by its place, and why
abbrev pub Plays : Side → Board → List ℕ → Result Played StepRefused → Type 0
Plays side b cs (Ok Start) = cs ≡ []
Plays side b cs (Ok (Whole b')) = Turn side b cs b'
Plays side b cs (Ok (Half b')) = (n : ℕ) × (s : ℕ) × (k : Kind) × Runs side (start b) cs (half b' n (push_open s k))
Plays side b cs (Err e) =
    (x : HalfMade) × (e.at < length cs) × Runs side (start b) (take e.at cs) x × FirstHit (read_checks side x (slice_index cs e.at)) (refusal_number e.why)
