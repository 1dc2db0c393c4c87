use Rattle.std.proofs.Common.{◌≡◌, take}
use Rattle.board.specs.Counts.{Lawful}
use Rattle.rules.specs.HalfTurns.{half_of, Runs}
use Rattle.rules.proofs.playing.play.Given as goal

abbrev pub invariant-loop-at : goal.invariant-loop-at
invariant-loop-at l =
    (l.turn.side ≡ l.initial.turn.side)
    × Runs l.initial.turn.side (half_of l.initial.turn) (take l.at-counter l.codes) (half_of l.turn)
    × (Lawful l.initial.turn.board → Lawful l.turn.board)
