use Rattle.std.proofs.Common.{◌≡◌}
use Rattle.lines.proofs.adding.tally.Given as goal

abbrev pub invariant-loop-line : goal.invariant-loop-line
invariant-loop-line g l =
    (l.held ≡ (g.S.Store.view l.store).held) × ((g.S.Store.view l.store).capacity ≡ l.room)
