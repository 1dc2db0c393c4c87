use Rattle.std.proofs.Common.{◌≢◌, sym, ◌∙◌}
use Rattle.rules.proofs.Going.{goes_away}
use Rattle.rules.proofs.Stepping.{stepped}
use Rattle.rules.proofs.half_turn.HalfTurn.after.Goals as goal

pub returns-clause-step : goal.returns-clause-step
returns-clause-step c = λ k a.
    let away : c.args.asked.from.number ≢ c.args.asked.to.number = λ e. goes_away a.goes (sym a.stands ∙ e) in
    let m = c.settle_after.ensures away in
    stepped a.stands a.goes a.there a.empty m.1 m.2
