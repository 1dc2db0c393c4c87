use Rattle.std.proofs.lemmas.Bool.Decides.{Decides-not}
use Rattle.rules.proofs.Alike.{turn_none, turn_refused}
use Rattle.rules.proofs.Taking.{sure, never, after_taken}
use Rattle.rules.proofs.half_turn.HalfTurn.finish_push.Goals as goal

pub returns-in_err-asked : goal.returns-in_err-asked
returns-in_err-asked c =
    let h = c.args.self in
    turn_refused h.side h.board c.args.code.number never never (Decides-not c.finishes_push.result c.finishes_push.ensures) _ c.from_residual.result
    c.in_err-asked.field-0.0 c.from_residual.ensures.1 c.in_err-asked.ensures

pub returns : goal.returns
returns c =
    let h = c.args.self in
    let k = c.args.code.number in
    let asks = c.in_ok-asked.ensures in
    let same = c.after.ensures.same in
    let none = turn_none h.side h.board k never never (Decides-not c.finishes_push.result c.finishes_push.ensures) asks.0 in
    let finishes = sure c.finishes_push.result c.finishes_push.ensures none.1.1.1.1.1.1.1.0 in
    (none, (same.0, after_taken h c.after.result k c.in_ok-asked.asked asks.1 same.1 (c.after.ensures.step k asks.1) none finishes same.2))
