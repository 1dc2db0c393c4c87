use Rattle.std.proofs.Common.{◌≡◌, true, subst}
use Rattle.std.proofs.lemmas.Bool.{both_ways}
use Rattle.std.proofs.lemmas.Bool.Decides.{not_from_Decides}
use Rattle.board.specs.Standing.{Frozen}
use Rattle.rules.proofs.Passing.{hit_on_squares, past, owned, unfrozen}
use Rattle.rules.proofs.half_turn.HalfTurn.checked.Goals as goal

pub returns-in_err-asked : goal.returns-in_err-asked
returns-in_err-asked c =
    let call = c.args.call in
    hit_on_squares c.args.self.side c.args.self.board c.args.code.number (call.steps_made ≡ true) (call.no_push_or_pull ≡ true) (call.unfinished_push ≡ true) _
    c.from_residual.result c.in_err-asked.field-0.0 c.from_residual.ensures.1 c.in_err-asked.ensures

pub returns-then-is_stuck : goal.returns-then-is_stuck
returns-then-is_stuck c =
    let asks = c.in_ok-asked.ensures in
    let x = c.is_stuck.ensures.0 c.if-is_stuck.true in
    past asks.0
    (both_ways c.args.call.no_push_or_pull c.if-call.false, (c.in_ok-asked.asked.piece, owned asks.1 c.args.self.side x.0, subst (Frozen c.args.self.board) asks.1.stands x.1))

pub returns-then-goes_backward : goal.returns-then-goes_backward
returns-then-goes_backward c =
    let asks = c.in_ok-asked.ensures in
    let free = unfrozen asks.1 c.args.self.side (not_from_Decides c.is_stuck.result c.is_stuck.ensures c.if-is_stuck.false) in
    let x = c.goes_backward.ensures.0 c.if-goes_backward.true in
    past asks.0
    (both_ways c.args.call.no_push_or_pull c.if-call.false, (free, (c.in_ok-asked.asked.piece, owned asks.1 c.args.self.side x.0, x.1, x.2)))
