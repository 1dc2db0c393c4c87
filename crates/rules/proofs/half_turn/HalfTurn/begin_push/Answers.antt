use Rattle.std.proofs.Common.{◌≡◌, not, ◌&&◌, ap, ◌∙◌}
use Rattle.rules.specs.HalfTurns.{opened}
use Rattle.rules.proofs.Alike.{turn_none, turn_refused}
use Rattle.rules.proofs.Taking.{sure, decides_neither, push_taken}
use Rattle.rules.proofs.half_turn.HalfTurn.begin_push.Goals as goal
use Rattle.rules.proofs.half_turn.HalfTurn.begin_push.Goals.{then-not-open, else-not-open}

pub returns-in_err-asked : goal.returns-in_err-asked
returns-in_err-asked c =
    let h = c.args.self in
    let r = c.is_push_open-open.result in
    let b = c.begins_push-begins.result in
    let is_neither : c.if-not-open.call ≡ (not r && not b) =
    elim c.if-not-open.branch [ then-not-open w ↦ rw w.if-not-open.true w.call-is | else-not-open w ↦ rw w.if-not-open.false (w.call-is ∙ ap not w.if-not-open.false) ] in
    let neither = decides_neither r b c.if-not-open.call (opened h.pending) is_neither c.is_push_open-open.ensures c.begins_push-begins.ensures in
    turn_refused h.side h.board c.args.code.number c.has_made.ensures neither c.is_push_open-open.ensures _ c.from_residual.result c.in_err-asked.field-0.0
    c.from_residual.ensures.1 c.in_err-asked.ensures

pub returns : goal.returns
returns c =
    let h = c.args.self in
    let k = c.args.code.number in
    let r = c.is_push_open-open.result in
    let b = c.begins_push-begins.result in
    let is_neither : c.if-not-open.call ≡ (not r && not b) =
    elim c.if-not-open.branch [ then-not-open w ↦ rw w.if-not-open.true w.call-is | else-not-open w ↦ rw w.if-not-open.false (w.call-is ∙ ap not w.if-not-open.false) ] in
    let neither = decides_neither r b c.if-not-open.call (opened h.pending) is_neither c.is_push_open-open.ensures c.begins_push-begins.ensures in
    let asks = c.in_ok-asked.ensures in
    let same = c.after.ensures.same in
    let none = turn_none h.side h.board k c.has_made.ensures neither c.is_push_open-open.ensures asks.0 in (
      none,
      (same.0, push_taken h c.after.result k c.in_ok-asked.asked asks.1 same.1 (c.after.ensures.step k asks.1) none (sure b c.begins_push-begins.ensures) same.2),
    )
