use Rattle.std.proofs.Common.{◌∙◌, inl, inr}
use Rattle.std.proofs.lemmas.Bool.Decides.{not_from_Decides}
use Rattle.rules.specs.HalfTurns.{half_of}
use Rattle.rules.specs.Answers.{Steps}
use Rattle.rules.proofs.Alike.{turn_none, turn_refused}
use Rattle.rules.proofs.Taking.{pull_taken, plain_taken}
use Rattle.rules.proofs.half_turn.HalfTurn.step.Goals as goal
use Rattle.rules.proofs.half_turn.HalfTurn.step.Goals.{then-ends_pull, else-ends_pull}

pub returns-in_err-asked : goal.returns-in_err-asked
returns-in_err-asked c =
    let h = c.args.self in
    turn_refused h.side h.board c.args.code.number c.has_made.ensures c.is_foreign.ensures c.is_push_open.ensures _ c.from_residual.result
    c.in_err-asked.field-0.0 c.from_residual.ensures.1 c.in_err-asked.ensures

pub returns : goal.returns
returns c =
    let h = c.args.self in
    let after = c.after.result in
    let k = c.args.code.number in
    let ends = c.ends_pull.ensures in
    let asked = c.in_ok-asked.asked in
    let asks = c.in_ok-asked.ensures in
    let same = c.after.ensures.same in
    let step = c.after.ensures.step k asks.1 in
    let none = turn_none h.side h.board k c.has_made.ensures c.is_foreign.ensures c.is_push_open.ensures asks.0 in
    let way : Steps h.side (half_of h) k (half_of after) =
    elim c.if-ends_pull.branch [
      | then-ends_pull w ↦ inr (pull_taken h after k asked asks.1 same.1 step none (ends.0 w.if-ends_pull.true) (same.2 ∙ w.pending-is))
      | else-ends_pull w ↦
          inl (plain_taken h after k asked asks.1 same.1 step none (not_from_Decides c.ends_pull.result ends w.if-ends_pull.false) (same.2 ∙ w.pending-is))
    ] in
    (none, (same.0, way))
