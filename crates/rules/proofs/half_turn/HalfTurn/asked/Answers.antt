use Rattle.std.proofs.Common.{◌≡◌, Some, sym, ap, ◌∙◌}
use Rattle.std.proofs.lemmas.Bool.{both_ways}
use Rattle.board.specs.Cells.{cell}
use Rattle.rules.specs.Codes.{square, Goes}
use Rattle.rules.proofs.Pieces.{not_empty}
use Rattle.rules.proofs.Stepping.{is_some}
use Rattle.rules.specs.declared.half_turn.checks.Asked.{Asked}
use Rattle.rules.proofs.Passing.{finds, found}
use Rattle.rules.proofs.half_turn.HalfTurn.asked.Goals as goal

pub returns : goal.returns
returns c =
    let b = c.args.self.board in
    let a : Asked = record { from = c.square-from.result; to = c.in_ok-to.to; piece = c.in_ok-piece.piece } in
    let asks =
    finds b c.args.code.number a c.target.result c.at.result c.at-2.result c.is_some.result c.square-from.ensures c.target.ensures
    c.in_ok-to.ensures.ok_part c.at.ensures c.in_ok-piece.ensures.ok_part c.at-2.ensures c.is_some.ensures c.if-is_some.false in
    (found asks c.args.self.side c.args.steps_made c.if-steps_made.false, asks)

pub returns-then-is_some : goal.returns-then-is_some
returns-then-is_some c =
    let b = c.args.self.board in
    let k = c.args.code.number in
    let to = c.in_ok-to.to.number in
    let goes : Goes k to = rw c.in_ok-to.ensures.ok_part at c.target.ensures in
    let there : cell b (square k) ≡ Some c.in_ok-piece.piece = ap (cell b) (sym c.square-from.ensures) ∙ sym c.at.ensures ∙ c.in_ok-piece.ensures.ok_part in
    let other = is_some c.at-2.result (sym c.is_some.ensures ∙ c.if-is_some.true) in (
      λ off. off to goes,
      (not_empty there, (both_ways c.args.steps_made c.if-steps_made.false, (to, other.0, goes, sym c.at-2.ensures ∙ other.1))),
    )
