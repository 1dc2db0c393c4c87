use Rattle.std.proofs.Common.{◌≡◌, ◌≢◌, Some, None, sym, ap, ◌∙◌}
use Rattle.board.specs.Cells.{cell}
use Rattle.rules.specs.Codes.{square, Goes}
use Rattle.rules.proofs.Going.{goes_one, goes_away}
use Rattle.rules.proofs.Pieces.{not_empty}
use Rattle.rules.proofs.Traps.{removes_at_most_one}
use Rattle.rules.proofs.Lawful.{stays_lawful}
use Rattle.rules.proofs.Stepping.{stepped, is_some, is_none}
use Rattle.rules.proofs.stepped.after_step.Goals as goal

pub returns-then-is_some : goal.returns-then-is_some
returns-then-is_some c =
    let b = c.args.board in
    let to = c.in_ok-to.to in
    let goes : Goes c.args.code.number to.number = c.in_ok-to.ensures in
    let there = is_some c.at-2.result (sym c.is_some.ensures ∙ c.if-is_some.true) in
    record {
      exact = λ b' t. not_empty (sym c.at-2.ensures ∙ there.1) (ap (cell b) (goes_one goes t.goes) ∙ t.empty);
      a_step_removes_at_most_one_piece = λ s b' t. removes_at_most_one b c.args.code.number b' s t;
      a_position_stays_one = tt;
    }

pub returns : goal.returns
returns c =
    let b = c.args.board in
    let to = c.in_ok-to.to in
    let at = c.square-from.ensures in
    let goes : Goes c.args.code.number to.number = c.in_ok-to.ensures in
    let there : cell b (square c.args.code.number) ≡ Some c.in_ok-at.field-0 = ap (cell b) (sym at) ∙ sym c.in_ok-at.ensures in
    let empty : cell b to.number ≡ None = sym c.at-2.ensures ∙ is_none c.at-2.result (sym c.is_some.ensures ∙ c.if-is_some.false) in
    let away : c.square-from.result.number ≢ to.number = λ e. goes_away goes (sym at ∙ e) in
    let m = c.settle_after.ensures away in
    let step = stepped at goes there empty m.1 m.2 in
    record {
      exact = (step, m.3);
      a_step_removes_at_most_one_piece = λ s b' t. removes_at_most_one b c.args.code.number b' s t;
      a_position_stays_one = λ l. stays_lawful b c.args.code.number c.settle_after.result.board l step;
    }
