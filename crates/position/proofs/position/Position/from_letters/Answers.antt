use Rattle.std.proofs.Common.{ℕ, ◌<◌, subst, arith}
use Rattle.std.proofs.lemmas.Bool.Decides.{not_from_Decides}
use Rattle.std.proofs.lemmas.Result.{err_from_is_err_and}
use Rattle.bits.proofs.Same.{some_square}
use Rattle.board.specs.declared.board.Board.{Board}
use Rattle.board.specs.Pieces.{full}
use Rattle.board.specs.Counts.{count_of}
use Rattle.board.specs.Standing.{Unsupported}
use Rattle.board.proofs.Reading.{shows_one}
use Rattle.position.proofs.Checks.{side_small, board_hit}
use Rattle.position.proofs.position.Position.from_letters.Goals as goal

pub returns-in_err-board-clause-exact : goal.returns-in_err-board-clause-exact
returns-in_err-board-clause-exact c =
    let p = err_from_is_err_and c.from_residual-in_err-board.result c.from_residual-in_err-board.ensures.1 in
    rw (p.1, p.2) (board_hit c.args.letters.now c.args.side _ (side_small c.in_ok-side.side c.args.side c.in_ok-side.ensures) c.in_err-board.ensures)

pub returns-then-exceeds_full_set-clause-exact : goal.returns-then-exceeds_full_set-clause-exact
returns-then-exceeds_full_set-clause-exact c =
    let b = c.in_ok-board.board in
    let read = c.in_ok-board.ensures in
    let over = c.exceeds_full_set.ensures.0 c.if-exceeds_full_set.true in
    (read.0.0, (side_small c.in_ok-side.side c.args.side c.in_ok-side.ensures, (read.0.1.0, (b, read.1, over.0, over.1, over.2))))

pub returns-then-not-is_empty-clause-exact : goal.returns-then-not-is_empty-clause-exact
returns-then-not-is_empty-clause-exact c =
    let letters = c.args.letters.now in
    let b = c.in_ok-board.board in
    let read = c.in_ok-board.ensures in
    let fits = not_from_Decides c.exceeds_full_set.result c.exceeds_full_set.ensures c.if-exceeds_full_set.false in
    let gone = c.unsupported.result in
    let lone = some_square gone (not_from_Decides c.is_empty.result c.is_empty.ensures c.if-not-is_empty.true) in (
      read.0.0,
      (
        side_small c.in_ok-side.side c.args.side c.in_ok-side.ensures,
        (
          read.0.1.0,
          (
            (λ f. let e = shows_one letters f.0 b f.1 read.1 in fits (f.2, f.3, subst (λ (d : Board). full f.3 < count_of d f.2 f.3) e f.4)),
            (b, read.1, lone.0, (c.unsupported.ensures lone.0).0 lone.1),
          ),
        ),
      ),
    )

pub returns : goal.returns
returns c =
    let letters = c.args.letters.now in
    let b = c.in_ok-board.board in
    let read = c.in_ok-board.ensures in
    let fits = not_from_Decides c.exceeds_full_set.result c.exceeds_full_set.ensures c.if-exceeds_full_set.false in
    let none : (s : ℕ) → Unsupported b s → ⊥ =
    λ s u. let x = (c.unsupported.ensures s).1 u in let y = c.is_empty.ensures.0 c.if-not-is_empty.false s in omega arith in
    record {
      exact = (
        (
          read.0.0,
          (
            side_small c.in_ok-side.side c.args.side c.in_ok-side.ensures,
            (
              read.0.1.0,
              (
                (λ f. let e = shows_one letters f.0 b f.1 read.1 in fits (f.2, f.3, subst (λ (d : Board). full f.3 < count_of d f.2 f.3) e f.4)),
                ((λ f. let e = shows_one letters f.0 b f.1 read.1 in none f.2 (subst (λ (d : Board). Unsupported d f.2) e f.3)), tt),
              ),
            ),
          ),
        ),
        read.1,
        c.in_ok-side.ensures,
      );
      lawful = record { within = λ side kind. let h : full kind < count_of b side kind → ⊥ = λ o. fits (side, kind, o) in omega arith; supported = none };
    }
