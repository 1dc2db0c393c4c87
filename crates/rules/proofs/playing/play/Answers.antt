use Rattle.std.proofs.Common.{◌≡◌, ℕ, ◌≤◌, length, get_or, take, Ok, rules, sym, refl, ap, ◌∙◌, subst, arith, take_all}
use Rattle.std.proofs.lemmas.List.{take_more}
use Rattle.std.proofs.lemmas.Bool.{eqb-false}
use Rattle.std.proofs.lemmas.Bool.Decides.{not_from_Decides}
use Rattle.std.proofs.lemmas.Result.{err_from_is_err_and}
use Rattle.board.specs.declared.pieces.Side.{Side}
use Rattle.board.specs.declared.board.Board.{Board}
use Rattle.board.specs.Counts.{Lawful}
use Rattle.board.specs.Refusals.{refusal_number, FirstHit}
use Rattle.rules.specs.declared.playing.Played.TheVariants.{Whole}
use Rattle.rules.specs.Actions.{Turn}
use Rattle.rules.specs.HalfTurns.{opened, half_of, start, Takes, Runs}
use Rattle.rules.specs.HalfTurns.Runs.{stay}
use Rattle.rules.specs.Checks.{read_checks}
use Rattle.rules.proofs.Taking.{closed}
use Rattle.rules.proofs.Mapped.{mapped_ok, mapped_err}
use Rattle.rules.proofs.Running.{board_of, takes_lawful, runs_from, runs_more, refused_no_turn, ends_as, whole_turn, half_push}
use Rattle.rules.proofs.playing.play.Goals as goal

pub loop-at-init : goal.loop-at-init
loop-at-init c = (refl, stay, λ l. l)

pub loop-at-preserved : goal.loop-at-preserved
loop-at-preserved c =
    let t = c.loop-at.turn in
    let s = c.start-turn.result in
    let cs = c.args.codes.now in
    let at = c.loop-at.at-counter in
    let y = c.in_ok-turn.turn in
    let next = (mapped_ok _ _ _ c.read.result c.map_err.result y c.read.ensures c.map_err.ensures.cases c.in_ok-turn.was).1 in
    let side = c.loop-at.invariant.0 in
    let taken = subst (λ (x : Side). Takes x (half_of t) (get_or cs at 0) (half_of y)) side (rw c.from.ensures at next.1) in (
      next.0 ∙ side,
      rw (take_more cs at 0 c.loop-at-test.true) (runs_more c.loop-at.invariant.1 taken),
      λ l. takes_lawful s.side (half_of t) (half_of y) (get_or cs at 0) taken (c.loop-at.invariant.2 l),
    )

pub returns-in_err-turn : goal.returns-in_err-turn
returns-in_err-turn c =
    let t = c.loop-at.turn in
    let p = c.args.position in
    let cs = c.args.codes.now in
    let at = c.loop-at.at-counter in
    let d = c.in_err-turn.field-0.0 in
    let out = err_from_is_err_and c.from_residual.result c.from_residual.ensures.1 in
    let failed = mapped_err _ _ _ c.read.result c.map_err.result d c.read.ensures c.map_err.ensures.cases c.in_err-turn.was in
    let is : (d.at ≡ at) × (d.why ≡ failed.0) = search rules in
    let side = c.loop-at.invariant.0 ∙ c.start-turn.ensures.side in
    let run = runs_from c.start-turn.ensures.side c.start-turn.ensures.begins c.loop-at.invariant.1 in
    let read = subst (λ (n : ℕ). FirstHit (read_checks t.side (half_of t) n) (refusal_number failed.0)) c.from.ensures failed.1 in
    let first = subst (λ (x : Side). FirstHit (read_checks x (half_of t) (get_or cs at 0)) (refusal_number failed.0)) side read in
    rw (out.1, out.2)
    record {
      exact = rw is.0 (rw is.1 (half_of t, c.loop-at-test.true, run, first));
      turns_are_what_is_read_whole = λ b. (
        λ u. absurd (refused_no_turn p.side p.board cs at (refusal_number failed.0) (half_of t) run c.loop-at-test.true first b u),
        λ e. cc,
      );
      a_position_stays_one = λ l b e. cc;
    }

pub returns-then-is_push_open : goal.returns-then-is_push_open
returns-then-is_push_open c =
    let t = c.loop-at.turn in
    let p = c.args.position in
    let cs = c.args.codes.now in
    let o = opened t.pending in
    let all : take c.loop-at.at-counter cs ≡ cs = take_all c.loop-at.at-counter cs c.loop-at-test.false in
    let run : Runs p.side (start p.board) cs (half_of t) = rw all at (runs_from c.start-turn.ensures.side c.start-turn.ensures.begins c.loop-at.invariant.1) in
    let busy = c.is_push_open.ensures.0 c.if-is_push_open.true in
    rw c.board-board.ensures
    (record {
      exact = half_push p.side p.board cs t.board t.steps o run busy;
      turns_are_what_is_read_whole = λ d. (λ u. absurd (busy (ends_as p.side p.board cs t.board t.steps o run d u).1), λ e. cc);
      a_position_stays_one = λ l d e. cc;
    })

pub returns-else-is_push_open : goal.returns-else-is_push_open
returns-else-is_push_open c =
    let t = c.loop-at.turn in
    let p = c.args.position in
    let cs = c.args.codes.now in
    let o = opened t.pending in
    let all : take c.loop-at.at-counter cs ≡ cs = take_all c.loop-at.at-counter cs c.loop-at-test.false in
    let run : Runs p.side (start p.board) cs (half_of t) = rw all at (runs_from c.start-turn.ensures.side c.start-turn.ensures.begins c.loop-at.invariant.1) in
    let idle = closed o (not_from_Decides c.is_push_open.result c.is_push_open.ensures c.if-is_push_open.false) in
    let some : 1 ≤ length cs = let n = eqb-false (length cs) 0 (sym c.is_empty.ensures ∙ c.if-is_empty.false) in omega arith in
    let turn = whole_turn p.side p.board cs t.board t.steps o run some idle in
    rw c.board-board.ensures
    (record {
      exact = turn;
      turns_are_what_is_read_whole = λ d. (
        λ u. ap (λ (b : Board). Ok (Whole b)) (ends_as p.side p.board cs t.board t.steps o run d u).0,
        λ e. let same : t.board ≡ d = cc in subst (Turn p.side p.board cs) same turn,
      );
      a_position_stays_one = λ l d e.
          let same : t.board ≡ d = cc in
          subst Lawful same (c.loop-at.invariant.2 (subst Lawful (sym (ap board_of c.start-turn.ensures.begins)) l));
    })
