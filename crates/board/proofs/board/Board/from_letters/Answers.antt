use Rattle.std.proofs.Common.{◌≡◌, ℕ, ◌<◌, List, length, get_or, Ok, Err, Result, MatchResult, subst, sym, zero-add, arith, rules}
use Rattle.board.specs.declared.board.Board.{Board}
use Rattle.board.specs.declared.refusal.Refusal.{Refusal}
use Rattle.board.specs.Letters.{spelled, SquareRead}
use Rattle.board.specs.Cells.{cell}
use Rattle.board.specs.Refusals.{refusal_number, NoneHits, FirstHit}
use Rattle.board.specs.Reading.{Shows, LaidOut, board_checks}
use Rattle.board.proofs.board.Board.from_letters.Goals as goal

shown : (letters : List ℕ) (r : Result Board Refusal) → length letters ≡ 64
    → MatchResult r (LaidOut SquareRead 0 letters) (λ e. (k : ℕ) × (k < length letters) × SquareRead (get_or letters k 0) (Err e))
    → MatchResult r (λ b. NoneHits (board_checks letters) × Shows letters b) (λ e. FirstHit (board_checks letters) (refusal_number e))
shown letters (Ok b) n laid =
    let each : Shows letters b = λ s h. subst (λ (x : ℕ). get_or letters s 0 ≡ spelled (cell b x)) (zero-add s) (laid.placed s (omega arith)) in
    (((λ other. other n), ((λ f. f.2 (cell b f.0) (each f.0 (omega (arith, f.1)))), tt)), each)
shown letters (Err e) n bad =
    subst (λ (x : Refusal). FirstHit (board_checks letters) (refusal_number x)) (sym bad.2.0) ((λ other. other n), (bad.0, bad.1, bad.2.1))

pub returns : goal.returns
returns c = shown c.args.letters.now c.laid_out.result (omega arith) (search rules)
