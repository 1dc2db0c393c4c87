-- What is read is refused by no check.
use Rattle.std.proofs.Common.{◌≡◌, ℕ, ap, ◌∙◌, inl, inr, arith}
use Rattle.board.specs.declared.pieces.Side.{Side}
use Rattle.board.specs.declared.pieces.Kind.TheVariants.{Rabbit}
use Rattle.board.specs.declared.pieces.Piece.{Piece}
use Rattle.board.specs.declared.board.Board.{Board}
use Rattle.board.specs.Standing.{Frozen}
use Rattle.board.specs.Refusals.{NoneHits}
use Rattle.rules.specs.Codes.{square, direction, back}
use Rattle.rules.specs.Steps.{Own, Step}
use Rattle.rules.specs.HalfTurns.{Open, Half, Finishes, Takes}
use Rattle.rules.specs.HalfTurns.Open.{nothing, pull_possible, push_open}
use Rattle.rules.specs.HalfTurns.StepsPlain.{steps}
use Rattle.rules.specs.HalfTurns.StepsPull.{ends}
use Rattle.rules.specs.HalfTurns.StepsPush.{begins}
use Rattle.rules.specs.HalfTurns.StepsAfter.{finishes}
use Rattle.rules.specs.HalfTurns.Takes.{plain, pull, push, after}
use Rattle.rules.specs.Checks.{turn_checks, read_checks}
use Rattle.rules.proofs.Going.{goes_one}
use Rattle.rules.proofs.Pieces.{not_empty, one_piece, not_both, no_rabbit}
use Rattle.rules.proofs.Opens.{own_ends_none, ends_closed, finishes_open}

-- an own piece that steps is neither frozen nor a rabbit that goes backward
record Able (side : Side) (b : Board) (c : ℕ) : Type 0 where
  free : (p : Piece) → Own side b (square c) p → Frozen b (square c) → ⊥
  ahead : (p : Piece) → Own side b (square c) p → p.kind ≡ Rabbit → direction c ≡ back side → ⊥

own_able : {side : Side} {b : Board} {c : ℕ} {p : Piece} → Own side b (square c) p → (Frozen b (square c) → ⊥)
    → (p.kind ≡ Rabbit → direction c ≡ back side → ⊥) → Able side b c
own_able o f a =
    record { free = λ p w z. f z; ahead = λ p w r d. a (ap (λ (x : Piece). x.kind) (one_piece o.there w.there) ∙ r) d }

-- where no own piece steps
other_able : {side : Side} {b : Board} (c : ℕ) → ((p : Piece) → Own side b (square c) p → ⊥) → Able side b c
other_able c f = record { free = λ p w z. f p w; ahead = λ p w r d. f p w }

-- what finishes a push is no rabbit
finishes_able : (side : Side) (o : Open) (b : Board) (c : ℕ) → Finishes side o b c → (Frozen b (square c) → ⊥) → Able side b c
finishes_able side nothing b c e f = absurd e
finishes_able side (pull_possible s k) b c e f = absurd e
finishes_able side (push_open s k) b c e f = own_able e.own f (λ r d. no_rabbit e.piece.kind k e.stronger r)

-- a step that is made hits no check that is the same for all calls
unhit : {side : Side} {b b' : Board} {c : ℕ} {many neither unfinished : Type 0} → Step b c b' → Able side b c → (many → ⊥) → (neither → ⊥)
    → (unfinished → ⊥) → NoneHits (turn_checks side b c many neither unfinished)
unhit t a m n u = (
  λ h. h t.target t.goes,
  (
    λ h. not_empty t.there h,
    (
      m,
      (
        λ h. not_empty h.3 (rw (goes_one h.2 t.goes) t.empty),
        (n, (λ h. a.free h.0 h.1 h.2, (λ h. a.ahead h.0 h.1 h.2 h.3, (u, tt)))),
      ),
    ),
  ),
)

pub taken_is_unchecked : (side : Side) (x : Half) (c : ℕ) (y : Half) → Takes side x c y → NoneHits (read_checks side x c)
taken_is_unchecked side x c y (plain (steps f q p)) =
    unhit p.step (own_able p.own p.free p.ahead)
    (λ h. elim h.1 [ inl m ↦ omega arith | inr m ↦ not_both p.own m.1.1 ]) (λ h. not_both p.own h.1.1) (λ h. h.0 q)
taken_is_unchecked side x c y (pull (ends {b = b} {o = o} f e t)) =
    unhit t (other_able c (λ p w. own_ends_none side b c o w e))
    (λ h. elim h.1 [ inl m ↦ omega arith | inr m ↦ m.1.2 e ]) (λ h. h.1.2 e) (λ h. h.0 (ends_closed side b c o e))
taken_is_unchecked side x c y (push g (begins f q p t)) =
    unhit t (other_able c (λ _ w. not_both w p.enemy))
    (λ h. elim h.1 [ inl m ↦ omega arith | inr m ↦ omega (arith, m.0) ]) (λ h. h.2 p) (λ h. h.0 q)
taken_is_unchecked side x c y (after (finishes {b = b} {o = o} e f t)) =
    unhit t (finishes_able side o b c e f) (λ h. finishes_open side b c o e h.0) (λ h. finishes_open side b c o e h.0) (λ h. h.1 e)
