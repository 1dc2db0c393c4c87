-- A step leads to one board, a half-made turn reads a code in at most one way, and so a list of codes in at most one way.
use Rattle.std.proofs.Common.{◌≡◌, ℕ, List, Some, None, Option, sym, refl, ◌∙◌, subst}
use native.Mathlib.Decide.{ℕ_discrete}
use Rattle.board.specs.declared.pieces.Side.{Side}
use Rattle.board.specs.declared.pieces.Piece.{Piece}
use Rattle.board.specs.declared.board.Board.{Board}
use Rattle.board.specs.Cells.{cell, Moved}
use Rattle.board.specs.Standing.{Unsupported, Settled}
use Rattle.board.proofs.Same.{board_same}
use Rattle.rules.specs.Codes.{square}
use Rattle.rules.specs.Steps.{Step}
use Rattle.rules.specs.HalfTurns.{Half, Takes, Runs}
use Rattle.rules.specs.HalfTurns.StepsPlain.{steps}
use Rattle.rules.specs.HalfTurns.StepsPull.{ends}
use Rattle.rules.specs.HalfTurns.StepsPush.{begins}
use Rattle.rules.specs.HalfTurns.StepsAfter.{finishes}
use Rattle.rules.specs.HalfTurns.Takes.{plain, pull, push, after}
use Rattle.rules.specs.HalfTurns.Runs.{stay, take}
use Rattle.rules.proofs.Going.{goes_one}
use Rattle.rules.proofs.Pieces.{not_empty, one_piece, not_both}
use Rattle.rules.proofs.Opens.{own_ends_none, ends_closed, finishes_open}

moves_one : {b m l : Board} {s t : ℕ} → Moved b s t m → Moved b s t l → m ≡ l
moves_one {m = m} {l = l} {s = s} {t = t} p q = board_same m l (λ k h. go k (ℕ_discrete k s) (ℕ_discrete k t))
  where
    go : (k : ℕ) → Dec (k ≡ s) → Dec (k ≡ t) → cell m k ≡ cell l k
    go k (yes f) g = rw f (p.left ∙ sym q.left)
    go k (no f) (yes g) = rw g (p.reached ∙ sym q.reached)
    go k (no f) (no g) = p.others k f g ∙ sym (q.others k f g)

settles_one : {m b d : Board} → Settled m b → Settled m d → b ≡ d
settles_one {m} {b} {d} p q = board_same b d (λ k h. go k (cell b k) (cell d k) refl refl)
  where
    both_kept : (k : ℕ) → (Unsupported m k → ⊥) → cell b k ≡ cell d k
    both_kept k f = p.kept k f ∙ sym (q.kept k f)

    go : (k : ℕ) (x y : Option Piece) → cell b k ≡ x → cell d k ≡ y → cell b k ≡ cell d k
    go k None None e f = e ∙ sym f
    go k (Some x) y e f = both_kept k (λ u. not_empty e (p.gone k u))
    go k None (Some y) e f = both_kept k (λ u. not_empty f (q.gone k u))

pub step_one : {b b' d' : Board} {c : ℕ} → Step b c b' → Step b c d' → b' ≡ d'
step_one {b = b} {d' = d'} {c = c} p q =
    let t = goes_one q.goes p.goes in
    let m = moves_one (subst (λ (t : ℕ). Moved b (square c) t q.moved) t q.moves) p.moves in
    settles_one p.settles (subst (λ (m : Board). Settled m d') m q.settles)

pub takes_one : {side : Side} {x : Half} {c : ℕ} {y z : Half} → Takes side x c y → Takes side x c z → y ≡ z
takes_one (plain (steps f q p)) (plain (steps f' q' p')) =
    let e = step_one p.step p'.step in
    let k = one_piece p.own.there p'.own.there in
    cc
takes_one {side} {c = c} (plain (steps {b = b} {o = o} f q p)) (pull (ends f' e' t')) = absurd (own_ends_none side b c o p.own e')
takes_one (plain (steps f q p)) (push g' (begins f' q' p' t')) = absurd (not_both p.own p'.enemy)
takes_one {side} {c = c} (plain (steps {b = b} {o = o} f q p)) (after (finishes e' f' t')) = absurd (finishes_open side b c o e' q)
takes_one {side} {c = c} (pull (ends {b = b} {o = o} f e t)) (plain (steps f' q' p')) = absurd (own_ends_none side b c o p'.own e)
takes_one (pull (ends f e t)) (pull (ends f' e' t')) = let b = step_one t t' in cc
takes_one (pull (ends f e t)) (push g' (begins f' q' p' t')) = absurd (g' e)
takes_one {side} {c = c} (pull (ends {b = b} {o = o} f e t)) (after (finishes e' f' t')) =
    absurd (finishes_open side b c o e' (ends_closed side b c o e))
takes_one (push g (begins f q p t)) (plain (steps f' q' p')) = absurd (not_both p'.own p.enemy)
takes_one (push g (begins f q p t)) (pull (ends f' e' t')) = absurd (g e')
takes_one (push g (begins f q p t)) (push g' (begins f' q' p' t')) =
    let b = step_one t t' in
    let k = one_piece p.enemy.there p'.enemy.there in
    cc
takes_one {side} {c = c} (push g (begins {b = b} {o = o} f q p t)) (after (finishes e' f' t')) = absurd (finishes_open side b c o e' q)
takes_one {side} {c = c} (after (finishes {b = b} {o = o} e f t)) (plain (steps f' q' p')) = absurd (finishes_open side b c o e q')
takes_one {side} {c = c} (after (finishes {b = b} {o = o} e f t)) (pull (ends f' e' t')) =
    absurd (finishes_open side b c o e (ends_closed side b c o e'))
takes_one {side} {c = c} (after (finishes {b = b} {o = o} e f t)) (push g' (begins f' q' p' t')) = absurd (finishes_open side b c o e q')
takes_one (after (finishes e f t)) (after (finishes e' f' t')) = let b = step_one t t' in cc

pub reads_one_way : (side : Side) (x : Half) (cs : List ℕ) (y z : Half) → Runs side x cs y → Runs side x cs z → y ≡ z
reads_one_way side x cs y z stay stay = refl
reads_one_way side x cs y z (take {y = v} {cs = ds} t r) (take u s) =
    reads_one_way side v ds y z r (subst (λ (w : Half). Runs side w ds z) (takes_one u t) s)
