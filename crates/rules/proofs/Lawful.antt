-- A step never raises the number of pieces of a kind, and so the board of a position stays one.
use Rattle.std.proofs.Common.{◌≡◌, ℕ, ◌*◌, ◌≤◌, Some, None, Option, refl, ap, arith}
use Rattle.board.specs.declared.pieces.Side.{Side}
use Rattle.board.specs.declared.pieces.Kind.{Kind}
use Rattle.board.specs.declared.pieces.Piece.{Piece}
use Rattle.board.specs.declared.board.Board.{Board}
use Rattle.board.specs.Cells.{cell}
use Rattle.board.specs.Standing.{Settled}
use Rattle.board.specs.Counts.{of_side, of_kind, count_of, Lawful}
use Rattle.board.proofs.Holding.{on_board}
use Rattle.rules.specs.Codes.{square}
use Rattle.rules.specs.Steps.{Step}
use Rattle.rules.proofs.Going.{goes_away}
use Rattle.rules.proofs.Pieces.{not_empty}
use Rattle.rules.proofs.Tallies.{tally_but_two}
use Rattle.rules.proofs.Traps.{step_supported}

-- 1 where the square holds a piece of the side and the kind, else 0
abbrev counted : Side → Kind → Option Piece → ℕ
counted side kind o = of_side o side * of_kind o kind

module _ (side : Side) (kind : Kind) where
  settled_lowers : {b b' : Board} → Settled b b' → (s : ℕ) → counted side kind (cell b' s) ≤ counted side kind (cell b s)
  settled_lowers {b} {b'} t s = go (cell b' s) refl
    where
      go : (o : Option Piece) → cell b' s ≡ o → counted side kind (cell b' s) ≤ counted side kind (cell b s)
      go None e = rw e (omega arith)
      go (Some p) e = rw (t.kept s (λ u. not_empty e (t.gone s u))) (omega arith)

step_lowers : {b b' : Board} {c : ℕ} → Step b c b' → (side : Side) (kind : Kind) → count_of b' side kind ≤ count_of b side kind
unfolding count_of
step_lowers {b} {b'} {c} t side kind =
    let count = counted side kind in
    let lower = settled_lowers side kind t.settles in
    omega (
      arith,
      tally_but_two (λ s. count (cell b' s)) (λ s. count (cell b s)) 64 (square c) t.target (on_board b (square c) t.piece t.there)
          t.goes.inside (goes_away t.goes) (λ k u v. rw (t.moves.others k u v) at (lower k)),
      lower (square c),
      lower t.target,
      ap count t.moves.left,
      ap count t.moves.reached,
      ap count t.empty,
    )

pub stays_lawful : (b : Board) (c : ℕ) (b' : Board) → Lawful b → Step b c b' → Lawful b'
stays_lawful b c b' l t =
    record { within = λ side kind. omega (arith, l.within side kind, step_lowers t side kind); supported = step_supported t }
