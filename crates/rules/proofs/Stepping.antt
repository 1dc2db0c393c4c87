-- A step from what the code finds on the board.
use Rattle.std.proofs.Common.{◌≡◌, ℕ, true, false, is_some as option_is_some, Some, None, Option, refl, subst}
use Rattle.std.proofs.lemmas.Bool.{true≢false, false≢true}
use Rattle.board.specs.declared.pieces.Piece.{Piece}
use Rattle.board.specs.declared.board.Board.{Board}
use Rattle.board.specs.Cells.{cell, Moved}
use Rattle.board.specs.Standing.{Settled}
use Rattle.rules.specs.Codes.{square, Goes}
use Rattle.rules.specs.Steps.{Step}

-- the step from s to t, by the board with the piece moved
abbrev pub stepped : {b b' m : Board} {c s t : ℕ} {p : Piece} → s ≡ square c → Goes c t → cell b (square c) ≡ Some p → cell b t ≡ None → Moved b s t m
    → Settled m b' → Step b c b'
stepped {b = b} {m = m} {t = t} {p = p} at goes there empty moves settles =
    record {
      target = t;
      goes = goes;
      piece = p;
      there = there;
      empty = empty;
      moved = m;
      moves = subst (λ (s : ℕ). Moved b s t m) at moves;
      settles = settles;
    }

pub is_some : (o : Option Piece) → option_is_some o ≡ true → (p : Piece) × (o ≡ Some p)
is_some None e = absurd (false≢true e)
is_some (Some p) e = (p, refl)

pub is_none : (o : Option Piece) → option_is_some o ≡ false → o ≡ None
is_none None e = refl
is_none (Some p) e = absurd (true≢false e)
