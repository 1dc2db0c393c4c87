use Rattle.std.proofs.Common.{◌≡◌, ℕ, ◌≢◌, Ok, Err, Result, ap, refl, rules}
use Rattle.std.proofs.lemmas.Result.{err_from_is_err_and}
use Rattle.board.specs.declared.pieces.Side.{Side}
use Rattle.board.specs.declared.pieces.Kind.{Kind}
use Rattle.board.specs.declared.pieces.Piece.{Piece}
use Rattle.board.specs.declared.refusal.Refusal.{Refusal}
use Rattle.board.specs.Letters.{letter_by, LetterRead, OwnRead}
use Rattle.board.proofs.board.letters.own_read.Goals as goal

-- a letter that is no piece's is not the side's
refused : (side : Side) (letter : ℕ) (e : Refusal) → LetterRead letter (Err e) → OwnRead side letter (Err e)
refused side letter e h = (
  h.1,
  λ kind m.
      let p : Piece = record { side = side; kind = kind } in
      let w : ◌≡◌ {A = Result Piece Refusal} (Err e) (Ok p) = (h.0 p).1 m in
      cc,
)

-- nor is a letter of the other side's
other_side : (side : Side) (letter : ℕ) (p : Piece) → LetterRead letter (Ok p) → (p.side ≡ side → ⊥) → (kind : Kind) → letter ≢ letter_by side kind
other_side side letter p h ne kind m =
    let q : Piece = record { side = side; kind = kind } in
    let w : ◌≡◌ {A = Result Piece Refusal} (Ok p) (Ok q) = (h.0 q).1 m in
    let same : p ≡ q = cc in
    ne (ap (λ (x : Piece). x.side) same)

pub returns-in_err-piece : goal.returns-in_err-piece
returns-in_err-piece c =
    let p = err_from_is_err_and c.from_residual.result c.from_residual.ensures.1 in
    rw (p.1, p.2) (refused c.args.side c.args.letter _ c.in_err-piece.ensures)

pub returns-else-eq : goal.returns-else-eq
returns-else-eq c = (refl, other_side c.args.side c.args.letter c.in_ok-piece.piece c.in_ok-piece.ensures (search rules))
