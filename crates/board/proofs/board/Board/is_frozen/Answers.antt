use Rattle.std.proofs.Common.{◌≡◌, ℕ, Bool, false, Option, Some, None, Decides, MatchOption, sym, ◌∙◌, subst, rules}
use Rattle.std.proofs.lemmas.Bool.{both_ways}
use Rattle.board.specs.declared.pieces.Piece.{Piece}
use Rattle.board.specs.declared.board.Board.{Board}
use Rattle.board.specs.Cells.{cell}
use Rattle.board.specs.Standing.{Held, Frozen}
use Rattle.board.proofs.board.Board.is_frozen.Goals as goal

frozen : (b : Board) (s : ℕ) (r : Bool) (o : Option Piece) → o ≡ cell b s → MatchOption o (r ≡ false) (λ p. Decides r (Held b s p)) → Decides r (Frozen b s)
frozen b s r None e h = ((λ t. absurd (both_ways r h t)), (λ z. let w : None ≡ Some z.piece = e ∙ z.there in cc))
frozen b s r (Some p) e h = (
  (λ t. let q = h.0 t in record { piece = p; there = sym e; threat = q.0; alone = q.1 }),
  (λ z.
      let same : p ≡ z.piece = let w : Some p ≡ Some z.piece = e ∙ z.there in cc in
      h.1 (subst (Held b s) (sym same) (z.threat, z.alone))),
)

pub returns : goal.returns
returns c =
    let b = c.args.self in
    let s = c.args.square.number in
    frozen b s _ _ c.at.ensures (search rules)
