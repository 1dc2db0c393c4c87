use Rattle.std.proofs.Common.{ℕ, Decides, rules, subst}
use Rattle.std.proofs.lemmas.Bool.Decides.{Decides-like}
use Rattle.board.specs.declared.pieces.Piece.{Piece}
use Rattle.board.specs.Pieces.{Stronger}
use Rattle.rules.specs.Codes.{Goes}
use Rattle.rules.specs.Steps.{Own}
use Rattle.rules.proofs.Standing.{own_tested}
use Rattle.rules.proofs.half_turn.HalfTurn.finishes_push.Goals as goal

pub returns : goal.returns
returns c =
    let side = c.args.self.side in
    let b = c.args.self.board in
    let k = c.args.code.number in
    let left = c.in-Push.left.number in
    let pushed = c.in-Push.pushed in
    let r = c.is_some_and.result in
    let finishes = own_tested (λ p. Stronger p.kind pushed × Goes k left) c.own_at.result r c.own_at.ensures c.is_some_and.ensures (λ p q. search rules) in
    rw c.in-Push.is
    (Decides-like r (λ h. record { piece = h.0; own = h.1; stronger = h.2.0; into = h.2.1 }) (λ f. (f.piece, f.own, (f.stronger, f.into)))
    (subst (λ (s : ℕ). Decides r ((p : Piece) × Own side b s p × (Stronger p.kind pushed × Goes k left))) c.square.ensures finishes))
