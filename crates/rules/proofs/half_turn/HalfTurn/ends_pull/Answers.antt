use Rattle.std.proofs.Common.{ℕ, Decides, rules, subst}
use Rattle.std.proofs.lemmas.Bool.Decides.{Decides-like}
use Rattle.board.specs.declared.pieces.Piece.{Piece}
use Rattle.board.specs.Pieces.{Stronger}
use Rattle.rules.specs.Codes.{Goes}
use Rattle.rules.specs.Steps.{Enemy}
use Rattle.rules.proofs.Standing.{enemy_tested}
use Rattle.rules.proofs.half_turn.HalfTurn.ends_pull.Goals as goal

pub returns : goal.returns
returns c =
    let side = c.args.self.side in
    let b = c.args.self.board in
    let k = c.args.code.number in
    let left = c.in-Pull.left.number in
    let puller = c.in-Pull.puller in
    let r = c.is_some_and.result in
    let ends = enemy_tested (λ p. Stronger puller p.kind × Goes k left) c.enemy_at.result r c.enemy_at.ensures c.is_some_and.ensures (λ p q. search rules) in
    rw c.in-Pull.is
    (Decides-like r (λ h. record { piece = h.0; enemy = h.1; weaker = h.2.0; into = h.2.1 }) (λ f. (f.piece, f.enemy, (f.weaker, f.into)))
    (subst (λ (s : ℕ). Decides r ((p : Piece) × Enemy side b s p × (Stronger puller p.kind × Goes k left))) c.square.ensures ends))
