use Rattle.std.proofs.Common.{ℕ, Decides, rules, subst}
use Rattle.std.proofs.lemmas.Bool.Decides.{Decides-like}
use Rattle.board.specs.declared.pieces.Piece.{Piece}
use Rattle.rules.specs.Steps.{Enemy}
use Rattle.rules.specs.Actions.{Pusher}
use Rattle.rules.proofs.Standing.{enemy_tested}
use Rattle.rules.proofs.half_turn.HalfTurn.begins_push.Goals as goal

pub returns : goal.returns
returns c =
    let side = c.args.self.side in
    let b = c.args.self.board in
    let r = c.is_some_and.result in
    let pushed = enemy_tested (λ p. Pusher side b c.square-from.result.number p.kind) c.enemy_at.result r c.enemy_at.ensures c.is_some_and.ensures (λ p q. search rules) in
    Decides-like r (λ h. record { piece = h.0; enemy = h.1; pusher = h.2 }) (λ f. (f.piece, f.enemy, f.pusher))
    (subst (λ (s : ℕ). Decides r ((p : Piece) × Enemy side b s p × Pusher side b s p.kind)) c.square-from.ensures pushed)
