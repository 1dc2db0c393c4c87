use Rattle.std.proofs.Common.{rules, not}
use Rattle.std.proofs.lemmas.Bool.Decides.{Decides-like, Decides-not}
use Rattle.board.specs.Pieces.{Stronger}
use Rattle.rules.proofs.Standing.{own_tested}
use Rattle.rules.proofs.half_turn.HalfTurn.can_push.Goals as goal

pub returns-then-is_some_and : goal.returns-then-is_some_and
returns-then-is_some_and c =
    let frozen = c.is_frozen.result in
    let h = (own_tested (λ p. Stronger p.kind c.args.kind) c.own_at.result c.is_some_and.result c.own_at.ensures c.is_some_and.ensures (λ p q. search rules)).0 c.if-is_some_and.true in
    Decides-like (not frozen) (λ n. record { piece = h.0; own = h.1; free = n; stronger = h.2 }) (λ f. f.free) (Decides-not frozen c.is_frozen.ensures)
