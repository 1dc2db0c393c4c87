use Rattle.std.proofs.Common.{◌≡◌, rules}
use Rattle.std.proofs.lemmas.Bool.Decides.{Decides-like}
use Rattle.rules.proofs.half_turn.HalfTurn.is_stuck.Goals as goal

pub returns-then-eq : goal.returns-then-eq
returns-then-eq c =
    let own : c.args.piece.side ≡ c.args.self.side = search rules in
    Decides-like c.is_frozen.result (λ f. (own, f)) (λ h. h.1) c.is_frozen.ensures
