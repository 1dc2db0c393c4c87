use Rattle.std.proofs.Common.{rules}
use Rattle.std.proofs.lemmas.Iterator.{cases_from_any}
use Rattle.rules.specs.Actions.{CanPush}
use Rattle.rules.proofs.Pushers.{gives_squares, pusher_decides}
use Rattle.rules.proofs.half_turn.HalfTurn.has_pusher.Goals as goal

pub returns : goal.returns
returns c =
    let side = c.args.self.side in
    let b = c.args.self.board in
    let looked = cases_from_any c.any.new.self _ _ (λ k. CanPush side b k c.args.kind) (λ k. CanPush side b k c.args.kind → ⊥) c.any.ensures.ran (gives_squares c.squares.result) (λ x q k. search rules) (λ x q k. search rules) in
    pusher_decides side b c.args.square.number c.args.kind c.neighbours.result c.any.result c.neighbours.ensures (rw c.squares.ensures at looked)
