use Rattle.std.proofs.lemmas.Bool.Decides.{Decides-not}
use Rattle.board.proofs.board.Board.is_held.Goals as goal

pub returns-then-has_stronger_next : goal.returns-then-has_stronger_next
returns-then-has_stronger_next c =
    let friendless = Decides-not c.has_friend_next.result c.has_friend_next.ensures in
    ((λ t. (c.has_stronger_next.ensures.0 c.if-has_stronger_next.true, friendless.0 t)), (λ held. friendless.1 held.1))
