use Rattle.rules.proofs.Standing.{enemy_some}
use Rattle.rules.proofs.half_turn.HalfTurn.moves_enemy.Goals as goal

pub returns : goal.returns
returns c = rw (← c.square.ensures) (rw c.is_some.ensures (enemy_some c.enemy_at.result c.enemy_at.ensures))
