use Rattle.std.proofs.Common.{refl}
use Rattle.rules.proofs.Changes.{change_is_possible}
use Rattle.rules.proofs.laws.whoever_has_a_turn_has_one_that_changes_the_board.Goals as goal

pub returns : goal.returns
returns c = (refl, change_is_possible)
