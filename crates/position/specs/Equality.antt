-- Whether two positions are the same.
use Rattle.std.specs.Prelude.{Bool, ◌==◌}
use Rattle.std.specs.Ordering.{eq_of_both, on as by}
use Rattle.board.specs.Pieces.{side_number}
use Rattle.board.specs.Cells.{same_planes}
use Rattle.position.specs.declared.position.Position.{Position}

-- the sides' numbers and the boards' planes are the same
abbrev pub same_position : Position → Position → Bool
same_position = eq_of_both (by (λ p. side_number p.side) ◌==◌) (by (λ p. p.board) same_planes)
