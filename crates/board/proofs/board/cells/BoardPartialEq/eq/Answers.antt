use Rattle.std.proofs.Common.{◌≡◌, rules}
use Rattle.std.proofs.lemmas.Bool.Decides.{Decides-at}
use Rattle.board.specs.Cells.{same_planes}
use Rattle.board.proofs.Same.{squares_decide}
use Rattle.board.proofs.board.cells.BoardPartialEq.eq.Goals as goal

pub returns-then-eq-3-clause-same_squares : goal.returns-then-eq-3-clause-same_squares
returns-then-eq-3-clause-same_squares c =
    let value : c.eq-then-eq-3.result ≡ same_planes c.args.self.now c.args.other.now = search rules in Decides-at _ _ value (squares_decide c.args.self.now c.args.other.now)

pub returns-else-eq-3-clause-same_squares : goal.returns-else-eq-3-clause-same_squares
returns-else-eq-3-clause-same_squares c =
    let value : c.if-eq-2.value ≡ same_planes c.args.self.now c.args.other.now = search rules in Decides-at _ _ value (squares_decide c.args.self.now c.args.other.now)
