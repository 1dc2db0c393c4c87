use Rattle.std.proofs.Common.{◌*◌, ◌∙◌}
use Rattle.bits.specs.Planes.{on}
use Rattle.bits.proofs.Digits.{tally_cong}
use Rattle.board.specs.Cells.{cell}
use Rattle.board.specs.Counts.{of_side, of_kind, count_of}
use Rattle.board.proofs.Holding.{both_digits}
use Rattle.board.proofs.board.Board.count.Goals as goal

pub returns : goal.returns
unfolding count_of
returns c =
    let b = c.args.self in
    let side = c.args.side in
    let kind = c.args.kind in
    c.count.ensures
    ∙ tally_cong (on c.bitand.result) (λ s. of_side (cell b s) side * of_kind (cell b s) kind) 64
    (λ s h.
    let both = both_digits (cell b s) side kind in
    let e = c.of.ensures s in
    let f = c.kind.ensures s in
    let g = c.bitand.ensures s in
    cc)
