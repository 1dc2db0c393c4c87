use Rattle.std.proofs.Common.{◌≡◌, ℕ, sym, ap, ◌∙◌, arith}
use Rattle.bits.specs.Planes.{on}
use Rattle.bits.proofs.Same.{on_lt}
use Rattle.board.specs.Pieces.{opponent}
use Rattle.board.specs.Cells.{cell}
use Rattle.board.specs.Counts.{of_side}
use Rattle.board.proofs.Holding.{some_of_side, of_side_some, stronger_above, above_stronger, on_board}
use Rattle.board.proofs.board.Board.has_stronger_next.Goals as goal

pub returns : goal.returns
returns c =
    let b = c.args.self in
    let p = c.args.piece in
    let foes = c.of-enemies.result in
    let strong = c.stronger.result in
    let theirs : (s : ℕ) → on foes s ≡ of_side (cell b s) (opponent p.side) =
    λ s. c.of-enemies.ensures s ∙ ap (of_side (cell b s)) c.other.ensures in (
      (λ t.
          let m = c.meets.ensures.0 t in
          let s = m.0 in
          let foe : on foes s ≡ 1 = omega (arith, c.bitand.ensures s, on_lt foes s, on_lt strong s, m.2) in
          let over : on strong s ≡ 1 = omega (arith, c.bitand.ensures s, on_lt foes s, on_lt strong s, m.2) in
          let q = some_of_side (cell b s) (opponent p.side) (sym (theirs s) ∙ foe) in
          record {
            place = s;
            piece = q.0;
            near = (c.neighbours.ensures s m.1).0 m.3;
            there = q.1;
            enemy = q.2;
            stronger = stronger_above (cell b s) q.0 p.kind q.1 (sym (c.stronger.ensures s) ∙ over);
          }),
      (λ f.
          let s = f.place in
          let h = on_board b s f.piece f.there in
          let foe : on foes s ≡ 1 = theirs s ∙ of_side_some (cell b s) (opponent p.side) f.piece f.there f.enemy in
          let over : on strong s ≡ 1 = c.stronger.ensures s ∙ above_stronger (cell b s) f.piece p.kind f.there f.stronger in
          c.meets.ensures.1 (s, h, omega (arith, c.bitand.ensures s), (c.neighbours.ensures s h).1 f.near)),
    )
