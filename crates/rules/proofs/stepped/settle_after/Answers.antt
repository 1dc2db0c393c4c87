use Rattle.std.proofs.Common.{◌≡◌, ℕ, arith, rules}
use Rattle.bits.specs.Planes.{on}
use Rattle.bits.proofs.Same.{on_lt}
use Rattle.board.specs.Cells.{Moved}
use Rattle.board.specs.Standing.{Unsupported}
use Rattle.rules.proofs.stepped.settle_after.Goals as goal

pub returns : goal.returns
returns c = λ away.
    let m = c.moved-moved.result in
    let gone = c.unsupported.result in
    let moves : Moved c.args.board c.args.from.number c.args.to.number m = search rules in
    let off : (s : ℕ) → (Unsupported m s → ⊥) → on gone s ≡ 0 = λ s n. grind (arith, on_lt gone s, c.unsupported.ensures s) in (
      m,
      moves,
      record { gone = λ s u. c.without.ensures.gone s ((c.unsupported.ensures s).1 u); kept = λ s n. c.without.ensures.kept s (off s n) },
      c.unsupported_piece.ensures,
    )
