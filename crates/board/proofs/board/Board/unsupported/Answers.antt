use Rattle.std.proofs.Common.{◌≡◌, sym, subst, ⊎_elim, arith}
use Rattle.std.proofs.lemmas.Bool.{cases_eq}
use Rattle.bits.specs.Planes.{on}
use Rattle.bits.proofs.Same.{on_lt}
use Rattle.board.specs.declared.pieces.Side.{Side}
use Rattle.board.specs.declared.pieces.Side.TheVariants.{Gold, Silver}
use Rattle.board.specs.Standing.{FriendNext, Trap, Lone, Unsupported}
use Rattle.board.proofs.board.Board.unsupported.Goals as goal

pub returns : goal.returns
returns c = λ s.
    let b = c.args.self in
    let gold = c.lone.result in
    let silver = c.lone-2.result in
    let either = c.bitor.ensures s in
    let both = c.bitand.ensures s in
    let small = on_lt gold s in
    let small2 = on_lt silver s in
    let small3 = on_lt c.traps.result s in
    let caught : (side : Side) → Trap s → Lone b side s → Unsupported b s =
    λ side t l. record { trap = t; piece = l.piece; there = l.there; alone = λ f. l.alone (subst (FriendNext b s) l.mine f) } in
    let lone : (side : Side) → (u : Unsupported b s) → u.piece.side ≡ side → Lone b side s =
    λ side u m. record { piece = u.piece; there = u.there; mine = m; alone = λ f. u.alone (subst (FriendNext b s) (sym m) f) } in (
      (λ e.
          let t = (c.traps.ensures s).0 (omega arith) in
          ⊎_elim
          (λ (y : on gold s ≡ 1). caught Gold t ((c.lone.ensures s).0 y))
          (λ (n : on gold s ≡ 1 → ⊥). caught Silver t ((c.lone-2.ensures s).0 (omega arith)))
          (cases_eq (on gold s) 1)),
      (λ u.
          let t = (c.traps.ensures s).1 u.trap in
          let by : (x : Side) → u.piece.side ≡ x → on c.bitand.result s ≡ 1 =
          λ x. elim x as (λ x. u.piece.side ≡ x → on c.bitand.result s ≡ 1) [
            | Gold ↦ λ m. let y = (c.lone.ensures s).1 (lone Gold u m) in omega arith
            | Silver ↦ λ m. let y = (c.lone-2.ensures s).1 (lone Silver u m) in omega arith
          ] in
          by u.piece.side (λ i. u.piece.side)),
    )
