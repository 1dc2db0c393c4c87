use Rattle.std.proofs.Common.{◌≡◌, ◌<◌, ◌≤◌, sym, ◌∙◌, ⊎_elim, arith, rules}
use Rattle.std.proofs.lemmas.Bool.{cases_eq, cases_lt}
use Rattle.bits.specs.Planes.{on}
use Rattle.bits.proofs.Same.{on_lt, on_high}
use Rattle.board.specs.Cells.{cell}
use Rattle.board.proofs.Holding.{some_of_side, of_side_some, on_board}
use Rattle.board.proofs.board.Board.lone.Goals as goal

pub returns : goal.returns
returns c = λ s.
    let b = c.args.self in
    let side = c.args.side in
    let own = c.of-own.result in
    let near = c.spread.result in
    let rest = c.sub.ensures s in (
      (λ e.
          let mine : on own s ≡ 1 = omega (arith, on_lt own s) in
          let apart : on near s ≡ 0 = omega (arith, on_lt own s) in
          let h : s < 64 = ⊎_elim (λ (l : s < 64). l) (λ (l : 64 ≤ s). absurd (omega (arith, on_high own s l))) (cases_lt s 64) in
          let p = some_of_side (cell b s) side (sym (c.of-own.ensures s) ∙ mine) in
          record {
            piece = p.0;
            there = p.1;
            mine = p.2;
            alone = λ f.
                let friend = of_side_some (cell b f.place) side f.piece f.there f.friend in
                let next = c.spread.ensures.each s f.place h (on_board b f.place f.piece f.there) f.near (search rules ∙ friend) in
                omega arith;
          }),
      (λ l.
          let h = on_board b s l.piece l.there in
          let mine : on own s ≡ 1 = c.of-own.ensures s ∙ of_side_some (cell b s) side l.piece l.there l.mine in
          ⊎_elim
          (λ (e : on near s ≡ 1).
          let j = c.spread.ensures.only s h e in
          let p = some_of_side (cell b j.0) side (sym (search rules) ∙ j.3) in
          absurd (l.alone (record { place = j.0; piece = p.0; near = j.2; there = p.1; friend = p.2 })))
          (λ (n : on near s ≡ 1 → ⊥). omega (arith, on_lt near s))
          (cases_eq (on near s) 1)),
    )
