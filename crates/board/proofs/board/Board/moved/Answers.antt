use Rattle.std.proofs.Common.{◌≡◌, ⊎_elim, arith}
use Rattle.std.proofs.lemmas.Bool.{cases_eq}
use Rattle.board.proofs.board.Board.moved.Goals as goal

pub invariant_of-result : goal.invariant_of-result
invariant_of-result c = record {
  fitting = λ s.
      let b = c.args.self in
      let from = c.args.from.number in
      let to = c.args.to.number in
      let g = c.carried.ensures in
      let o = c.carried-2.ensures in
      let t = c.carried-3.ensures in
      let f = c.carried-4.ensures in
      ⊎_elim
      (λ (at : s ≡ to).
      let old = b.fitting from in
      rw (at, g.reached, o.reached, t.reached, f.reached) old)
      (λ (off : s ≡ to → ⊥).
      ⊎_elim
      (λ (at : s ≡ from).
      rw at
      (let ne : from ≡ to → ⊥ = λ e. off (cc) in
      rw (g.left ne, o.left ne, t.left ne, f.left ne) (omega arith, omega arith)))
      (λ (away : s ≡ from → ⊥).
      let old = b.fitting s in
      rw (g.others s away off, o.others s away off, t.others s away off, f.others s away off) old)
      (cases_eq s from))
      (cases_eq s to);
}
