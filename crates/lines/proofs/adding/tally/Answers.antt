use Rattle.std.proofs.Common.{◌≡◌, Ok, ◌∙◌, sym, arith, rules}
use Rattle.lines.proofs.Tallies.{one_more, as_many, as_much_room}
use Rattle.lines.proofs.adding.tally.Goals as goal
use Rattle.lines.proofs.adding.tally.Goals.{then-is_new+else-prove, else-is_new}

pub prove-unreachable-requires : goal.prove-unreachable-requires
prove-unreachable-requires g c =
    let new : c.add_line-tallied.result ≡ Ok 1 = search rules in
    omega (arith, (one_more _ _ c.in-Some.line.now _ c.add_line-tallied.ensures new).0, c.loop-line.invariant.0, c.loop-line.invariant.1, c.if-prove.true)

pub loop-line-preserved : goal.loop-line-preserved
loop-line-preserved g c =
    let inv = c.loop-line.invariant in
    let done = c.add_line-tallied.ensures in
    let room = as_much_room _ _ c.in-Some.line.now _ done ∙ inv.1 in
    elim c.if-is_new.branch [
      | then-is_new+else-prove w ↦
          let new : c.add_line-tallied.result ≡ Ok 1 = search rules in
          (omega (arith, w.held-is, (one_more _ _ c.in-Some.line.now _ done new).1, inv.0), room)
      | else-is_new w ↦
          let old : c.add_line-tallied.result ≡ Ok 1 → ⊥ = search rules in
          (w.held-is ∙ inv.0 ∙ sym (as_many _ _ c.in-Some.line.now _ done old), room)
    ]
