use Rattle.std.proofs.Common.{refl, arith, rules}
use Rattle.store.proofs.Trees.{free_more}
use Rattle.store.proofs.tree.vacate.Goals as goal
use Rattle.store.proofs.tree.vacate.Goals.{then-is_some+in-Some-1, then-is_some+in-None-1, else-is_some}

pub loop-node-preserved : goal.loop-node-preserved
loop-node-preserved g c =
    let xs = c.loop-node.nodes in
    let i = c.loop-node.node-index in
    elim c.if-is_some.branch [
      | then-is_some+in-Some-1 w ↦ rw w.nodes-is (free_more xs i _ refl (omega arith) c.loop-node.invariant)
      | then-is_some+in-None-1 w ↦ rw w.nodes-is (free_more xs i _ refl (omega arith) c.loop-node.invariant)
      | else-is_some w ↦ rw w.nodes-is (free_more xs i _ (search rules) (omega arith) c.loop-node.invariant)
    ]
