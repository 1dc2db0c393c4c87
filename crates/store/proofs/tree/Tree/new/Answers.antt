use Rattle.std.proofs.Common.{length, refl, subst, arith}
use Rattle.store.specs.Trees.{Grown}
use Rattle.store.proofs.Trees.{emptied}
use Rattle.store.proofs.tree.Tree.new.Goals as goal

pub invariant_of-result : goal.invariant_of-result
invariant_of-result g c = ((emptied g.K.Key.equals g.K.OrderedKey.orders c.vacate.new.nodes _ refl c.vacate.ensures.free).0, omega arith)

pub returns-clause-grown : goal.returns-clause-grown
returns-clause-grown g c =
    let xs = c.vacate.new.nodes in
    let grown = (emptied g.K.Key.equals g.K.OrderedKey.orders xs _ refl c.vacate.ensures.free).0 in
    subst (Grown g.K.Key.equals g.K.OrderedKey.orders xs (length xs)) grown.holding.number grown

pub returns-clause-empty : goal.returns-clause-empty
returns-clause-empty g c = (emptied g.K.Key.equals g.K.OrderedKey.orders c.vacate.new.nodes _ c.vacate.ensures.size c.vacate.ensures.free).1
