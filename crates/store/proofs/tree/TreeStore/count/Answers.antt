use Rattle.store.specs.Trees.{cells}
use Rattle.store.proofs.Cells.{told}
use Rattle.store.proofs.Trees.{sought_count}
use Rattle.store.proofs.tree.TreeStore.count.Goals as goal

pub returns : goal.returns
returns g c =
    let k = g.met.K.Key in
    let xs = c.args.self.now.1 in
    rw c.count.ensures
    (told g.K.Key.equals k.symmetric k.transitive (cells xs) c.args.key.now _
    (sought_count g.K.Key.equals g.K.OrderedKey.orders xs k.reflexive _ c.args.key.now _ c.seek.ensures.grown c.seek.result c.seek.ensures.seeks))
