use Rattle.std.proofs.Common.{◌≡◌}
use Rattle.store.specs.Trees.{follow, walk, Comes, Passes}
use Rattle.store.proofs.tree.Tree.seek.Given as goal

abbrev pub invariant-loop : goal.invariant-loop
invariant-loop g l =
    let xs = l.self-inside.nodes.now in
    let root = follow xs l.self-inside.root in
    (follow xs l.link ≡ walk g.K.OrderedKey.orders xs root l.key l.counter)
    × Comes g.K.Key.equals g.K.OrderedKey.orders xs root l.key l.counter l.spot
    × Passes g.K.Key.equals g.K.OrderedKey.orders xs root l.key l.counter
