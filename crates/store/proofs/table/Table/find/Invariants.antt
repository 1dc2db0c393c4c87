use Rattle.std.proofs.Common.{◌<◌, length}
use Rattle.store.specs.Probes.{cells, Passed}
use Rattle.store.proofs.table.Table.find.Given as goal

abbrev pub invariant-loop-d : goal.invariant-loop-d
invariant-loop-d g l = (l.home < length l.nodes) × Passed g.K.Key.equals (length l.nodes) (cells l.self-inside.generation l.nodes) l.key l.home l.d
