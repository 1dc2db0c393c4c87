use Rattle.std.proofs.Common.{◌≡◌, Some, sym, ap, ◌∙◌}
use Rattle.store.specs.Cells.{at}
use Rattle.store.specs.Probes.{cell, cells}
use Rattle.store.proofs.Probes.{at_cell, cell_now, passed_more}
use Rattle.store.proofs.table.Table.find.Goals as goal

pub loop-d-preserved : goal.loop-d-preserved
loop-d-preserved g c =
    let inv = c.loop-d.invariant in
    let gen = c.self.inside.generation in
    let held = c.in-Some.held in
    let i = c.place-i.result in
    let is : at (cells gen c.self.inside.nodes.now) i ≡ Some held.entry =
    at_cell gen c.self.inside.nodes.now i c.index-nodes-i.result c.place-i.ensures.below ∙ ap (cell gen) (sym c.index-nodes-i.is ∙ c.in-Some.is) ∙ cell_now gen held c.if-held-self.true in
    (inv.0, passed_more g.K.Key.equals g.K.SpreadKey.spreads _ _ _ _ _ _ c.spread.ensures.value c.place-i.ensures.value inv.1 held.entry.key held.entry.count is (sym c.if-same.ensures))
