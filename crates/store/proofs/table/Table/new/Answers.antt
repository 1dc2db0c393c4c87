use Rattle.std.proofs.Common.{refl, subst}
use Rattle.store.specs.Probes.{cells, Sound}
use Rattle.store.proofs.Probes.{freed}
use Rattle.store.proofs.table.Table.new.Goals as goal

pub invariant_of-result : goal.invariant_of-result
invariant_of-result g c = (freed g.K.Key.equals g.K.SpreadKey.spreads 0 c.vacate.new.nodes _ refl c.vacate.ensures.free).0

pub returns-clause-sound : goal.returns-clause-sound
returns-clause-sound g c =
    let ys = c.vacate.new.nodes in
    let sound = (freed g.K.Key.equals g.K.SpreadKey.spreads 0 ys _ c.vacate.ensures.size c.vacate.ensures.free).0.1 in
    subst (Sound g.K.Key.equals g.K.SpreadKey.spreads (cells 0 ys)) sound.holding.number sound

pub returns-clause-empty : goal.returns-clause-empty
returns-clause-empty g c = (freed g.K.Key.equals g.K.SpreadKey.spreads 0 c.vacate.new.nodes _ c.vacate.ensures.size c.vacate.ensures.free).1
