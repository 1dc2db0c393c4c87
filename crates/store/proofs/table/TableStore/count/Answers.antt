use Rattle.store.proofs.Cells.{told}
use Rattle.store.proofs.Probes.{found_count}
use Rattle.store.proofs.table.TableStore.count.Goals as goal

pub returns : goal.returns
returns g c =
    let k = g.met.K.Key in
    rw c.count.ensures
    (told g.K.Key.equals k.symmetric k.transitive c.args.self.now c.args.key.now _ (found_count g.K.Key.equals g.K.SpreadKey.spreads c.args.self.now _ c.find.ensures.sound c.args.key.now _ c.find.ensures.finds))
