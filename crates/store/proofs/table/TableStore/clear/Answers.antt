use Rattle.std.proofs.Common.{length, sym, refl, ap, ◌∙◌, arith}
use Rattle.std.proofs.lemmas.List.{length-map}
use Rattle.store.specs.Probes.{cell}
use Rattle.store.proofs.Probes.{freed, next_vacant, emptied}
use Rattle.store.proofs.table.TableStore.clear.Goals as goal

pub invariant_of-self : goal.invariant_of-self
invariant_of-self g c =
    let xs = c.self.inside.nodes.now in
    (emptied g.K.Key.equals g.K.SpreadKey.spreads _ xs _ refl (λ i. omega (arith, c.self.invariant.0 i)) (next_vacant _ c.self.inside.generation xs c.self.invariant.0 (omega arith))).0

pub returns-then-self-lt4294967295 : goal.returns-then-self-lt4294967295
returns-then-self-lt4294967295 g c =
    let xs = c.self.inside.nodes.now in
    (emptied g.K.Key.equals g.K.SpreadKey.spreads _ xs _ (sym (length-map xs (cell c.self.inside.generation)) ∙ ap length c.self.view_is) (λ i. omega (arith, c.self.invariant.0 i))
    (next_vacant _ c.self.inside.generation xs c.self.invariant.0 (omega arith))).1

pub invariant_of-self-2 : goal.invariant_of-self-2
invariant_of-self-2 g c = (freed g.K.Key.equals g.K.SpreadKey.spreads 0 c.vacate.new.nodes _ refl c.vacate.ensures.free).0

pub returns : goal.returns
returns g c =
    let size = c.vacate.ensures.size ∙ sym (length-map c.self.inside.nodes.now (cell c.self.inside.generation)) ∙ ap length c.self.view_is in
    (freed g.K.Key.equals g.K.SpreadKey.spreads 0 c.vacate.new.nodes _ size c.vacate.ensures.free).1
