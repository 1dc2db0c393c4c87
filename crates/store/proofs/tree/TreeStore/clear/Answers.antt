use Rattle.std.proofs.Common.{sym, refl, ap, ◌∙◌, length, arith}
use Rattle.std.proofs.lemmas.List.{length-map}
use Rattle.store.specs.Trees.{cells}
use Rattle.store.proofs.Trees.{emptied}
use Rattle.store.proofs.tree.TreeStore.clear.Goals as goal

pub invariant_of-self : goal.invariant_of-self
invariant_of-self g c = ((emptied g.K.Key.equals g.K.OrderedKey.orders c.vacate.new.nodes _ refl c.vacate.ensures.free).0, omega arith)

pub returns : goal.returns
returns g c =
    (emptied g.K.Key.equals g.K.OrderedKey.orders c.vacate.new.nodes _
    (c.vacate.ensures.size ∙ sym (length-map c.self.inside.nodes.now (λ x. x.entry)) ∙ ap (λ t. length (cells t.1)) c.self.view_is) c.vacate.ensures.free).1
