use Rattle.std.proofs.Common.{◌≡◌, ◌<◌, length, get_or, Some, rules, sym, ap, subst, arith}
use Rattle.std.proofs.lemmas.List.{length-map}
use Rattle.store.specs.Cells.{Meets}
use Rattle.store.specs.Probes.{cell, Opens}
use Rattle.store.proofs.Cells.{kept_same, absent, held_all}
use Rattle.store.proofs.Probes.{nowhere, no_room, room, added, answered}
use Rattle.store.proofs.table.TableStore.add.Goals as goal

pub invariant_of-self : goal.invariant_of-self
invariant_of-self g c =
    let k = g.met.K.Key in
    let eq = g.K.Key.equals in
    let xs = c.self.inside.nodes.now in
    let m = subst (λ cs. Meets eq (length cs) cs c.args.key c.in-At.i c.in-At.field-1) (sym c.self.view_is) c.in-At.ensures.finds in
    let is : get_or xs c.in-At.i c.index-self-i.result ≡ Some c.unwrap.result.now = search rules in
    (answered eq g.K.SpreadKey.spreads k.symmetric k.transitive c.self.inside.generation xs c.self.inside.held c.self.invariant c.args.key c.in-At.i c.in-At.field-1 m c.index-self-i.result c.unwrap.result.now c.raise.new.self c.raise.result is c.raise.ensures).0

pub offset_bounds-self-inside-i-in-Open : goal.offset_bounds-self-inside-i-in-Open
offset_bounds-self-inside-i-in-Open g c =
    let l : c.in-Open.i < length c.self.inside.nodes.now =
    omega (arith, c.in-Open.ensures.finds.inside, ap length c.self.view_is, length-map c.self.inside.nodes.now (cell c.self.inside.generation)) in
    search rules

pub overflow_add-self : goal.overflow_add-self
overflow_add-self g c =
    let k = g.met.K.Key in
    let eq = g.K.Key.equals in
    let spread = g.K.SpreadKey.spreads in
    omega (
      arith,
      room eq spread k.symmetric k.transitive c.self.inside.generation c.self.inside.nodes.now c.self.inside.held c.self.invariant c.args.key c.in-Open.i
          (subst (λ cs. Opens eq spread (length cs) cs c.args.key c.in-Open.i) (sym c.self.view_is) c.in-Open.ensures.finds),
    )

pub invariant_of-self-in-Open : goal.invariant_of-self-in-Open
invariant_of-self-in-Open g c =
    let k = g.met.K.Key in
    let eq = g.K.Key.equals in
    let spread = g.K.SpreadKey.spreads in
    (added eq spread k.symmetric k.transitive c.self.inside.generation c.self.inside.nodes.now c.self.inside.held c.self.invariant c.args.key c.in-Open.i
    (subst (λ cs. Opens eq spread (length cs) cs c.args.key c.in-Open.i) (sym c.self.view_is) c.in-Open.ensures.finds)).0

pub returns-in-At : goal.returns-in-At
returns-in-At g c =
    let k = g.met.K.Key in
    let eq = g.K.Key.equals in
    let xs = c.self.inside.nodes.now in
    let m = subst (λ cs. Meets eq (length cs) cs c.args.key c.in-At.i c.in-At.field-1) (sym c.self.view_is) c.in-At.ensures.finds in
    let is : get_or xs c.in-At.i c.index-self-i.result ≡ Some c.unwrap.result.now = search rules in
    rw (← c.self.view_is)
    (answered eq g.K.SpreadKey.spreads k.symmetric k.transitive c.self.inside.generation xs c.self.inside.held c.self.invariant c.args.key c.in-At.i c.in-At.field-1 m c.index-self-i.result c.unwrap.result.now c.raise.new.self c.raise.result is c.raise.ensures).1

pub returns-in-Open : goal.returns-in-Open
returns-in-Open g c =
    let k = g.met.K.Key in
    let eq = g.K.Key.equals in
    let spread = g.K.SpreadKey.spreads in
    rw (← c.self.view_is)
    (added eq spread k.symmetric k.transitive c.self.inside.generation c.self.inside.nodes.now c.self.inside.held c.self.invariant c.args.key c.in-Open.i
    (subst (λ cs. Opens eq spread (length cs) cs c.args.key c.in-Open.i) (sym c.self.view_is) c.in-Open.ensures.finds)).1

pub returns-in-Nowhere : goal.returns-in-Nowhere
returns-in-Nowhere g c =
    let eq = g.K.Key.equals in
    let cs = c.args.self.now in
    let ok = c.in-Nowhere.ensures.sound in
    let round = c.in-Nowhere.ensures.finds in (
      absent eq cs c.args.key (nowhere eq g.K.SpreadKey.spreads cs _ ok c.args.key round),
      held_all cs (no_room eq g.K.SpreadKey.spreads cs _ ok c.args.key round),
      kept_same _,
    )
