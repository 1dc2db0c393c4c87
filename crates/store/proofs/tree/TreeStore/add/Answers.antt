use Rattle.std.proofs.Common.{◌≡◌, ◌<◌, length, get_or, Some, None, Err, rules, sym, ap, ◌∙◌, subst, arith}
use Rattle.std.proofs.lemmas.List.{length-map}
use Rattle.store.specs.Views.{Adds}
use Rattle.store.specs.Cells.{seen, Meets}
use Rattle.store.specs.Trees.{cells, follow, Ends, Spares}
use Rattle.store.specs.declared.store.Refused.TheVariants.{Full}
use Rattle.store.proofs.Cells.{kept_same, absent, held_all}
use Rattle.store.proofs.Trees.{ended, lost, lost_full}
use Rattle.store.proofs.Growth.{add_root, add_left, add_right, answered}
use Rattle.store.proofs.tree.TreeStore.add.Goals as goal
use Rattle.store.proofs.tree.TreeStore.add.Goals.{in-Root, in-Left, in-Right}

pub offset_bounds-self-inside-i : goal.offset_bounds-self-inside-i
offset_bounds-self-inside-i g c =
    let l : c.in-At.i < length c.self.inside.nodes.now = omega (arith, c.in-At.ensures.seeks.inside, ap (λ t. length t.1) c.self.view_is) in
    search rules

pub invariant_of-self : goal.invariant_of-self
invariant_of-self g c =
    let k = g.met.K.Key in
    let eq = g.K.Key.equals in
    let xs = c.self.inside.nodes.now in
    let m = subst (λ t. Meets eq (length t.1) (cells t.1) c.args.key c.in-At.i c.in-At.field-1) (sym c.self.view_is) c.in-At.ensures.seeks in
    let is : (get_or xs c.in-At.i c.index-self-i.result).entry ≡ Some c.unwrap.result.now = search rules in
    let t = answered eq g.K.OrderedKey.orders k.reflexive k.symmetric k.transitive xs c.self.inside.root c.self.inside.held c.self.invariant.0 c.args.key c.in-At.i c.in-At.field-1 c.index-self-i.result m c.unwrap.result.now c.raise.new.self c.raise.result is c.raise.ensures in
    (t.0, omega (arith, c.self.invariant.1, t.1))

pub returns-in-Nowhere : goal.returns-in-Nowhere
returns-in-Nowhere g c =
    let eq = g.K.Key.equals in
    let ord = g.K.OrderedKey.orders in
    let xs = c.args.self.now.1 in
    let ok = c.in-Nowhere.ensures.grown in
    let all = c.in-Nowhere.ensures.seeks in (
      absent eq (cells xs) _ (lost eq ord xs g.met.K.Key.reflexive _ c.args.key _ ok all),
      lost_full eq ord xs g.met.K.Key.reflexive _ c.args.key _ ok all ∙ sym (length-map xs (λ x. x.entry)),
      kept_same _,
    )

pub returns-in_err-i-in-Open : goal.returns-in_err-i-in-Open
returns-in_err-i-in-Open g c =
    let eq = g.K.Key.equals in
    let ord = g.K.OrderedKey.orders in
    let xs = c.args.self.now.1 in
    let cs = cells c.args.self.now.1 in
    let end = c.in-Open.ensures.seeks in
    let e : c.from_residual.result ≡ Err Full = search rules in
    let no : c.spare.result ≡ None = search rules in
    let none = subst (Spares xs) no c.spare.ensures in
    subst (λ r. Adds eq (seen eq cs) (seen eq cs) c.args.key r) (sym e) (
      absent eq cs _ (ended eq ord xs g.met.K.Key.reflexive _ c.args.key _ c.in-Open.ensures.grown end.steps end.nothing end.passed),
      held_all cs (λ i l. none i (omega (arith, length-map xs (λ x. x.entry)))),
      kept_same _,
    )

pub offset_bounds-self-inside-i-in-Open : goal.offset_bounds-self-inside-i-in-Open
offset_bounds-self-inside-i-in-Open g c =
    let free : c.in_ok-i-in-Open.i < length c.args.self.now.1 = search rules in
    let l : c.in_ok-i-in-Open.i < length c.self.inside.nodes.now = omega (arith, free, ap (λ t. length t.1) c.self.view_is) in
    search rules

pub offset_bounds-self-inside-p : goal.offset_bounds-self-inside-p
offset_bounds-self-inside-p g c =
    let eq = g.K.Key.equals in
    let end = subst (λ l. Ends eq g.K.OrderedKey.orders c.args.self.now.1 (follow c.args.self.now.1 c.args.self.now.0) c.args.key l) c.in-Left.is c.in-Open.ensures.seeks in
    let l : c.in-Left.p < length c.self.inside.nodes.now = omega (arith, end.comes.inside, ap (λ t. length t.1) c.self.view_is) in
    search rules

pub offset_bounds-self-inside-p-in-Right : goal.offset_bounds-self-inside-p-in-Right
offset_bounds-self-inside-p-in-Right g c =
    let eq = g.K.Key.equals in
    let end = subst (λ l. Ends eq g.K.OrderedKey.orders c.args.self.now.1 (follow c.args.self.now.1 c.args.self.now.0) c.args.key l) c.in-Right.is c.in-Open.ensures.seeks in
    let l : c.in-Right.p < length c.self.inside.nodes.now = omega (arith, end.comes.inside, ap (λ t. length t.1) c.self.view_is) in
    search rules

pub invariant_of-self-in-Open : goal.invariant_of-self-in-Open
invariant_of-self-in-Open g c =
    let k = g.met.K.Key in
    let eq = g.K.Key.equals in
    let ord = g.K.OrderedKey.orders in
    let xs = c.self.inside.nodes.now in
    let root = c.self.inside.root in
    let q = c.args.key in
    let i = c.in_ok-i-in-Open.i in
    let some : c.spare.result ≡ Some i = search rules in
    let spare : Spares xs (Some i) = subst (λ t. Spares t.1 (Some i)) (sym c.self.view_is) (subst (Spares c.args.self.now.1) some c.spare.ensures) in
    let end : Ends eq ord xs (follow xs root) q c.in-Open.spot = subst (λ t. Ends eq ord t.1 (follow t.1 t.0) q c.in-Open.spot) (sym c.self.view_is) c.in-Open.ensures.seeks in
    elim c.match-spot.branch [
      | in-Root w ↦
          let t = add_root eq ord k.reflexive k.symmetric k.transitive xs root c.self.inside.held c.self.invariant.0 q i spare.0 spare.1 (subst (Ends eq ord xs (follow xs root) q) w.in-Root.is end) in
          rw (w.self-inside-is, c.default.ensures) (t.0, omega (arith, spare.0, t.1))
      | in-Left w ↦
          let t = add_left eq ord k.reflexive k.symmetric k.transitive xs root c.self.inside.held c.self.invariant.0 q i spare.0 spare.1 w.in-Left.p w.index-self-p.result (subst (Ends eq ord xs (follow xs root) q) w.in-Left.is end) in
          rw (w.self-inside-is, c.default.ensures) (t.0, omega (arith, spare.0, t.1))
      | in-Right w ↦
          let t = add_right eq ord k.reflexive k.symmetric k.transitive xs root c.self.inside.held c.self.invariant.0 q i spare.0 spare.1 w.in-Right.p w.index-self-p-in-Right.result (subst (Ends eq ord xs (follow xs root) q) w.in-Right.is end) in
          rw (w.self-inside-is, c.default.ensures) (t.0, omega (arith, spare.0, t.1))
    ]

pub returns-in-At : goal.returns-in-At
returns-in-At g c =
    let k = g.met.K.Key in
    let eq = g.K.Key.equals in
    let xs = c.self.inside.nodes.now in
    let m = subst (λ t. Meets eq (length t.1) (cells t.1) c.args.key c.in-At.i c.in-At.field-1) (sym c.self.view_is) c.in-At.ensures.seeks in
    let is : (get_or xs c.in-At.i c.index-self-i.result).entry ≡ Some c.unwrap.result.now = search rules in
    let t = answered eq g.K.OrderedKey.orders k.reflexive k.symmetric k.transitive xs c.self.inside.root c.self.inside.held c.self.invariant.0 c.args.key c.in-At.i c.in-At.field-1 c.index-self-i.result m c.unwrap.result.now c.raise.new.self c.raise.result is c.raise.ensures in
    rw (← c.self.view_is) t.2

pub returns-after-spot : goal.returns-after-spot
returns-after-spot g c =
    let k = g.met.K.Key in
    let eq = g.K.Key.equals in
    let ord = g.K.OrderedKey.orders in
    let xs = c.self.inside.nodes.now in
    let root = c.self.inside.root in
    let q = c.args.key in
    let i = c.in_ok-i-in-Open.i in
    let some : c.spare.result ≡ Some i = search rules in
    let spare : Spares xs (Some i) = subst (λ t. Spares t.1 (Some i)) (sym c.self.view_is) (subst (Spares c.args.self.now.1) some c.spare.ensures) in
    let end : Ends eq ord xs (follow xs root) q c.in-Open.spot = subst (λ t. Ends eq ord t.1 (follow t.1 t.0) q c.in-Open.spot) (sym c.self.view_is) c.in-Open.ensures.seeks in
    elim c.match-spot.branch [
      | in-Root w ↦
          let t = add_root eq ord k.reflexive k.symmetric k.transitive xs root c.self.inside.held c.self.invariant.0 q i spare.0 spare.1 (subst (Ends eq ord xs (follow xs root) q) w.in-Root.is end) in
          rw (← c.self.view_is, w.self-inside-is, c.default.ensures) t.2
      | in-Left w ↦
          let t = add_left eq ord k.reflexive k.symmetric k.transitive xs root c.self.inside.held c.self.invariant.0 q i spare.0 spare.1 w.in-Left.p w.index-self-p.result (subst (Ends eq ord xs (follow xs root) q) w.in-Left.is end) in
          rw (← c.self.view_is, w.self-inside-is, c.default.ensures) t.2
      | in-Right w ↦
          let t = add_right eq ord k.reflexive k.symmetric k.transitive xs root c.self.inside.held c.self.invariant.0 q i spare.0 spare.1 w.in-Right.p w.index-self-p-in-Right.result (subst (Ends eq ord xs (follow xs root) q) w.in-Right.is end) in
          rw (← c.self.view_is, w.self-inside-is, c.default.ensures) t.2
    ]
