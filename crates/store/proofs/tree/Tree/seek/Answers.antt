use Rattle.std.proofs.Common.{◌≡◌, ◌+◌, ◌<◌, ◌≤◌, true, false, length, get_or, rules, Some, None, sym, ap, ◌∙◌, subst, arith}
use Rattle.store.specs.Cells.{is_held, at}
use Rattle.store.specs.Trees.{cells, follow, walk, Comes, Passes, taken, blank}
use Rattle.store.proofs.Trees.{at_entry, past_free, ends_at, turns_by, walk_more}
use Rattle.store.proofs.tree.Tree.seek.Goals as goal
use Rattle.store.proofs.tree.Tree.seek.Goals.{in-Less, in-Greater}

pub returns-in_default-clause-seeks : goal.returns-in_default-clause-seeks
returns-in_default-clause-seeks g c =
    let xs = c.self.inside.nodes.now in
    let free = ap (λ l. taken xs (follow xs l)) c.in_default.is ∙ past_free xs (length xs) (omega arith) in
    rw (← c.self.view_is) (ends_at g.K.Key.equals g.K.OrderedKey.orders xs _ c.args.key.now c.loop.counter c.loop.link c.loop.spot (omega arith) c.loop.invariant free)

pub returns-in_default-get-clause-seeks : goal.returns-in_default-get-clause-seeks
returns-in_default-get-clause-seeks g c =
    let xs = c.self.inside.nodes.now in
    let past : length xs ≤ c.in-Some.i = search rules in
    let free = ap (λ l. taken xs (follow xs l)) c.in-Some.is ∙ past_free xs c.in-Some.i past in
    rw (← c.self.view_is) (ends_at g.K.Key.equals g.K.OrderedKey.orders xs _ c.args.key.now c.loop.counter c.loop.link c.loop.spot (omega arith) c.loop.invariant free)

pub returns-in_default-entry-clause-seeks : goal.returns-in_default-entry-clause-seeks
returns-in_default-entry-clause-seeks g c =
    let xs = c.self.inside.nodes.now in
    let l : c.in-Some.i < length xs = search rules in
    let node : c.in-Some-get.node.now ≡ get_or xs c.in-Some.i blank = search rules in
    let none : at (cells xs) c.in-Some.i ≡ None = at_entry xs c.in-Some.i blank l ∙ ap (λ n. n.entry) (sym node) ∙ c.in_default-entry.is in
    let free = ap (λ l. taken xs (follow xs l)) c.in-Some.is ∙ ap is_held none in
    rw (← c.self.view_is) (ends_at g.K.Key.equals g.K.OrderedKey.orders xs _ c.args.key.now c.loop.counter c.loop.link c.loop.spot (omega arith) c.loop.invariant free)

pub loop-preserved : goal.loop-preserved
loop-preserved g c =
    let eq = g.K.Key.equals in
    let ord = g.K.OrderedKey.orders in
    let k = g.met.K.Key in
    let xs = c.self.inside.nodes.now in
    let root = follow xs c.self.inside.root in
    let q = c.args.key.now in
    let i = c.in-Some.i in
    let d = c.loop.counter in
    let inv = c.loop.invariant in
    let e = c.in-Some-entry.entry in
    let l : c.in-Some.i < length xs = search rules in
    let node : c.in-Some-get.node.now ≡ get_or xs c.in-Some.i blank = search rules in
    let is : at (cells xs) i ≡ Some e = at_entry xs i blank l ∙ ap (λ n. n.entry) (sym node) ∙ c.in-Some-entry.is in
    let come : i ≡ walk ord xs root q d = ap (follow xs) (sym c.in-Some.is) ∙ inv.0 in
    elim c.match-compare.branch [
      | in-Less w ↦
          let t = turns_by eq ord xs k.symmetric q i e.key e.count true is w.in-Less.ensures.alike w.in-Less.ensures.tied in
          let st = walk_more eq ord xs k.reflexive root q d i true come l t inv.2 in
          (ap (follow xs) (w.link-is ∙ ap (λ n. n.left) node) ∙ st.0, subst (λ s. Comes eq ord xs root q (d + 1) s) (sym w.spot-is) st.1, st.2)
      | in-Greater w ↦
          let t = turns_by eq ord xs k.symmetric q i e.key e.count false is w.in-Greater.ensures.alike w.in-Greater.ensures.tied in
          let st = walk_more eq ord xs k.reflexive root q d i false come l t inv.2 in
          (ap (follow xs) (w.link-is ∙ ap (λ n. n.right) node) ∙ st.0, subst (λ s. Comes eq ord xs root q (d + 1) s) (sym w.spot-is) st.1, st.2)
    ]

pub returns-clause-seeks : goal.returns-clause-seeks
returns-clause-seeks g c =
    let xs = c.self.inside.nodes.now in
    let root = follow xs c.self.inside.root in
    let end : c.loop.counter ≡ length xs = omega arith in
    rw (← c.self.view_is) (subst (λ d. Passes g.K.Key.equals g.K.OrderedKey.orders xs root c.args.key.now d) end c.loop.invariant.2)
