use Rattle.std.proofs.Common.{◌≡◌, ◌+◌, Some, None, not, position, rules}
use Rattle.std.specs.Prelude.{MatchOption}
use Rattle.store.specs.Cells.{is_held}
use Rattle.store.proofs.Trees.{spares_else}
use Rattle.store.proofs.tree.Tree.spare.Goals as goal

pub returns : goal.returns
returns g c =
    let xs = c.self.inside.nodes.now in
    let n = c.self.inside.next in
    let on : MatchOption c.first_free.result (c.map.result ≡ None) (λ d. c.map.result ≡ Some (n + d)) = search rules in
    let whole : MatchOption c.map.result (c.or_else.result ≡ position (λ x. not (is_held x.entry)) xs) (λ d. c.or_else.result ≡ Some d) = search rules in
    rw (← c.self.view_is) (spares_else xs n c.first_free.result c.map.result c.or_else.result c.first_free.ensures on whole)
