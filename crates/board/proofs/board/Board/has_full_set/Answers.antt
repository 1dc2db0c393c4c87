use Rattle.std.proofs.Common.{◌≡◌, eqb, Bool, rules, tests}
use Rattle.std.specs.List.{list_all}
use Rattle.std.proofs.lemmas.Bool.Decides.{Decides-at, Decides-eqb}
use Rattle.std.proofs.lemmas.Iterator.{YieldsList-from_slice}
use Rattle.std.proofs.lemmas.Iterator.Search.{all_from_yields_List}
use Rattle.board.specs.declared.pieces.Kind.{Kind}
use Rattle.board.specs.Pieces.{full}
use Rattle.board.specs.Counts.{count_of}
use Rattle.board.proofs.EachKind.{kinds, all_decides}
use Rattle.board.proofs.board.Board.has_full_set.Goals as goal

pub returns : goal.returns
returns c =
    let b = c.args.self in
    let side = c.args.side in
    let just : Kind → Bool = λ kind. eqb (count_of b side kind) (full kind) in
    let value : c.all.result ≡ list_all just kinds =
    all_from_yields_List just _ _ c.all.result c.all.ensures.ran (YieldsList-from_slice kinds cc) (λ x r q k. search (rules, tests)) in
    Decides-at _ _ value (all_decides just _ (λ kind. Decides-eqb (count_of b side kind) (full kind)))
