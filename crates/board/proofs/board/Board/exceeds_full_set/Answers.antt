use Rattle.std.proofs.Common.{◌≡◌, ltb, Bool, rules, tests}
use Rattle.std.specs.List.{list_any}
use Rattle.std.proofs.lemmas.Bool.Decides.{Decides-at, Decides-ltb}
use Rattle.std.proofs.lemmas.Iterator.{YieldsList-from_slice}
use Rattle.std.proofs.lemmas.Iterator.Search.{any_from_yields_List}
use Rattle.board.specs.declared.pieces.Kind.{Kind}
use Rattle.board.specs.Pieces.{full}
use Rattle.board.specs.Counts.{count_of}
use Rattle.board.proofs.EachKind.{kinds, any_decides}
use Rattle.board.proofs.board.Board.exceeds_full_set.Goals as goal

pub returns : goal.returns
returns c =
    let b = c.args.self in
    let side = c.args.side in
    let over : Kind → Bool = λ kind. ltb (full kind) (count_of b side kind) in
    let value : c.any.result ≡ list_any over kinds =
    any_from_yields_List over _ _ c.any.result c.any.ensures.ran (YieldsList-from_slice kinds cc) (λ x r q k. search (rules, tests)) in
    Decides-at _ _ value (any_decides over _ (λ kind. Decides-ltb (full kind) (count_of b side kind)))
