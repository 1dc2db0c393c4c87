use Rattle.std.proofs.Common.{ℕ, ◌<◌, Bool, true, false, List, [], ◌∷◌, get_or, Decides, MatchBool, refl, zero-le, arith, rules, tests}
use Rattle.std.specs.List.{AllWithin, HoldsAt}
use Rattle.std.proofs.lemmas.Iterator.{cases_from_any, YieldsList-from_slice}
use Rattle.board.specs.declared.pieces.Side.{Side}
use Rattle.board.specs.declared.pieces.Side.TheVariants.{Gold, Silver}
use Rattle.board.specs.declared.pieces.Kind.{Kind}
use Rattle.board.specs.declared.board.Board.{Board}
use Rattle.board.specs.Pieces.{full}
use Rattle.board.specs.Counts.{count_of}
use Rattle.position.proofs.position.exceeds_full_set.Goals as goal

abbrev Over : Board → Side → Type 0
Over b side = (kind : Kind) × (full kind < count_of b side kind)

abbrev sides : List Side
sides = Gold ∷ Silver ∷ []

some_over : (b : Board) (r : Bool) → MatchBool r ((k : ℕ) × (k < 2) × HoldsAt (Over b) sides k) (AllWithin (λ side. Over b side → ⊥) sides 0 2)
    → Decides r ((side : Side) × (kind : Kind) × (full kind < count_of b side kind))
some_over b true h = ((λ t. let over = h.2 Gold in (get_or sides h.0 Gold, over.0, over.1)), (λ some. refl))
some_over b false h = ((λ t. cc), (λ some. absurd (neither some.0 (some.1, some.2))))
  where
    neither : (side : Side) → Over b side → ⊥
    neither Gold = h 0 Gold zero-le (omega arith)
    neither Silver = h 1 Gold zero-le (omega arith)

pub returns : goal.returns
returns c =
    let b = c.args.board in
    some_over b _
    (cases_from_any _ _ c.any.result (Over b) (λ side. Over b side → ⊥) c.any.ensures.ran (YieldsList-from_slice sides cc) (λ x q k. search (rules, tests))
    (λ x q k. search (rules, tests)))
