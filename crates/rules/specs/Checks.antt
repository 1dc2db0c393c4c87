-- When a step is refused: the checks of each call on a half-made turn, in order.
use Rattle.std.specs.Prelude.{◌≡◌, ℕ, ◌≤◌, ◌⊎◌, List, [], ◌∷◌, Some, None}
use Rattle.board.specs.declared.pieces.Side.{Side}
use Rattle.board.specs.declared.pieces.Piece.{Piece}
use Rattle.board.specs.declared.pieces.Kind.TheVariants.{Rabbit}
use Rattle.board.specs.declared.board.Board.{Board}
use Rattle.board.specs.Cells.{cell}
use Rattle.board.specs.Standing.{Frozen}
use Rattle.board.specs.Refusals.{Check}
use Rattle.rules.specs.Codes.{square, direction, Goes, back}
use Rattle.rules.specs.Steps.{Own, Enemy}
use Rattle.rules.specs.Actions.{BeginsPush}
use Rattle.rules.specs.HalfTurns.{Half, NoPush, Ends, Finishes}
use Rattle.rules.specs.HalfTurns.Half.{half}

-- the checks that all calls share; each call says when too many steps are made, when a step is neither a push nor a pull,
-- and when a push stays unfinished
abbrev pub turn_checks : Side → Board → ℕ → Type 0 → Type 0 → Type 0 → List Check
turn_checks side b c many neither unfinished =
    -- the step leaves the board
    (12, (t : ℕ) → Goes c t → ⊥) ∷
    -- the square is empty
    (13, cell b (square c) ≡ None) ∷
    (14, many) ∷
    -- the target is occupied
    (15, (t : ℕ) × (p : Piece) × Goes c t × (cell b t ≡ Some p)) ∷
    (16, neither) ∷
    -- the own piece is frozen
    (17, (p : Piece) × Own side b (square c) p × Frozen b (square c)) ∷
    -- an own rabbit would step backward
    (18, (p : Piece) × Own side b (square c) p × (p.kind ≡ Rabbit) × (direction c ≡ back side)) ∷
    (19, unfinished) ∷
    []

-- an enemy piece would step, and ends no pull
abbrev pub Foreign : Side → Half → ℕ → Type 0
Foreign side (half b n o) c = (p : Piece) × Enemy side b (square c) p × (Ends side o b c → ⊥)

-- step: four steps are made; an enemy step ends no pull; a push is open
abbrev pub step_checks : Side → Half → ℕ → List Check
step_checks side (half b n o) c =
    turn_checks side b c (NoPush o × (4 ≤ n)) (NoPush o × Foreign side (half b n o) c) (NoPush o → ⊥)

-- begin push: three steps are made; the step begins no push; a push is open
abbrev pub begin_checks : Side → Half → ℕ → List Check
begin_checks side (half b n o) c =
    turn_checks side b c (NoPush o × (3 ≤ n)) (NoPush o × (BeginsPush side b c → ⊥)) (NoPush o → ⊥)

-- finish push: the step finishes no push that is open
abbrev pub finish_checks : Side → Half → ℕ → List Check
finish_checks side (half b n o) c = turn_checks side b c ⊥ ⊥ (Finishes side o b c → ⊥)

-- read: four steps are made, or three before an enemy step that ends no pull; an enemy step neither ends a pull nor begins a push;
-- a push is open that the step does not finish
abbrev pub read_checks : Side → Half → ℕ → List Check
read_checks side (half b n o) c =
    turn_checks side b c (NoPush o × ((4 ≤ n) ⊎ ((3 ≤ n) × Foreign side (half b n o) c)))
    (NoPush o × Foreign side (half b n o) c × (BeginsPush side b c → ⊥)) ((NoPush o → ⊥) × (Finishes side o b c → ⊥))
