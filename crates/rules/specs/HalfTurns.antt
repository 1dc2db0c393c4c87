-- A turn in the making, taken code by code: what is remembered between two steps, and which codes are taken.
use Rattle.std.specs.Prelude.{ℕ, ◌+◌, ◌<◌, ◌≤◌, List, [], ◌∷◌}
use Rattle.board.specs.declared.pieces.Side.{Side}
use Rattle.board.specs.declared.pieces.Kind.{Kind}
use Rattle.board.specs.declared.board.Board.{Board}
use Rattle.board.specs.Standing.{Frozen}
use Rattle.rules.specs.declared.pending.Pending.{Pending}
use Rattle.rules.specs.declared.pending.Pending.TheVariants.{Nothing, Pull, Push}
use Rattle.rules.specs.declared.half_turn.HalfTurn.{HalfTurn}
use Rattle.rules.specs.Codes.{square}
use Rattle.rules.specs.Steps.{Step}
use Rattle.rules.specs.Actions.{Plain, BeginsPush, FinishesPush, EndsPull}

-- what the last step left open: nothing; a possible pull into the square it left, by a piece of that kind;
-- or a push of a piece of that kind from the square it left
pub data Open : Type 0 where
  nothing : Open
  pull_possible : ℕ → Kind → Open
  push_open : ℕ → Kind → Open

-- a half-made turn: the board, the number of steps made, and what is open
pub data Half : Type 0 where
  half : Board → ℕ → Open → Half

abbrev pub opened : Pending → Open
opened Nothing = nothing
opened (Pull s k) = pull_possible s.number k
opened (Push s k) = push_open s.number k

-- the half-made turn that the record holds
abbrev pub half_of : HalfTurn → Half
half_of h = half h.board h.steps (opened h.pending)

-- no push is open
abbrev pub NoPush : Open → Type 0
NoPush nothing = Unit {0}
NoPush (pull_possible s k) = Unit {0}
NoPush (push_open s k) = ⊥

-- the code's step ends the pull that is possible
abbrev pub Ends : Side → Open → Board → ℕ → Type 0
Ends side nothing b c = ⊥
Ends side (pull_possible s k) b c = EndsPull side s k b c
Ends side (push_open s k) b c = ⊥

-- the code's step finishes the push that is open
abbrev pub Finishes : Side → Open → Board → ℕ → Type 0
Finishes side nothing b c = ⊥
Finishes side (pull_possible s k) b c = ⊥
Finishes side (push_open s k) b c = FinishesPush side s k b c

-- a step that is a plain one, with no push open, makes a pull possible
pub data StepsPlain (side : Side) : Half → ℕ → Half → Type 0 where
  steps : {b b' : Board} {n : ℕ} {o : Open} {c : ℕ} → n < 4 → NoPush o → (p : Plain side b c b')
      → StepsPlain side (half b n o) c (half b' (n + 1) (pull_possible (square c) p.piece.kind))

-- a step that ends the pull that is possible
pub data StepsPull (side : Side) : Half → ℕ → Half → Type 0 where
  ends : {b b' : Board} {n : ℕ} {o : Open} {c : ℕ} → n < 4 → Ends side o b c → Step b c b'
      → StepsPull side (half b n o) c (half b' (n + 1) nothing)

-- a step that begins a push, with no push open; a push takes two steps
pub data StepsPush (side : Side) : Half → ℕ → Half → Type 0 where
  begins : {b b' : Board} {n : ℕ} {o : Open} {c : ℕ} → n < 3 → NoPush o → (p : BeginsPush side b c) → Step b c b'
      → StepsPush side (half b n o) c (half b' (n + 1) (push_open (square c) p.piece.kind))

-- a step that finishes the push that is open
pub data StepsAfter (side : Side) : Half → ℕ → Half → Type 0 where
  finishes : {b b' : Board} {n : ℕ} {o : Open} {c : ℕ} → Finishes side o b c → (Frozen b (square c) → ⊥) → Step b c b'
      → StepsAfter side (half b n o) c (half b' (n + 1) nothing)

-- the code's step would end a pull
abbrev pub CouldEnd : Side → Half → ℕ → Type 0
CouldEnd side (half b n o) c = Ends side o b c

-- how a half-made turn reads one code: an enemy step that can end a pull is that, else it begins a push
pub data Takes (side : Side) (x : Half) (c : ℕ) (y : Half) : Type 0 where
  plain : StepsPlain side x c y → Takes side x c y
  pull : StepsPull side x c y → Takes side x c y
  push : (CouldEnd side x c → ⊥) → StepsPush side x c y → Takes side x c y
  after : StepsAfter side x c y → Takes side x c y

-- reading one code after another
pub data Runs (side : Side) : Half → List ℕ → Half → Type 0 where
  stay : {x : Half} → Runs side x [] x
  take : {x : Half} {c : ℕ} {y z : Half} {cs : List ℕ} → Takes side x c y → Runs side y cs z → Runs side x (c ∷ cs) z

-- the turn's start
abbrev pub start : Board → Half
start b = half b 0 nothing

-- all codes are read from the turn's start, at least one, and no push is left open
pub record ReadsWhole (side : Side) (b : Board) (cs : List ℕ) (b' : Board) : Type 0 where
  pub made : ℕ
  pub left : Open
  pub some : 1 ≤ made
  pub closed : NoPush left
  pub runs : Runs side (start b) cs (half b' made left)
