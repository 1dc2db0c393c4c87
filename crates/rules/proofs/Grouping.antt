-- From codes that are read one by one to a turn: they are grouped into actions.
use Rattle.std.proofs.Common.{◌≡◌, ℕ, ◌+◌, ◌≤◌, List, ◌∷◌, length, refl, arith}
use Rattle.board.specs.declared.pieces.Side.{Side}
use Rattle.board.specs.declared.board.Board.{Board}
use Rattle.rules.specs.Codes.{square}
use Rattle.rules.specs.Steps.{Step}
use Rattle.rules.specs.Actions.{Plain, BeginsPush, Reading, Turn}
use Rattle.rules.specs.Actions.Action.{plain, push, pull}
use Rattle.rules.specs.Actions.Reading.{done, act}
use Rattle.rules.specs.HalfTurns.{Open, Half, NoPush, Runs, ReadsWhole}
use Rattle.rules.specs.HalfTurns.Open.{nothing, pull_possible, push_open}
use Rattle.rules.specs.HalfTurns.Half.{half}
use Rattle.rules.specs.HalfTurns.StepsPlain.{steps}
use Rattle.rules.specs.HalfTurns.StepsPull.{ends}
use Rattle.rules.specs.HalfTurns.StepsPush.{begins}
use Rattle.rules.specs.HalfTurns.StepsAfter.{finishes}
use Rattle.rules.specs.HalfTurns.Takes.{plain as takes-plain, pull as takes-pull, push as takes-push, after as takes-after}
use Rattle.rules.specs.HalfTurns.Runs.{stay, take}

-- a reading of the codes that follow; after a step that left something open, of that step's code and them
abbrev Grouped : Side → Half → List ℕ → Board → Type 0
Grouped side (half b n nothing) cs b' = Reading side b cs b'
Grouped side (half b n (pull_possible s k)) cs b' =
    (b₀ : Board) (c : ℕ) → (p : Plain side b₀ c b) → square c ≡ s → p.piece.kind ≡ k → Reading side b₀ (c ∷ cs) b'
Grouped side (half b n (push_open s k)) cs b' =
    (b₀ : Board) (c : ℕ) → (p : BeginsPush side b₀ c) → Step b₀ c b → square c ≡ s → p.piece.kind ≡ k → Reading side b₀ (c ∷ cs) b'

-- with no push open the last step was plain, or ended an action
apart : {side : Side} {b b' : Board} (n : ℕ) (o : Open) {cs : List ℕ} → NoPush o → Reading side b cs b' → Grouped side (half b n o) cs b'
apart n nothing h r = r
apart n (pull_possible s k) h r = λ b₀ c p e f. act (plain p) r
apart n (push_open s k) h r = absurd h

grouped : {side : Side} {b b' : Board} {n m : ℕ} (o : Open) {l : Open} {cs : List ℕ} → Runs side (half b n o) cs (half b' m l) → NoPush l → Grouped side (half b n o) cs b'
grouped {n = n} o stay h = apart n o h done
grouped {b = b} {n = n} o (take {c = c} (takes-plain (steps f q p)) r) h = apart n o q (grouped _ r h b c p refl refl)
grouped {b = b} {n = n} o (take {c = c} (takes-push g (begins f q p t)) r) h = apart n o q (grouped _ r h b c p t refl refl)
grouped nothing (take (takes-pull (ends f e t)) r) h = absurd e
grouped (push_open s k) (take (takes-pull (ends f e t)) r) h = absurd e
grouped (pull_possible s k) (take (takes-pull (ends f d t)) r) h =
    λ b₀ c p e g. act (pull (record { between = _; plain = p; ends = rw (e, g) d; second = t })) (grouped _ r h)
grouped nothing (take (takes-after (finishes e f t)) r) h = absurd e
grouped (pull_possible s k) (take (takes-after (finishes e f t)) r) h = absurd e
grouped (push_open s k) (take (takes-after (finishes d f t)) r) h =
    λ b₀ c p u e g. act (push (record { between = _; begins = p; first = u; finishes = rw (e, g) d; free = f; second = t })) (grouped _ r h)

-- how many steps may have been made
abbrev most : Open → ℕ
most nothing = 4
most (pull_possible s k) = 4
most (push_open s k) = 3

closed_most : (o : Open) → NoPush o → most o ≡ 4
closed_most nothing h = refl
closed_most (pull_possible s k) h = refl
closed_most (push_open s k) h = absurd h

pub counted : {side : Side} {b b' : Board} {n m : ℕ} (o : Open) {l : Open} {cs : List ℕ} → Runs side (half b n o) cs (half b' m l) → n ≤ most o → (m ≤ most l) × (m ≡ n + length cs)
counted o stay f = (f, omega arith)
counted o (take (takes-plain (steps g q p)) r) f = let k = counted _ r (omega arith) in (k.0, omega arith)
counted o (take (takes-pull (ends g e t)) r) f = let k = counted _ r (omega arith) in (k.0, omega arith)
counted o (take (takes-push n (begins g q p t)) r) f = let k = counted _ r (omega arith) in (k.0, omega arith)
counted nothing (take (takes-after (finishes e g t)) r) f = absurd e
counted (pull_possible s k) (take (takes-after (finishes e g t)) r) f = absurd e
counted (push_open s k) (take (takes-after (finishes e g t)) r) f = let k = counted _ r (omega arith) in (k.0, omega arith)

pub read_turn : {side : Side} {b b' : Board} {cs : List ℕ} → ReadsWhole side b cs b' → Turn side b cs b'
read_turn p =
    let k = counted nothing p.runs (omega arith) in
    let four = closed_most p.left p.closed in
    record { some = omega arith; few = omega arith; reading = grouped nothing p.runs p.closed }
