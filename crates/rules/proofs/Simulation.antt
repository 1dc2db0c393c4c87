-- From a turn to its reading code by code: the half-made turn is always on the board of the actions, with as many steps.
use Rattle.std.proofs.Common.{◌≡◌, ℕ, ◌+◌, ◌<◌, ◌≤◌, List, ◌∷◌, length, arith}
use Rattle.board.specs.declared.pieces.Side.{Side}
use Rattle.board.specs.declared.board.Board.{Board}
use Rattle.rules.specs.Actions.{Plain, Push, Reading, Turn}
use Rattle.rules.specs.Actions.Action.{plain, push, pull}
use Rattle.rules.specs.Actions.Reading.{done, act}
use Rattle.rules.specs.HalfTurns.{Open, NoPush, Ends, Takes, Runs, ReadsWhole}
use Rattle.rules.specs.HalfTurns.Open.{nothing}
use Rattle.rules.specs.HalfTurns.Half.{half}
use Rattle.rules.specs.HalfTurns.StepsPlain.{steps}
use Rattle.rules.specs.HalfTurns.StepsPull.{ends as steps-pull}
use Rattle.rules.specs.HalfTurns.StepsPush.{begins}
use Rattle.rules.specs.HalfTurns.StepsAfter.{finishes}
use Rattle.rules.specs.HalfTurns.Takes.{plain as takes-plain, pull as takes-pull, push as takes-push, after as takes-after}
use Rattle.rules.specs.HalfTurns.Runs.{stay, take}
use Rattle.rules.proofs.Pieces.{no_rabbit}
use Rattle.rules.proofs.Decided.{ends}

-- the second step of a push is a plain step too
follows : {side : Side} {b b' : Board} {c d : ℕ} → (p : Push side b c d b') → Plain side p.between d b'
follows p =
    record {
      piece = p.finishes.piece;
      own = p.finishes.own;
      free = p.free;
      ahead = λ r _. no_rabbit p.finishes.piece.kind p.begins.piece.kind p.finishes.stronger r;
      step = p.second;
    }

-- from n steps, with o open, the codes are read, and no push is open at the end
abbrev Read : Side → Board → ℕ → Open → List ℕ → Board → Type 0
Read side b n o cs b' = (m : ℕ) × (l : Open) × (m ≡ n + length cs) × NoPush l × Runs side (half b n o) cs (half b' m l)

-- one code more in front
before : {side : Side} {b b₁ b' : Board} {n : ℕ} {o o₁ : Open} {c : ℕ} {cs : List ℕ}
    → Takes side (half b n o) c (half b₁ (n + 1) o₁) → Read side b₁ (n + 1) o₁ cs b' → Read side b n o (c ∷ cs) b'
before t r = (r.0, r.1, omega (arith, r.2), r.3, take t r.4)

-- a push, whether its first step is read as the end of a pull or as the beginning of a push
pushes : {side : Side} {b b' b'' : Board} {c d : ℕ} {cs : List ℕ} → (p : Push side b c d b') (n : ℕ) (o : Open) → NoPush o → n < 3
    → Dec (Ends side o b c) → ((l : Open) → NoPush l → Read side b' (n + 1 + 1) l cs b'') → Read side b n o (c ∷ d ∷ cs) b''
pushes p n o h f (yes e) rest =
    before (takes-pull (steps-pull (omega arith) e p.first)) (before (takes-plain (steps (omega arith) tt (follows p))) (rest _ tt))
pushes p n o h f (no g) rest =
    before (takes-push g (begins f h p.begins p.first))
    (before (takes-after (finishes p.finishes p.free p.second)) (rest nothing tt))

reads : (side : Side) {b b' : Board} {cs : List ℕ} → Reading side b cs b' → (n : ℕ) (o : Open) → NoPush o → n + length cs ≤ 4 → Read side b n o cs b'
reads side done n o h f = (n, o, omega arith, h, stay)
reads side (act (plain p) r) n o h f = before (takes-plain (steps (omega (arith, f)) h p)) (reads side r (n + 1) _ tt (omega (arith, f)))
reads side {b} (act (push {c = c} p) r) n o h f =
    pushes p n o h (omega (arith, f)) (ends side b o c p.begins.piece p.begins.enemy)
    (λ l q. reads side r (n + 1 + 1) l q (omega (arith, f)))
reads side (act (pull p) r) n o h f =
    before (takes-plain (steps (omega (arith, f)) h p.plain))
    (before (takes-pull (steps-pull (omega (arith, f)) p.ends p.second)) (reads side r (n + 1 + 1) nothing tt (omega (arith, f))))

pub turn_read : {side : Side} {b b' : Board} {cs : List ℕ} → Turn side b cs b' → ReadsWhole side b cs b'
turn_read {side} t =
    let r = reads side t.reading 0 nothing tt (omega arith) in
    record { made = r.0; left = r.1; some = omega (arith, t.some); closed = r.3; runs = r.4 }
