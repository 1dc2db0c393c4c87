-- What a run of codes says of turns.
use Rattle.std.proofs.Common.{◌≡◌, ℕ, zero, suc, ◌<◌, ◌≤◌, Bool, true, false, eqb, List, [], ◌∷◌, ◌++◌, length, get_or, take, MatchBool, sym, refl, ap, subst, le_of_suc-le-suc, not-suc-le-zero, arith}
use Rattle.board.specs.declared.pieces.Side.{Side}
use Rattle.board.specs.declared.pieces.Kind.{Kind}
use Rattle.board.specs.declared.board.Board.{Board}
use Rattle.board.specs.Refusals.{Check, NoneHits, FirstHit}
use Rattle.board.specs.Counts.{Lawful}
use Rattle.rules.specs.Steps.{Step}
use Rattle.rules.specs.Actions.{Turn}
use Rattle.rules.specs.HalfTurns.{Open, Half, NoPush, Takes, Runs, start}
use Rattle.rules.specs.HalfTurns.Open.{nothing, pull_possible, push_open}
use Rattle.rules.specs.HalfTurns.Half.{half}
use Rattle.rules.specs.HalfTurns.StepsPlain.{steps}
use Rattle.rules.specs.HalfTurns.StepsPull.{ends}
use Rattle.rules.specs.HalfTurns.StepsPush.{begins}
use Rattle.rules.specs.HalfTurns.StepsAfter.{finishes}
use Rattle.rules.specs.HalfTurns.Takes.{plain, pull, push, after}
use Rattle.rules.specs.HalfTurns.Runs.{stay, take as read}
use Rattle.rules.specs.Checks.{read_checks}
use Rattle.rules.proofs.Simulation.{turn_read}
use Rattle.rules.proofs.Grouping.{counted, read_turn}
use Rattle.rules.proofs.Determined.{takes_one, reads_one_way}
use Rattle.rules.proofs.Unchecked.{taken_is_unchecked}
use Rattle.rules.proofs.Lawful.{stays_lawful}

abbrev pub board_of : Half → Board
board_of (half b n o) = b

abbrev open_of : Half → Open
open_of (half b n o) = o

step_of : {side : Side} {x : Half} {c : ℕ} {y : Half} → Takes side x c y → Step (board_of x) c (board_of y)
step_of (plain (steps f q p)) = p.step
step_of (pull (ends f e t)) = t
step_of (push g (begins f q p t)) = t
step_of (after (finishes e f t)) = t

pub takes_lawful : (side : Side) (x y : Half) (c : ℕ) → Takes side x c y → Lawful (board_of x) → Lawful (board_of y)
takes_lawful side x y c t l = stays_lawful (board_of x) c (board_of y) l (step_of t)

-- the same run from the same start
pub runs_from : {side p : Side} {x y z : Half} {cs : List ℕ} → side ≡ p → x ≡ y → Runs side x cs z → Runs p y cs z
runs_from {p = p} {x = x} {z = z} {cs = cs} e f r = subst (λ (y : Half). Runs p y cs z) f (subst (λ (s : Side). Runs s x cs z) e r)

-- one code more
pub runs_more : {side : Side} {x y z : Half} {cs : List ℕ} {c : ℕ} → Runs side x cs y → Takes side y c z → Runs side x (cs ++ (c ∷ [])) z
runs_more stay t = read t stay
runs_more (read u r) t = read u (runs_more r t)

-- where a check hits first, not none does
hit_none : (cs : List Check) (n : ℕ) → FirstHit cs n → NoneHits cs → ⊥
hit_none [] n f h = f
hit_none (c ∷ cs) n f h = go (eqb c.0 n) (hit_none cs n) f
  where
    go : (x : Bool) → (FirstHit cs n → NoneHits cs → ⊥) → MatchBool x c.1 ((c.1 → ⊥) × FirstHit cs n) → ⊥
    go true rest a = h.0 a
    go false rest k = rest k.1 h.1

-- a run over all codes goes on where a run over some of them stopped
next_taken : {side : Side} (i : ℕ) (cs : List ℕ) {x y z : Half} → Runs side x (take i cs) y → Runs side x cs z → i < length cs → (v : Half) × Takes side y (get_or cs i 0) v
next_taken i [] r s h = absurd (not-suc-le-zero h)
next_taken zero (c ∷ cs) stay (read {y = v} t s) h = (v, t)
next_taken {side} (suc i) (c ∷ cs) {z = z} (read {y = v} t r) (read u s) h =
    next_taken i cs r (subst (λ (w : Half). Runs side w cs z) (takes_one u t) s) (le_of_suc-le-suc h)

open_push : (o : Open) → (NoPush o → ⊥) → (s : ℕ) × (k : Kind) × (o ≡ push_open s k)
open_push nothing f = absurd (f tt)
open_push (pull_possible s k) f = absurd (f tt)
open_push (push_open s k) f = (s, k, refl)

module _ (side : Side) (b : Board) (cs : List ℕ) where
  -- a code that is refused is in no turn
  pub refused_no_turn : (i n : ℕ) (y : Half) → Runs side (start b) (take i cs) y → i < length cs → FirstHit (read_checks side y (get_or cs i 0)) n
      → (d : Board) → Turn side b cs d → ⊥
  refused_no_turn i n y r h f d t =
      let v = next_taken i cs r (turn_read t).runs h in
      hit_none (read_checks side y (get_or cs i 0)) n f (taken_is_unchecked side y (get_or cs i 0) v.0 v.1)

  module _ (d : Board) (n : ℕ) (o : Open) (run : Runs side (start b) cs (half d n o)) where
    -- a run ends where a turn with these codes does
    pub ends_as : (e : Board) → Turn side b cs e → (d ≡ e) × NoPush o
    ends_as e t =
        let p = turn_read t in
        let same = reads_one_way side (start b) cs (half d n o) (half e p.made p.left) run p.runs in
        (ap board_of same, subst NoPush (sym (ap open_of same)) p.closed)

    pub whole_turn : 1 ≤ length cs → NoPush o → Turn side b cs d
    whole_turn some idle = read_turn (record { made = n; left = o; some = omega (arith, (counted nothing run (omega arith)).1); closed = idle; runs = run })

    pub half_push : (NoPush o → ⊥) → (n : ℕ) × (s : ℕ) × (k : Kind) × Runs side (start b) cs (half d n (push_open s k))
    half_push busy = let p = open_push o busy in (n, p.0, p.1, subst (λ (o : Open). Runs side (start b) cs (half d n o)) p.2 run)
