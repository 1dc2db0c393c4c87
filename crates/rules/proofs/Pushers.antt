-- The pieces next to a square that can push, by the squares of its neighbours.
use Rattle.std.proofs.Common.{◌≡◌, ℕ, zero, suc, ◌+◌, ◌<◌, ◌≤◌, ◌≢◌, Bool, true, [], ◌∷◌, length, get_or, Option, MatchOption, Decides, MatchBool, refl, sym, ap, ◌∙◌, arith}
use native.Mathlib.Decide.{ℕ_discrete}
use Rattle.std.specs.List.{All, AllWithin, HoldsAt, Contains}
use Rattle.std.proofs.lemmas.Bool.Decides.{when_true}
use Rattle.std.proofs.lemmas.List.Elements.{All-nil, All-cons, All-weaker, All-get_or, Contains-append_right}
use Rattle.std.proofs.lemmas.Iterator.Search.{true_from_Any}
use Rattle.std.proofs.lemmas.Iterator.{YieldsList}
use Rattle.std.proofs.lemmas.Iterator.Consumers.{YieldsList-from_shown}
use Rattle.bits.specs.declared.square.Square.{Square}
use Rattle.bits.specs.declared.plane.Plane.{Plane}
use Rattle.bits.specs.declared.plane.squares.Squares.{Squares}
use Rattle.bits.specs.Digits.{pick, chosen}
use Rattle.bits.specs.Planes.{on, squares}
use Rattle.bits.specs.Squares.{Next}
use Rattle.bits.proofs.Same.{on_lt}
use Rattle.board.specs.declared.pieces.Side.{Side}
use Rattle.board.specs.declared.pieces.Kind.{Kind}
use Rattle.board.specs.declared.board.Board.{Board}
use Rattle.board.proofs.Holding.{on_board}
use Rattle.rules.specs.Actions.{CanPush, Pusher}

module _ (f : ℕ → ℕ) where
  -- each place that is chosen is a place of f that is not 0
  chosen_all : (s w : ℕ) → All (λ k. (k < s + w) × (f k ≢ 0)) (chosen f s w)
  unfolding chosen
  chosen_all s zero = All-nil _
  chosen_all s (suc w) =
      go (f s) refl (All-weaker (λ k. (k < suc s + w) × (f k ≢ 0)) (λ k. (k < s + suc w) × (f k ≢ 0)) (λ k h. (omega arith, h.1)) (chosen f (suc s) w) (chosen_all (suc s) w))
    where
      go : (d : ℕ) → f s ≡ d → All (λ k. (k < s + suc w) × (f k ≢ 0)) (chosen f (suc s) w) → All (λ k. (k < s + suc w) × (f k ≢ 0)) (pick d (s ∷ chosen f (suc s) w) (chosen f (suc s) w))
      go zero e rest = rest
      go (suc d) e rest = All-cons (λ k. (k < s + suc w) × (f k ≢ 0)) s (chosen f (suc s) w) (omega arith, λ z. omega arith) rest

  -- and each such place is chosen
  chosen_contains : (s w k : ℕ) → s ≤ k → k < s + w → f k ≢ 0 → Contains (chosen f s w) k
  unfolding chosen
  chosen_contains s zero k a b n = absurd (omega arith)
  chosen_contains s (suc w) k a b n =
      go (f s) refl (ℕ_discrete s k) (λ g. chosen_contains (suc s) w k (omega (arith, g)) (omega arith) n)
    where
      go : (d : ℕ) → f s ≡ d → Dec (s ≡ k) → (s ≢ k → Contains (chosen f (suc s) w) k) → Contains (pick d (s ∷ chosen f (suc s) w) (chosen f (suc s) w)) k
      go zero e (yes g) rest = absurd (n (ap f (sym g) ∙ e))
      go (suc d) e (yes g) rest = (0, omega arith, g)
      go zero e (no g) rest = rest g
      go (suc d) e (no g) rest = Contains-append_right (s ∷ []) (chosen f (suc s) w) k (rest g)

-- how `squares` goes on
abbrev pub goes_on : Squares → Option Square → Squares → Type 0
goes_on s r t = MatchOption r (squares s.rest ≡ []) (λ q. squares s.rest ≡ q.number ∷ squares t.rest)

-- and so it gives each square of the plane
pub gives_squares : (s : Squares) → YieldsList goes_on (λ q. q.number) s (squares s.rest)
gives_squares = YieldsList-from_shown goes_on (λ q. q.number) (λ s. squares s.rest) (λ s t h. ap length h) (λ s x t h. h)

-- whether a square next to s has a piece that can push, by a look at each such square
pub pusher_decides : (side : Side) (b : Board) (s : ℕ) (kind : Kind) (p : Plane) (r : Bool) → ((k : ℕ) → k < 64 → (on p k ≡ 1 → Next s k) × (Next s k → on p k ≡ 1))
    → MatchBool r ((i : ℕ) × (i < length (squares p)) × HoldsAt (λ k. CanPush side b k kind) (squares p) i) (AllWithin (λ k. CanPush side b k kind → ⊥) (squares p) 0 (length (squares p)))
    → Decides r (Pusher side b s kind)
pusher_decides side b s kind p r near looked = (some, all)
  where
    some : r ≡ true → Pusher side b s kind
    some e =
        let h = when_true _ _ e looked in
        let k = get_or (squares p) h.0 0 in
        let c : (k < 64) × (on p k ≢ 0) = All-get_or (λ k. (k < 64) × (on p k ≢ 0)) (squares p) h.0 0 h.1 (chosen_all (on p) 0 64) in
        let l : k < 64 = omega (arith, c.0) in
        record { place = k; near = (near k l).0 (omega (arith, on_lt p k, c.1)); able = h.2 0 }

    all : Pusher side b s kind → r ≡ true
    all q =
        let l = on_board b q.place q.able.piece q.able.own.there in
        let o = (near q.place l).1 q.near in
        true_from_Any (λ k. CanPush side b k kind) (λ k. CanPush side b k kind → ⊥) r (squares p) (λ x y z. z y) looked q.place
        (chosen_contains (on p) 0 64 q.place (omega arith) (omega arith) (λ z. omega arith)) q.able
