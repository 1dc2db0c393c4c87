-- A step leaves no unsupported piece, and removes at most one.
use Rattle.std.proofs.Common.{◌≡◌, ℕ, ◌≢◌, sym, ◌∙◌, subst, arith}
use native.Mathlib.Decide.{ℕ_discrete}
use Rattle.bits.specs.Squares.{Next}
use Rattle.board.specs.declared.pieces.Side.{Side}
use Rattle.board.specs.declared.board.Board.{Board}
use Rattle.board.specs.Cells.{cell}
use Rattle.board.specs.Standing.{FriendNext, Trap, Unsupported, Supported, Settled}
use Rattle.rules.specs.Codes.{square}
use Rattle.rules.specs.Steps.{Step, Removes}
use Rattle.rules.proofs.Going.{goes_next}
use Rattle.rules.proofs.Pieces.{not_empty}

-- no trap is next to a trap
traps_apart : (s k : ℕ) → Trap s → Trap k → Next s k → ⊥
traps_apart s k t u n = omega arith

-- no square is next to two traps
one_trap : (s k q : ℕ) → Trap s → Trap k → Next s q → Next k q → s ≡ k
one_trap s k q t u m n = omega arith

-- a friend that stands as before is one on the other board too
friend_on : {b d : Board} {s : ℕ} {side : Side} → (f : FriendNext b s side) → cell d f.place ≡ cell b f.place → FriendNext d s side
friend_on f e = record { place = f.place; piece = f.piece; near = f.near; there = e ∙ f.there; friend = f.friend }

settled_supported : {b b' : Board} → Settled b b' → Supported b'
settled_supported {b} t s u = still here
  where
    still : Unsupported b s → ⊥
    still v = not_empty u.there (t.gone s v)

    here : Unsupported b s
    here =
        record {
          trap = u.trap;
          piece = u.piece;
          there = sym (t.kept s still) ∙ u.there;
          alone = λ f. u.alone (friend_on f (t.kept f.place (λ v. traps_apart s f.place u.trap v.trap f.near)));
        }

pub step_supported : {b b' : Board} {c : ℕ} → Step b c b' → Supported b'
step_supported t = settled_supported t.settles

module _ (b : Board) (c : ℕ) (b' : Board) (supported : Supported b) (t : Step b c b') where
  -- a piece that the step removes stands next to the square that was left
  near_left : (s : ℕ) → Removes t s → (Next s (square c) → ⊥) → ⊥
  near_left s u far = supported s (record { trap = u.trap; piece = u.piece; there = sym stayed ∙ u.there; alone = alone })
    where
      not_target : s ≢ t.target
      not_target e = far (rw e (goes_next t.goes))

      not_left : s ≢ square c
      not_left e = not_empty u.there (rw e t.moves.left)

      stayed : cell t.moved s ≡ cell b s
      stayed = t.moves.others s not_left not_target

      alone : FriendNext b s u.piece.side → ⊥
      alone f =
          u.alone (friend_on f (t.moves.others f.place (λ e. far (subst (Next s) e f.near)) (λ e. not_empty f.there (rw e t.empty))))

  pub removes_at_most_one : (s k : ℕ) → Removes t s → Removes t k → s ≡ k
  removes_at_most_one s k u v = go (ℕ_discrete s k)
    where
      go : Dec (s ≡ k) → s ≡ k
      go (yes e) = e
      go (no f) = absurd (near_left s u (λ m. near_left k v (λ n. f (one_trap s k (square c) u.trap v.trap m n))))
