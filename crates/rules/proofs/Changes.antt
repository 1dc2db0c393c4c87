-- The first action of a turn, or the first step of its pull, is a turn that ends on another board.
use Rattle.std.proofs.Common.{◌≡◌, ℕ, ◌≤◌, ◌≢◌, List, [], ◌∷◌, length, Some, None, sym, ◌∙◌, subst, arith}
use Rattle.board.specs.declared.pieces.Side.{Side}
use Rattle.board.specs.declared.pieces.Piece.{Piece}
use Rattle.board.specs.declared.board.Board.{Board}
use Rattle.board.specs.Cells.{cell}
use Rattle.rules.specs.Codes.{square}
use Rattle.rules.specs.Steps.{Step}
use Rattle.rules.specs.Actions.{Plain, Push, Reading, Turn}
use Rattle.rules.specs.Actions.Action.{plain, push, pull}
use Rattle.rules.specs.Actions.Reading.{done, act}
use Rattle.rules.specs.Theorems.{ChangeIsPossible}
use Rattle.rules.proofs.Pieces.{not_empty, not_both}

-- the square that a step left is empty
left_empty : {b b' : Board} {c : ℕ} → Step b c b' → cell b' (square c) ≡ None
left_empty {c = c} t = t.settles.kept (square c) (λ u. not_empty u.there t.moves.left) ∙ t.moves.left

-- the piece that finishes a push stood where it comes from before the push began
pusher_stood : {side : Side} {b b' : Board} {c d : ℕ} → (p : Push side b c d b') → cell b (square d) ≡ Some p.finishes.piece
pusher_stood {c = c} {d = d} p = sym (p.first.moves.others (square d) not_left not_target) ∙ there
  where
    there : cell p.first.moved (square d) ≡ Some p.finishes.piece
    there =
        let e = p.finishes.own.there in
        sym (p.first.settles.kept (square d) (λ u. not_empty e (p.first.settles.gone (square d) u))) ∙ e

    not_left : square d ≢ square c
    not_left e = not_empty there (rw e p.first.moves.left)

    not_target : square d ≢ p.first.target
    not_target e =
        not_both (record { there = sym p.first.moves.reached ∙ (rw e at there); mine = p.finishes.own.mine }) p.begins.enemy

-- a turn that ends on another board
abbrev Changing : Side → Board → Type 0
Changing side b = (ds : List ℕ) × (d : Board) × Turn side b ds d × (d ≡ b → ⊥)

differ : {b d : Board} {p : Piece} (s : ℕ) → cell b s ≡ Some p → cell d s ≡ None → d ≡ b → ⊥
differ {p = p} s e f g = not_empty e (subst (λ (x : Board). cell x s ≡ None) g f)

by_plain : {side : Side} {b d : Board} {c : ℕ} → Plain side b c d → Changing side b
by_plain {c = c} p = (
  c ∷ [],
  _,
  record { some = omega arith; few = omega arith; reading = act (plain p) done },
  differ (square c) p.own.there (left_empty p.step),
)

by_push : {side : Side} {b b' : Board} {c d : ℕ} → Push side b c d b' → Changing side b
by_push {c = c} {d = d} p = (
  c ∷ d ∷ [],
  _,
  record { some = omega arith; few = omega arith; reading = act (push p) done },
  differ (square d) (pusher_stood p) (left_empty p.second),
)

by_first : {side : Side} {b b' : Board} {cs : List ℕ} → Reading side b cs b' → 1 ≤ length cs → Changing side b
by_first done h = absurd (omega arith)
by_first (act (plain p) r) h = by_plain p
by_first (act (push p) r) h = by_push p
by_first (act (pull p) r) h = by_plain p.plain

pub change_is_possible : ChangeIsPossible
change_is_possible side b cs b' t = by_first t.reading t.some
