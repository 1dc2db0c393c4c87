-- The checks of a position, from those of its board.
use Rattle.std.proofs.Common.{◌≡◌, ℕ, ◌<◌, false, eqb, List, sym, subst, ⊎_elim, arith}
use Rattle.std.proofs.lemmas.Bool.{cases_eq}
use Rattle.std.proofs.lemmas.Bool.Decides.{nat_tests, when_false}
use Rattle.board.specs.declared.pieces.Side.{Side}
use Rattle.board.specs.declared.pieces.Side.TheVariants.{Gold, Silver}
use Rattle.board.specs.Pieces.{side_number}
use Rattle.board.specs.Refusals.{FirstHit}
use Rattle.board.specs.Reading.{board_checks, position_checks}

-- a side of the game has a number below two
pub side_small : (side : Side) (n : ℕ) → side_number side ≡ n → 1 < n → ⊥
side_small Gold n e h = omega arith
side_small Silver n e h = omega arith

apart : (a n : ℕ) → (n ≡ a → ⊥) → eqb a n ≡ false
apart a n ne = grind (arith, nat_tests)

-- the first check of the board that hits is the first of the position, if its side number is good
pub board_hit : (letters : List ℕ) (side n : ℕ) → (1 < side → ⊥) → FirstHit (board_checks letters) n → FirstHit (position_checks letters side) n
board_hit letters side n small h =
    ⊎_elim
    (λ (e : n ≡ 6). subst (FirstHit (position_checks letters side)) (sym e) (subst (FirstHit (board_checks letters)) e h))
    (λ (ne : n ≡ 6 → ⊥).
    ⊎_elim
    (λ (e : n ≡ 8). let g = subst (FirstHit (board_checks letters)) e h in subst (FirstHit (position_checks letters side)) (sym e) (g.0, (small, g.1)))
    (λ (ne8 : n ≡ 8 → ⊥). let rest = when_false _ _ (apart 6 n ne) h in absurd ((when_false _ _ (apart 8 n ne8) rest.1).1))
    (cases_eq n 8))
    (cases_eq n 6)
