-- Whether an enemy step would end the pull that is possible can be decided.
use Rattle.std.proofs.Common.{ℕ, subst}
use mathlib.Core.Logic.Dec
use native.Mathlib.Decide.{dec_lt, ℕ_discrete, map_dec}
use Rattle.bits.specs.declared.direction.Direction.{Direction}
use Rattle.bits.specs.declared.direction.Direction.TheVariants.{North, East, South, West}
use Rattle.bits.specs.Squares.{Toward}
use Rattle.board.specs.declared.pieces.Side.{Side}
use Rattle.board.specs.declared.pieces.Piece.{Piece}
use Rattle.board.specs.declared.board.Board.{Board}
use Rattle.board.specs.Pieces.{power, Stronger}
use Rattle.rules.specs.Codes.{square, direction, Goes}
use Rattle.rules.specs.Steps.{Enemy}
use Rattle.rules.specs.HalfTurns.{Open, Ends}
use Rattle.rules.specs.HalfTurns.Open.{nothing, pull_possible, push_open}
use Rattle.rules.proofs.Pieces.{one_piece}

toward : (d : Direction) (s t : ℕ) → Dec (Toward d s t)
toward North s t = Dec.and (ℕ_discrete _ _) (ℕ_discrete _ _)
toward East s t = Dec.and (ℕ_discrete _ _) (ℕ_discrete _ _)
toward South s t = Dec.and (ℕ_discrete _ _) (ℕ_discrete _ _)
toward West s t = Dec.and (ℕ_discrete _ _) (ℕ_discrete _ _)

goes : (c t : ℕ) → Dec (Goes c t)
goes c t =
    map_dec (λ g. record { inside = g.0; toward = g.1 }) (λ g. (g.inside, g.toward))
    (Dec.and (dec_lt t 64) (toward (direction c) (square c) t))

-- where an enemy piece stands
pub ends : (side : Side) (b : Board) (o : Open) (c : ℕ) (q : Piece) → Enemy side b (square c) q → Dec (Ends side o b c)
ends side b nothing c q e = no (λ x. x)
ends side b (push_open s k) c q e = no (λ x. x)
ends side b (pull_possible s k) c q e =
    map_dec (λ h. record { piece = q; enemy = e; weaker = h.0; into = h.1 })
    (λ p. (subst (λ (x : Piece). Stronger k x.kind) (one_piece p.enemy.there e.there) p.weaker, p.into))
    (Dec.and (dec_lt (power q.kind) (power k)) (goes c s))
