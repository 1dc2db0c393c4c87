-- Pieces on squares, and the strength of kinds.
use Rattle.std.proofs.Common.{◌≡◌, ℕ, ◌≤◌, Some, None, Option, sym, ap, ◌∙◌, arith}
use Rattle.board.specs.declared.pieces.Side.{Side}
use Rattle.board.specs.declared.pieces.Side.TheVariants.{Gold, Silver}
use Rattle.board.specs.declared.pieces.Kind.{Kind}
use Rattle.board.specs.declared.pieces.Kind.TheVariants.{Elephant, Camel, Horse, Dog, Cat, Rabbit}
use Rattle.board.specs.declared.pieces.Piece.{Piece}
use Rattle.board.specs.declared.board.Board.{Board}
use Rattle.board.specs.Pieces.{opponent, power, Stronger}
use Rattle.rules.specs.Steps.{Own, Enemy}

pub not_empty : {o : Option Piece} {p : Piece} → o ≡ Some p → o ≡ None → ⊥
not_empty e f = let z : ◌≡◌ {A = ℕ} 0 1 = cc in omega arith

pub one_piece : {o : Option Piece} {p q : Piece} → o ≡ Some p → o ≡ Some q → p ≡ q
one_piece e f = cc

not_opponent : (x : Side) → x ≡ opponent x → ⊥
not_opponent Gold e = let z : ◌≡◌ {A = ℕ} 0 1 = cc in omega arith
not_opponent Silver e = let z : ◌≡◌ {A = ℕ} 0 1 = cc in omega arith

-- no piece is own and an enemy
pub not_both : {side : Side} {b : Board} {s : ℕ} {p q : Piece} → Own side b s p → Enemy side b s q → ⊥
not_both {side = side} o e = not_opponent side (sym o.mine ∙ (ap (λ (x : Piece). x.side) (one_piece o.there e.there) ∙ e.theirs))

some_power : (k : Kind) → 1 ≤ power k
some_power Elephant = omega arith
some_power Camel = omega arith
some_power Horse = omega arith
some_power Dog = omega arith
some_power Cat = omega arith
some_power Rabbit = omega arith

-- what is stronger than something is no rabbit
pub no_rabbit : (j k : Kind) → Stronger j k → j ≡ Rabbit → ⊥
no_rabbit j k h e = let one : power j ≡ 1 = rw e in omega (arith, some_power k)
