-- Positions by their words.
use Rattle.std.proofs.Common.{◌≡◌, ◌==◌, Decides, sym, refl, ap, ◌∙◌, arith}
use Rattle.board.specs.declared.pieces.Side.{Side}
use Rattle.board.specs.declared.pieces.Side.TheVariants.{Gold, Silver}
use Rattle.board.specs.Pieces.{side_number}
use Rattle.board.specs.Cells.{SameSquares}
use Rattle.std.proofs.lemmas.Bool.Decides.{Decides-like, Decides-and, Decides-eqb}
use Rattle.board.proofs.Same.{planes_decide, squares_decide, words_same}
use Rattle.position.specs.Equality.{same_position}
use Rattle.keys.specs.Words.{same_words}
use Rattle.keys.proofs.Words.{words_self, words_is}
use Rattle.position.specs.declared.position.Position.{Position}
use Rattle.position.specs.Words.{position_words, ranked_words}

side_same : (a b : Side) → side_number a ≡ side_number b → a ≡ b
side_same Gold Gold e = refl
side_same Gold Silver e = absurd (omega arith)
side_same Silver Gold e = absurd (omega arith)
side_same Silver Silver e = refl

pub sides_decide : (a b : Side) → Decides (side_number a == side_number b) (a ≡ b)
sides_decide a b = Decides-like (side_number a == side_number b) (side_same a b) (ap side_number) (Decides-eqb (side_number a) (side_number b))

-- whether sides and planes are the same decides whether the positions are
pub position_decide : (p q : Position) → Decides (same_position p q) (p ≡ q)
position_decide p q =
    Decides-like (same_position p q) (λ e. λ i. record { board = e.1 i; side = e.0 i }) (λ e. (ap (λ (x : Position). x.side) e, ap (λ (x : Position). x.board) e))
    (Decides-and _ _ (sides_decide p.side q.side) (planes_decide p.board q.board))

-- and whether they agree in every square and the side
pub agreement_decide : (p q : Position) → Decides (same_position p q) (SameSquares p.board q.board × (p.side ≡ q.side))
agreement_decide p q =
    Decides-like (same_position p q) (λ e. (e.1, e.0)) (λ e. (e.1, e.0)) (Decides-and _ _ (sides_decide p.side q.side) (squares_decide p.board q.board))

-- equal words make equal positions
pub position_same : (p q : Position) → position_words p ≡ position_words q → p ≡ q
position_same p q e =
    let b = words_same p.board q.board (cc) in
    let s = side_same p.side q.side (cc) in
    λ i. record { board = b i; side = s i }

pub ranked_same : (p q : Position) → ranked_words p ≡ ranked_words q → position_words p ≡ position_words q
ranked_same p q e = cc

pub same_ranked : (p q : Position) → position_words p ≡ position_words q → ranked_words p ≡ ranked_words q
same_ranked p q e = ap ranked_words (position_same p q e)

-- the equality of keys tells equal positions
pub keys_decide : (p q : Position) → Decides (same_words (position_words p) (position_words q)) (p ≡ q)
keys_decide p q =
    (λ t. position_same p q (words_is (position_words p) (position_words q) t), λ e. ap (λ x. same_words (position_words p) (position_words x)) (sym e) ∙ words_self (position_words p))
