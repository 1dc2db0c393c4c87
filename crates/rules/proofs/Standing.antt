-- Tests of the piece on a square.
use Rattle.std.proofs.Common.{◌≡◌, Bool, true, false, Some, None, Option, MatchOption, Decides, is_some, refl, subst}
use Rattle.std.proofs.lemmas.Bool.{false≢true}
use Rattle.board.specs.declared.pieces.Side.{Side}
use Rattle.board.specs.declared.pieces.Piece.{Piece}
use Rattle.board.specs.declared.board.Board.{Board}
use Rattle.rules.specs.Steps.{Own, Enemy}
use Rattle.rules.proofs.Pieces.{one_piece}

-- whether there is a piece with H that passes a test, where o is the only one with H
tested : {H Q : Piece → Type 0} (P : Piece → Type 0) (o : Option Piece) (r : Bool) → ((p q : Piece) → H p → H q → p ≡ q)
    → MatchOption o ((p : Piece) → H p → ⊥) H → MatchOption o (r ≡ false) Q → ((p : Piece) → Q p → Decides r (P p)) → Decides r ((p : Piece) × H p × P p)
tested P None r one empty e f = (λ t. absurd (let z : false ≡ true = cc in false≢true z), λ h. absurd (empty h.0 h.1))
tested P (Some p) r one has e f = (λ t. (p, has, (f p e).0 t), λ h. (f p e).1 (subst P (one h.0 p h.1 has) h.2))

pub own_tested : {side : Side} {b : Board} {s : _} {Q : Piece → Type 0} (P : Piece → Type 0) (o : Option Piece) (r : Bool)
    → MatchOption o ((p : Piece) → Own side b s p → ⊥) (Own side b s) → MatchOption o (r ≡ false) Q → ((p : Piece) → Q p → Decides r (P p))
    → Decides r ((p : Piece) × Own side b s p × P p)
own_tested P o r = tested P o r (λ p q h k. one_piece h.there k.there)

pub enemy_tested : {side : Side} {b : Board} {s : _} {Q : Piece → Type 0} (P : Piece → Type 0) (o : Option Piece) (r : Bool)
    → MatchOption o ((p : Piece) → Enemy side b s p → ⊥) (Enemy side b s) → MatchOption o (r ≡ false) Q → ((p : Piece) → Q p → Decides r (P p))
    → Decides r ((p : Piece) × Enemy side b s p × P p)
enemy_tested P o r = tested P o r (λ p q h k. one_piece h.there k.there)

pub enemy_some : {side : Side} {b : Board} {s : _} (o : Option Piece) → MatchOption o ((p : Piece) → Enemy side b s p → ⊥) (Enemy side b s)
    → Decides (is_some o) ((p : Piece) × Enemy side b s p)
enemy_some None empty = (λ t. absurd (false≢true t), λ h. absurd (empty h.0 h.1))
enemy_some (Some p) has = (λ t. (p, has), λ h. refl)
