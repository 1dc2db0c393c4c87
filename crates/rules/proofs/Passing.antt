-- A code that finds a piece and an empty square to go to is not refused for that.
use Rattle.std.proofs.Common.{eqb, List, [], ◌∷◌, take, MatchBool, Result, ◌≡◌, ℕ, zero, suc, Bool, true, false, is_some, Some, Option, MatchOption, sym, ap, ◌∙◌, subst}
use Rattle.std.proofs.lemmas.Bool.{both_ways}
use Rattle.bits.specs.declared.square.Square.{Square}
use Rattle.board.specs.declared.pieces.Side.{Side}
use Rattle.board.specs.declared.pieces.Kind.TheVariants.{Rabbit}
use Rattle.board.specs.declared.pieces.Piece.{Piece}
use Rattle.board.specs.declared.board.Board.{Board}
use Rattle.board.specs.Cells.{cell}
use Rattle.board.specs.Standing.{Frozen}
use Rattle.rules.specs.declared.half_turn.checks.Asked.{Asked}
use Rattle.rules.specs.Codes.{square, direction, Goes, back}
use Rattle.rules.specs.Steps.{Own}
use Rattle.std.specs.Result.{IsErrAnd}
use Rattle.std.proofs.lemmas.Result.{err_from_is_err_and}
use Rattle.board.specs.declared.refusal.Refusal.{Refusal}
use Rattle.board.specs.Refusals.{Check, refusal_number, NoneHits, FirstHit}
use Rattle.rules.specs.Checks.{turn_checks}
use Rattle.rules.specs.Answers.{Answers}
use Rattle.rules.specs.Asked.{AsksFor}
use Rattle.rules.proofs.Going.{goes_one}
use Rattle.rules.proofs.Pieces.{not_empty, one_piece}
use Rattle.rules.proofs.Stepping.{is_none}

-- what the code asks for, by what it finds on its square and on its target
pub finds : (b : Board) (c : ℕ) (a : Asked) (x : Option Square) (o p : Option Piece) (r : Bool) → a.from.number ≡ square c
    → MatchOption x ((t : ℕ) → Goes c t → ⊥) (λ to. Goes c to.number) → x ≡ Some a.to → o ≡ cell b a.from.number → o ≡ Some a.piece → p ≡ cell b a.to.number
    → r ≡ is_some p → r ≡ false → AsksFor b c a
finds b c a x o p r at goes to there piece target some none =
    record {
      stands = at;
      goes = rw to at goes;
      there = ap (cell b) (sym at) ∙ sym there ∙ piece;
      empty = sym target ∙ is_none p (sym some ∙ none);
    }

module _ {b : Board} {c : ℕ} {a : Asked} (f : AsksFor b c a) where
  pub found : (side : Side) (many : Bool) → many ≡ false → NoneHits (take 4 (turn_checks side b c (many ≡ true) ⊥ ⊥))
  found side many few = (
    λ off. off a.to.number f.goes,
    (not_empty f.there, (both_ways many few, ((λ x. not_empty x.3 (ap (cell b) (goes_one x.2 f.goes) ∙ f.empty)), tt))),
  )

  module _ (side : Side) where
    pub owned : a.piece.side ≡ side → Own side b (square c) a.piece
    owned mine = record { there = f.there; mine = mine }

    pub unfrozen : ((a.piece.side ≡ side) × Frozen b a.from.number → ⊥) → (q : Piece) × Own side b (square c) q × Frozen b (square c) → ⊥
    unfrozen free x = free (ap (λ (p : Piece). p.side) (one_piece f.there x.1.there) ∙ x.1.mine, subst (Frozen b) (sym f.stands) x.2)

    pub forward : ((a.piece.side ≡ side) × (a.piece.kind ≡ Rabbit) × (direction c ≡ back side) → ⊥)
        → (q : Piece) × Own side b (square c) q × (q.kind ≡ Rabbit) × (direction c ≡ back side) → ⊥
    forward ahead x =
        let same = one_piece f.there x.1.there in
        ahead (ap (λ (p : Piece). p.side) same ∙ x.1.mine, ap (λ (p : Piece). p.kind) same ∙ x.2, x.3)

-- the first hit of the first checks is that of all
first_of_all : (k : ℕ) (cs : List Check) (n : ℕ) → FirstHit (take k cs) n → FirstHit cs n
first_of_all zero cs n h = absurd h
first_of_all (suc k) [] n h = h
first_of_all (suc k) (c ∷ cs) n h = go (eqb c.0 n) (first_of_all k cs n) h
  where
    go : (x : Bool) → (FirstHit (take k cs) n → FirstHit cs n) → MatchBool x c.1 ((c.1 → ⊥) × FirstHit (take k cs) n) → MatchBool x c.1 ((c.1 → ⊥) × FirstHit cs n)
    go true more h = h
    go false more h = (h.0, more h.1)

module _ (side : Side) (b : Board) (c : ℕ) (many neither unfinished : Type 0) where
  pub hit_on_squares : (accepted : Asked → Type 0) (r : Result Asked Refusal) (why : Refusal) → IsErrAnd r (λ e. e ≡ why)
      → FirstHit (take 4 (turn_checks side b c many ⊥ ⊥)) (refusal_number why) → Answers (turn_checks side b c many neither unfinished) accepted r
  hit_on_squares accepted r why out h =
      let p = err_from_is_err_and r out in
      rw (p.1, p.2) (first_of_all 4 (turn_checks side b c many neither unfinished) (refusal_number why) h)

-- past the four checks on the squares, and what is left
pub past : {A B C D X : Type 0} → A × (B × (C × (D × Unit {0}))) → X → A × (B × (C × (D × X)))
past h x = (h.0, (h.1.0, (h.1.1.0, (h.1.1.1.0, x))))
