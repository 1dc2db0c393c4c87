-- Letters say what stands on a square in one way, and so show one board.
use Rattle.std.proofs.Common.{◌≡◌, ℕ, ◌+◌, ◌-◌, ◌<◌, ◌≤◌, Bool, true, false, not, cond, eqb, ltb, ◌≢◌, List, length, Some, None, Option, Result, sym, subst, refl, ap, ◌∙◌, inl, inr, ⊎_elim, arith}
use Rattle.std.proofs.lemmas.Bool.{cases_eq, cases_lt, cases_Bool, both_ways}
use Rattle.std.proofs.lemmas.Bool.Decides.{Decides-not, Decides-eqb}
use Rattle.std.specs.List.{list_any}
use Rattle.board.specs.declared.pieces.Side.{Side}
use Rattle.board.specs.declared.pieces.Side.TheVariants.{Gold, Silver}
use Rattle.board.specs.declared.pieces.Kind.{Kind}
use Rattle.board.specs.declared.pieces.Kind.TheVariants.{Elephant, Camel, Horse, Dog, Cat, Rabbit}
use Rattle.board.specs.declared.pieces.Piece.{Piece}
use Rattle.board.specs.declared.board.Board.{Board}
use Rattle.board.specs.declared.refusal.Refusal.{Refusal}
use Rattle.board.specs.Letters.{capital, letter_by, spelled, OwnRead}
use Rattle.board.specs.Cells.{cell}
use Rattle.board.specs.Reading.{Shows, LaidOut, home, SetsUp}
use Rattle.board.proofs.EachKind.{kinds, any_decides}
use Rattle.board.proofs.Same.{board_same}

-- what a letter says
kind_said : ℕ → Kind
kind_said n =
    cond (eqb n (capital Elephant)) Elephant
    (cond (eqb n (capital Camel)) Camel
    (cond (eqb n (capital Horse)) Horse (cond (eqb n (capital Dog)) Dog (cond (eqb n (capital Cat)) Cat Rabbit))))

piece_said : Side → ℕ → Option Piece
piece_said Gold n = Some (record { side = Gold; kind = kind_said n })
piece_said Silver n = Some (record { side = Silver; kind = kind_said (n - 32) })

said : ℕ → Option Piece
said n = cond (eqb n 46) None (cond (ltb n 97) (piece_said Gold n) (piece_said Silver n))

said_spelled : (c : Option Piece) → said (spelled c) ≡ c
unfolding said piece_said kind_said
said_spelled None = refl
said_spelled (Some p) = go p.side p.kind
  where
    go : (side : Side) (kind : Kind) → said (letter_by side kind) ≡ Some (record { side = side; kind = kind })
    go Gold Elephant = refl
    go Gold Camel = refl
    go Gold Horse = refl
    go Gold Dog = refl
    go Gold Cat = refl
    go Gold Rabbit = refl
    go Silver Elephant = refl
    go Silver Camel = refl
    go Silver Horse = refl
    go Silver Dog = refl
    go Silver Cat = refl
    go Silver Rabbit = refl

spelled_one : (c d : Option Piece) → spelled c ≡ spelled d → c ≡ d
spelled_one c d e = sym (said_spelled c) ∙ (ap said e ∙ said_spelled d)

-- a letter is one byte
pub spelled_ascii : (c : Option Piece) → spelled c < 128
spelled_ascii None = omega arith
spelled_ascii (Some p) = by_side p.side p.kind
  where
    small : (kind : Kind) → capital kind < 96
    small Elephant = omega arith
    small Camel = omega arith
    small Horse = omega arith
    small Dog = omega arith
    small Cat = omega arith
    small Rabbit = omega arith

    by_side : (side : Side) (kind : Kind) → letter_by side kind < 128
    by_side Gold kind = omega (arith, small kind)
    by_side Silver kind = omega (arith, small kind)

pub shows_one : (letters : List ℕ) (b d : Board) → Shows letters b → Shows letters d → b ≡ d
shows_one letters b d p q = board_same b d (λ s h. spelled_one (cell b s) (cell d s) (sym (p s h) ∙ q s h))

pub sets_up_one : (side : Side) (letters : List ℕ) (b d : Board) → SetsUp side letters b → SetsUp side letters d → b ≡ d
sets_up_one side letters b d p q = board_same b d (λ s h. at s)
  where
    placed : (k : ℕ) → k < 16 → cell b (home side + k) ≡ cell d (home side + k)
    placed k h =
        let x = p.placed k h in
        let y = q.placed k h in
        x.2
        ∙ (spelled_one (Some (record { side = side; kind = x.0 })) (Some (record { side = side; kind = y.0 })) (sym x.1 ∙ y.1) ∙ sym y.2)

    at : (s : ℕ) → cell b s ≡ cell d s
    at s =
        ⊎_elim (λ (l : s < home side). p.bare s (inl l) ∙ sym (q.bare s (inl l)))
        (λ (l : home side ≤ s).
        ⊎_elim
        (λ (r : s < home side + 16).
        let k : home side + (s - home side) ≡ s = omega arith in
        rw k at (placed (s - home side) (omega arith)))
        (λ (r : home side + 16 ≤ s). p.bare s (inr r) ∙ sym (q.bare s (inr r))) (cases_lt s (home side + 16)))
        (cases_lt s (home side))

-- letters that are read as the side's own, laid out from its first row on, set its pieces up
pub own_laid_out : (R : ℕ → Result (Option Piece) Refusal → Type 0) (side : Side) (first : ℕ) (letters : List ℕ) (b : Board)
    → ((letter : ℕ) (r : Result (Option Piece) Refusal) → R letter r → OwnRead side letter r) → first ≡ home side → length letters ≡ 16
    → LaidOut R first letters b → SetsUp side letters b
own_laid_out R side first letters b reads e n laid =
    let from : LaidOut R (home side) letters b = subst (λ (x : ℕ). LaidOut R x letters b) e laid in
    record {
      placed = λ k h. reads _ _ (from.placed k (omega arith));
      bare = λ s out. from.bare s (⊎_elim (λ (l : s < home side). inl l) (λ (l : home side + 16 ≤ s). inr (omega arith)) out);
    }

-- where not all kinds agree, some kind differs
pub some_differs : (f g : Kind → ℕ) → (((k : Kind) → f k ≡ g k) → ⊥) → (k : Kind) × (f k ≢ g k)
some_differs f g no_all =
    let differs : Kind → Bool = λ k. not (eqb (f k) (g k)) in
    let some = any_decides differs (λ k. f k ≢ g k) (λ k. Decides-not (eqb (f k) (g k)) (Decides-eqb (f k) (g k))) in
    ⊎_elim
    (λ (t : list_any differs kinds ≡ true). some.0 t)
    (λ (n : list_any differs kinds ≡ false).
    absurd (no_all (λ k. ⊎_elim (λ (e : f k ≡ g k). e) (λ (ne : f k ≡ g k → ⊥). absurd (both_ways _ n (some.1 (k, ne)))) (cases_eq (f k) (g k)))))
    (cases_Bool (list_any differs kinds))
