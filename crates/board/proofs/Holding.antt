-- The digits of a square in the four planes, from what it holds.
use Rattle.std.proofs.Common.{◌≡◌, ℕ, zero, suc, ◌+◌, ◌-◌, ◌*◌, ◌<◌, ◌≤◌, min, Bool, true, false, cond, eqb, ltb, ◌⊎◌, Some, None, Option, sym, refl, ap, ◌∙◌, inl, inr, ⊎_elim, zero-mul, arith}
use Rattle.std.proofs.lemmas.Bool.{cases_lt, lt-ltb}
use Rattle.std.proofs.lemmas.Bool.Decides.{nat_tests}
use Rattle.bits.specs.Planes.{on}
use Rattle.bits.proofs.Same.{on_lt, on_high}
use Rattle.board.specs.declared.pieces.Side.{Side}
use Rattle.board.specs.declared.pieces.Side.TheVariants.{Gold, Silver}
use Rattle.board.specs.declared.pieces.Kind.{Kind}
use Rattle.board.specs.declared.pieces.Kind.TheVariants.{Elephant, Camel, Horse, Dog, Cat, Rabbit}
use Rattle.board.specs.declared.pieces.Piece.{Piece}
use Rattle.board.specs.declared.board.Board.{Board}
use Rattle.board.specs.Pieces.{power, Stronger, side_number}
use Rattle.board.specs.Planes.{strength_on}
use Rattle.board.specs.Cells.{decode, cell}
use Rattle.board.specs.Counts.{occupied_by, of_side, of_kind, above_kind, strength_in}

strength_decoded : (g a b c : ℕ) → a < 2 → b < 2 → c < 2 → c + 2 * b + 4 * a ≤ 6 → c + 2 * b + 4 * a ≡ strength_in (decode g a b c)
strength_decoded g zero zero zero p q r h = refl
strength_decoded g zero zero (suc c) p q r h = omega arith
strength_decoded g zero (suc b) zero p q r h = omega arith
strength_decoded g zero (suc b) (suc c) p q r h = omega arith
strength_decoded g (suc a) zero zero p q r h = omega arith
strength_decoded g (suc a) zero (suc c) p q r h = omega arith
strength_decoded g (suc a) (suc b) c p q r h = omega arith

gold_decoded : (g a b c : ℕ) → g < 2 → g ≤ c + 2 * b + 4 * a → g ≡ of_side (decode g a b c) Gold
gold_decoded g zero zero zero p h = omega arith
gold_decoded zero zero zero (suc c) p h = refl
gold_decoded (suc g) zero zero (suc c) p h = omega arith
gold_decoded zero zero (suc b) zero p h = refl
gold_decoded (suc g) zero (suc b) zero p h = omega arith
gold_decoded zero zero (suc b) (suc c) p h = refl
gold_decoded (suc g) zero (suc b) (suc c) p h = omega arith
gold_decoded zero (suc a) zero zero p h = refl
gold_decoded (suc g) (suc a) zero zero p h = omega arith
gold_decoded zero (suc a) zero (suc c) p h = refl
gold_decoded (suc g) (suc a) zero (suc c) p h = omega arith
gold_decoded zero (suc a) (suc b) c p h = refl
gold_decoded (suc g) (suc a) (suc b) c p h = omega arith

-- what is occupied has a strength, and of its sides one
pub occupied_strength : (c : Option Piece) → ((occupied_by c ≡ 0) × (strength_in c ≡ 0)) ⊎ ((occupied_by c ≡ 1) × (1 ≤ strength_in c))
occupied_strength None = inl (refl, refl)
occupied_strength (Some p) = inr (refl, positive p.kind)
  where
    positive : (k : Kind) → 1 ≤ power k
    positive Elephant = omega arith
    positive Camel = omega arith
    positive Horse = omega arith
    positive Dog = omega arith
    positive Cat = omega arith
    positive Rabbit = omega arith

pub silver_digit : (c : Option Piece) → of_side c Silver ≡ occupied_by c - of_side c Gold
silver_digit None = refl
silver_digit (Some p) = go p.side
  where
    go : (x : Side) → cond (eqb (side_number x) 1) 1 0 ≡ 1 - cond (eqb (side_number x) 0) 1 0
    go Gold = refl
    go Silver = refl

pub both_digits : (c : Option Piece) (side : Side) (kind : Kind) → min (of_side c side) (of_kind c kind) ≡ of_side c side * of_kind c kind
both_digits None side kind = omega (arith, zero-mul (of_kind None kind))
both_digits (Some p) side kind = go (eqb (side_number p.side) (side_number side)) (eqb (power p.kind) (power kind))
  where
    go : (x y : Bool) → min (cond x 1 0) (cond y 1 0) ≡ cond x 1 0 * cond y 1 0
    go true true = refl
    go true false = refl
    go false true = refl
    go false false = refl

-- a square holds a piece of the side
pub some_of_side : (c : Option Piece) (side : Side) → of_side c side ≡ 1 → (p : Piece) × (c ≡ Some p) × (p.side ≡ side)
some_of_side None side e = absurd (omega arith)
some_of_side (Some p) side e = (p, refl, same p.side side e)
  where
    same : (x y : Side) → ◌≡◌ {A = ℕ} (cond (eqb (side_number x) (side_number y)) 1 0) 1 → x ≡ y
    same Gold Gold e = refl
    same Gold Silver e = absurd (omega arith)
    same Silver Gold e = absurd (omega arith)
    same Silver Silver e = refl

pub of_side_some : (c : Option Piece) (side : Side) (p : Piece) → c ≡ Some p → p.side ≡ side → of_side c side ≡ 1
of_side_some c side p e f = ap (λ c. of_side c side) e ∙ (ap (λ x. cond (eqb (side_number x) (side_number side)) 1 0) f ∙ self side)
  where
    self : (x : Side) → ◌≡◌ {A = ℕ} (cond (eqb (side_number x) (side_number x)) 1 0) 1
    self Gold = refl
    self Silver = refl

-- and one that is stronger than the kind
pub stronger_above : (c : Option Piece) (p : Piece) (k : Kind) → c ≡ Some p → above_kind c k ≡ 1 → Stronger p.kind k
stronger_above c p k e f = let g : ◌≡◌ {A = ℕ} (cond (ltb (power k) (power p.kind)) 1 0) 1 = sym (ap (λ c. above_kind c k) e) ∙ f in grind (arith, nat_tests)

pub above_stronger : (c : Option Piece) (p : Piece) (k : Kind) → c ≡ Some p → Stronger p.kind k → above_kind c k ≡ 1
above_stronger c p k e f = ap (λ c. above_kind c k) e ∙ ap (λ b. cond b 1 0) (lt-ltb (power k) (power p.kind) f)

module _ (b : Board) (s : ℕ) where
  -- the planes give a square the strength of what it holds
  pub strength_law : strength_on b.ones b.twos b.fours s ≡ strength_in (cell b s)
  strength_law =
      strength_decoded (on b.gold s) (on b.fours s) (on b.twos s) (on b.ones s) (on_lt b.fours s) (on_lt b.twos s) (on_lt b.ones s)
      (b.fitting s).0

  -- and Gold's plane has the squares of Gold's pieces
  pub gold_law : on b.gold s ≡ of_side (cell b s) Gold
  gold_law = gold_decoded (on b.gold s) (on b.fours s) (on b.twos s) (on b.ones s) (on_lt b.gold s) (b.fitting s).1

  -- beyond the board nothing stands
  pub off_board : 64 ≤ s → cell b s ≡ None
  off_board h = rw (on_high b.ones s h, on_high b.twos s h, on_high b.fours s h) refl

  pub on_board : (p : Piece) → cell b s ≡ Some p → s < 64
  on_board p e =
      ⊎_elim (λ (l : s < 64). l) (λ (l : 64 ≤ s). let z : ◌≡◌ {A = ℕ} 0 1 = let n = off_board l in cc in absurd (omega arith)) (cases_lt s 64)
