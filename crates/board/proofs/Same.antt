-- Boards with the same on every square are the same board.
use Rattle.std.proofs.Common.{◌≡◌, ℕ, ◌+◌, ◌*◌, ◌<◌, sym, ap, ◌∙◌, arith}
use Rattle.std.specs.Prelude.{Decides}
use Rattle.std.proofs.lemmas.Bool.Decides.{Decides-like, Decides-and, Decides-eqb}
use mathlib.Core.HLevel.{is_prop→PathP}
use native.Mathlib.Bridge.{le_prop}
use Rattle.bits.specs.Planes.{on}
use Rattle.bits.proofs.Same.{on_lt, plane_by_word, plane_same}
use Rattle.board.specs.declared.pieces.Side.TheVariants.{Gold}
use Rattle.board.specs.declared.board.Board.{Board}
use Rattle.board.specs.Planes.{Fitting}
use Rattle.board.specs.Cells.{cell, words_of, same_planes, SameSquares}
use Rattle.board.specs.Counts.{of_side, strength_in}
use Rattle.board.proofs.Holding.{strength_law, gold_law}

-- equal planes make equal boards
pub planes_same : (b d : Board) → b.gold ≡ d.gold → b.ones ≡ d.ones → b.twos ≡ d.twos → b.fours ≡ d.fours → b ≡ d
planes_same b d g o t f = λ i.
    record {
      gold = g i;
      ones = o i;
      twos = t i;
      fours = f i;
      fitting = is_prop→PathP (λ j. Fitting (g j) (o j) (t j) (f j)) (λ j x y k s. (le_prop (x s).0 (y s).0 k, le_prop (x s).1 (y s).1 k)) b.fitting d.fitting i;
    }

-- and so do equal words
pub words_same : (b d : Board) → words_of b ≡ words_of d → b ≡ d
words_same b d e =
    planes_same b d (plane_by_word b.gold d.gold (cc)) (plane_by_word b.ones d.ones (cc)) (plane_by_word b.twos d.twos (cc)) (plane_by_word b.fours d.fours (cc))

-- whether the planes are the same decides whether the boards are
pub planes_decide : (b d : Board) → Decides (same_planes b d) (b ≡ d)
planes_decide b d =
    Decides-like (same_planes b d)
    (λ e. planes_same b d (plane_by_word b.gold d.gold e.0.0.0) (plane_by_word b.ones d.ones e.0.0.1) (plane_by_word b.twos d.twos e.0.1) (plane_by_word b.fours d.fours e.1))
    (λ e. (((ap (λ (x : Board). x.gold.word) e, ap (λ (x : Board). x.ones.word) e), ap (λ (x : Board). x.twos.word) e), ap (λ (x : Board). x.fours.word) e))
    (Decides-and _ _ (Decides-and _ _ (Decides-and _ _ (Decides-eqb b.gold.word d.gold.word) (Decides-eqb b.ones.word d.ones.word)) (Decides-eqb b.twos.word d.twos.word))
    (Decides-eqb b.fours.word d.fours.word))

pub board_same : (b d : Board) → SameSquares b d → b ≡ d
board_same b d e =
    planes_same b d (plane_same b.gold d.gold (λ s h. gold_law b s ∙ (ap (λ c. of_side c Gold) (e s h) ∙ sym (gold_law d s))))
    (plane_same b.ones d.ones (λ s h. let k = digits s h in omega (arith, k, on_lt b.ones s, on_lt b.twos s, on_lt b.fours s, on_lt d.ones s, on_lt d.twos s, on_lt d.fours s)))
    (plane_same b.twos d.twos (λ s h. let k = digits s h in omega (arith, k, on_lt b.ones s, on_lt b.twos s, on_lt b.fours s, on_lt d.ones s, on_lt d.twos s, on_lt d.fours s)))
    (plane_same b.fours d.fours (λ s h. let k = digits s h in omega (arith, k, on_lt b.ones s, on_lt b.twos s, on_lt b.fours s, on_lt d.ones s, on_lt d.twos s, on_lt d.fours s)))
  where
    digits : (s : ℕ) → s < 64 → on b.ones s + 2 * on b.twos s + 4 * on b.fours s ≡ on d.ones s + 2 * on d.twos s + 4 * on d.fours s
    digits s h = strength_law b s ∙ (ap strength_in (e s h) ∙ sym (strength_law d s))

-- and whether they have the same on every square
pub squares_decide : (b d : Board) → Decides (same_planes b d) (SameSquares b d)
squares_decide b d = Decides-like (same_planes b d) (λ e s h. ap (λ (x : Board). cell x s) e) (board_same b d) (planes_decide b d)
