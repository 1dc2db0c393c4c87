-- A plane is one by its squares.
use Rattle.std.proofs.Common.{◌≡◌, ℕ, ◌^◌, ◌<◌, ◌≤◌, ap, ◌∙◌, ⊎_elim, arith}
use lib.Count.{count_trailing_zeros}
use mathlib.Core.HLevel.{is_prop→PathP}
use native.Mathlib.Bridge.{le_prop}
use Rattle.std.proofs.lemmas.Bool.{cases_lt}
use Rattle.bits.specs.declared.plane.Plane.{Plane}
use Rattle.bits.specs.Digits.{digit}
use Rattle.bits.specs.Planes.{on}
use Rattle.bits.proofs.Digits.{digit_lt, digit_high, digit_ext, digit_of_zero, trailing}

pub plane_by_word : (p q : Plane) → p.word ≡ q.word → p ≡ q
plane_by_word p q e = λ i.
    record { word = e i; fits = is_prop→PathP (λ j. e j < 2 ^ 64) (λ j. le_prop) p.fits q.fits i }

pub plane_same : (p q : Plane) → ((k : ℕ) → k < 64 → on p k ≡ on q k) → p ≡ q
plane_same p q h = plane_by_word p q (digit_ext 64 p.word q.word p.fits q.fits h)

pub on_lt : (p : Plane) (k : ℕ) → on p k < 2
on_lt p k = digit_lt p.word k

pub on_high : (p : Plane) (k : ℕ) → 64 ≤ k → on p k ≡ 0
on_high p k h = digit_high 64 p.word k p.fits h

-- a plane that is not empty has a square
pub some_square : (p : Plane) → (((k : ℕ) → on p k ≡ 0) → ⊥) → (k : ℕ) × (on p k ≡ 1)
some_square p some =
    ⊎_elim
    (λ (h : 0 < p.word). let t = trailing p.word h p.fits in (count_trailing_zeros 64 p.word, t.1))
    (λ (h : p.word ≤ 0).
    let e : p.word ≡ 0 = omega arith in
    absurd (some (λ k. ap (λ (w : ℕ). digit w k) e ∙ digit_of_zero k)))
    (cases_lt 0 p.word)
