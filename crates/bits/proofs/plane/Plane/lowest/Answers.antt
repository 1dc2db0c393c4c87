use Rattle.std.proofs.Common.{◌≡◌, ℕ, ◌<◌, ◌≤◌, Some, None, Option, ap, ◌∙◌, ⊎_elim, arith, MatchOption}
use lib.Count.{count_trailing_zeros, trailing_of_zero}
use Rattle.std.proofs.lemmas.Bool.{cases_lt}
use Rattle.bits.specs.declared.square.Square.{Square}
use Rattle.bits.specs.declared.plane.Plane.{Plane}
use Rattle.bits.specs.Digits.{digit}
use Rattle.bits.specs.Planes.{on}
use Rattle.bits.proofs.Digits.{digit_of_zero, trailing}
use Rattle.bits.proofs.plane.Plane.lowest.Goals as goal

first : (p : Plane) (n : ℕ) (o : Option Square) → MatchOption o (64 ≤ n) (λ s. s.number ≡ n) → n ≡ count_trailing_zeros 64 p.word
    → MatchOption o ((k : ℕ) → on p k ≡ 0) (λ s. (on p s.number ≡ 1) × ((k : ℕ) → k < s.number → on p k ≡ 0))
first p n None h e =
    ⊎_elim
    (λ (l : 0 < p.word). absurd (omega (arith, (trailing p.word l p.fits).0)))
    (λ (l : p.word ≤ 0). let z : p.word ≡ 0 = omega arith in λ k. ap (λ (w : ℕ). digit w k) z ∙ digit_of_zero k)
    (cases_lt 0 p.word)
first p n (Some s) h e =
    ⊎_elim
    (λ (l : 0 < p.word). let t = trailing p.word l p.fits in (ap (on p) (h ∙ e) ∙ t.1, λ k b. t.2 k (omega arith)))
    (λ (l : p.word ≤ 0).
    let z : p.word ≡ 0 = omega arith in
    absurd (omega (arith, s.below, ap (count_trailing_zeros 64) z ∙ trailing_of_zero 64)))
    (cases_lt 0 p.word)

pub returns : goal.returns
returns c = first c.args.self _ c.new.result c.new.ensures (omega arith)
