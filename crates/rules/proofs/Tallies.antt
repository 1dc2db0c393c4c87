-- Tallies of two functions, the first below the second at all but some places.
use Rattle.std.proofs.Common.{ℕ, zero, suc, ◌+◌, ◌<◌, ◌≤◌, ◌≢◌, ap, arith}
use native.Mathlib.Decide.{ℕ_discrete}
use Rattle.bits.specs.Digits.{tally}

module _ (f g : ℕ → ℕ) where
  tally_below : (n : ℕ) → ((k : ℕ) → k < n → f k ≤ g k) → tally f n ≤ tally g n
  unfolding tally
  tally_below zero h = omega arith
  tally_below (suc n) h = omega (arith, tally_below n (λ k l. h k (omega arith)), h n (omega arith))

  tally_but_one : (n s : ℕ) → s < n → ((k : ℕ) → k < n → k ≢ s → f k ≤ g k) → tally f n + g s ≤ tally g n + f s
  unfolding tally
  tally_but_one zero s l h = absurd (omega arith)
  tally_but_one (suc n) s l h = elim (ℕ_discrete n s) [
    | yes e ↦ omega (arith, ap f e, ap g e, tally_below n (λ k m. h k (omega arith) (λ d. omega arith)))
    | no d ↦ omega (arith, tally_but_one n s (omega (arith, d)) (λ k m. h k (omega arith)), h n (omega arith) d)
  ]

  pub tally_but_two : (n s t : ℕ) → s < n → t < n → s ≢ t → ((k : ℕ) → k ≢ s → k ≢ t → f k ≤ g k)
      → tally f n + (g s + g t) ≤ tally g n + (f s + f t)
  unfolding tally
  tally_but_two zero s t l m d h = absurd (omega arith)
  tally_but_two (suc n) s t l m d h = elim (ℕ_discrete n s) [
    | yes e ↦ omega (arith, ap f e, ap g e, tally_but_one n t (omega (arith, d)) (λ k i. h k (λ x. omega arith)))
    | no u ↦ elim (ℕ_discrete n t) [
      | yes e ↦ omega (arith, ap f e, ap g e, tally_but_one n s (omega (arith, u)) (λ k i j. h k j (λ x. omega arith)))
      | no v ↦ omega (arith, tally_but_two n s t (omega (arith, u)) (omega (arith, v)) d h, h n u v)
    ]
  ]
