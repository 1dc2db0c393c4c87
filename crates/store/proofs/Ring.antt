-- The places of a ring, as `place` counts them.
use Rattle.std.proofs.Common.{◌≡◌, ℕ, ◌+◌, ◌-◌, ◌<◌, ◌≤◌, ⊎_elim, arith}
use Rattle.std.proofs.lemmas.Bool.{cases_lt}
use Rattle.std.proofs.lemmas.Bool.Decides.{nat_tests}
use Rattle.store.specs.Probes.{place}

pub place_once : (n h d e : ℕ) → h < n → d < n → e < n → place n h d ≡ place n h e → d ≡ e
place_once n h d e p q r s = grind (arith, nat_tests)

pub place_back : (n h i : ℕ) → h < n → i < n → (d : ℕ) × (d < n) × (i ≡ place n h d)
place_back n h i p q =
    ⊎_elim
    (λ (l : i < h). (i + n - h, omega arith, grind (arith, nat_tests)))
    (λ (l : h ≤ i). (i - h, omega arith, grind (arith, nat_tests)))
    (cases_lt i h)
