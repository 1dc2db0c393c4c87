use Rattle.std.proofs.Common.{◌≡◌, ℕ, ◌<◌, max, ⊎_elim, arith}
use Rattle.std.proofs.lemmas.Bool.{cases_eq}
use Rattle.bits.specs.declared.direction.Direction.{Direction}
use Rattle.bits.specs.declared.direction.Direction.TheVariants.{North, East, South, West}
use Rattle.bits.specs.Planes.{on}
use Rattle.bits.specs.Squares.{Toward, Next}
use Rattle.bits.proofs.Compass.{toward_next, next_toward}
use Rattle.bits.proofs.Same.{on_lt}
use Rattle.bits.proofs.plane.Plane.spread.Goals as goal

pub returns : goal.returns
returns c =
    let p = c.args.self in
    let n = c.shifted.result in
    let e = c.shifted-2.result in
    let s = c.shifted-3.result in
    let w = c.shifted-4.result in
    let all : (k : ℕ) → on c.bitor-3.result k ≡ max (max (max (on n k) (on e k)) (on s k)) (on w k) =
    λ k. let x = c.bitor.ensures k in let y = c.bitor-2.ensures k in let z = c.bitor-3.ensures k in cc in
    let Found : ℕ → Type 0 = λ k. (j : ℕ) × (j < 64) × Next k j × (on p j ≡ 1) in
    let by : (d : Direction) (k : ℕ) → (j : ℕ) × (j < 64) × Toward d j k × (on p j ≡ 1) → Found k =
    λ d k f. (f.0, f.1, toward_next d f.0 k f.2, f.3) in
    record {
      only = λ k h o.
          ⊎_elim (λ (i : on n k ≡ 1). by North k (c.shifted.ensures.only k h i))
          (λ i. ⊎_elim (λ (i : on e k ≡ 1). by East k (c.shifted-2.ensures.only k h i))
          (λ j. ⊎_elim (λ (i : on s k ≡ 1). by South k (c.shifted-3.ensures.only k h i))
          (λ l. by West k (c.shifted-4.ensures.only k h (omega (arith, all k, on_lt n k, on_lt e k, on_lt s k, on_lt w k))))
          (cases_eq (on s k) 1)) (cases_eq (on e k) 1)) (cases_eq (on n k) 1);
      each = λ k j h l t o.
          let f = next_toward j k t in
          let joined : (d : Direction) → Toward d j k → on c.bitor-3.result k ≡ 1 =
          λ d. elim d as (λ d. Toward d j k → on c.bitor-3.result k ≡ 1) [
            | North ↦ λ t. let i = c.shifted.ensures.each j k l h t o in omega (arith, all k, on_lt n k, on_lt e k, on_lt s k, on_lt w k)
            | East ↦ λ t. let i = c.shifted-2.ensures.each j k l h t o in omega (arith, all k, on_lt n k, on_lt e k, on_lt s k, on_lt w k)
            | South ↦ λ t. let i = c.shifted-3.ensures.each j k l h t o in omega (arith, all k, on_lt n k, on_lt e k, on_lt s k, on_lt w k)
            | West ↦ λ t. let i = c.shifted-4.ensures.each j k l h t o in omega (arith, all k, on_lt n k, on_lt e k, on_lt s k, on_lt w k)
          ] in
          joined f.0 f.1;
    }
