-- A word shifted by a row or a column, where a mask drops the column that would wrap.
use Rattle.std.proofs.Common.{◌≡◌, ℕ, zero, suc, ◌+◌, ◌-◌, ◌*◌, ◌/◌, ◌%◌, ◌^◌, ◌<◌, ◌≤◌, Bool, true, cond, ◌&&◌, eqb, ◌≢◌, sym, refl, ap, ◌∙◌, ⊎_elim, arith, pow_pos, shr-shr, add-zero}
use lib.Bits.{bit_and}
use Rattle.std.proofs.Math.Nat.{mod-add-div, mul_comm}
use Rattle.std.specs.Int.{bit_at}
use Rattle.std.proofs.lemmas.Nat.Bits.{bit_at-zero, bit_at_cat_low, bit_at_cat_high}
use Rattle.std.proofs.lemmas.Bool.Decides.{Decides-eqb, Decides-below_and, nat_tests}
use Rattle.std.proofs.lemmas.Bool.{cases_lt}
use Rattle.bits.specs.declared.direction.Direction.{Direction}
use Rattle.bits.specs.declared.direction.Direction.TheVariants.{North, East, South, West}
use Rattle.bits.specs.Digits.{digit}
use Rattle.bits.specs.Squares.{column, Toward}
use Rattle.bits.proofs.Digits.{digit_lt, digit_high, digit_and}

-- `m >> j`
digit_shr : (m j k : ℕ) → digit (m / 2 ^ j) k ≡ digit m (j + k)
unfolding digit
digit_shr m j k = ap (λ (x : ℕ). x % 2) (shr-shr m j k)

digit_mod : (w n k : ℕ) → k < w → digit (n % 2 ^ w) k ≡ digit n k
unfolding digit
digit_mod w n k h =
    let whole : n / 2 ^ w * 2 ^ w + n % 2 ^ w ≡ n = omega (arith, mod-add-div n (2 ^ w), mul_comm (n / 2 ^ w) (2 ^ w)) in
    sym (bit_at_cat_low (n / 2 ^ w) w (n % 2 ^ w) k h) ∙ ap (λ (x : ℕ). bit_at x k) whole

-- `m << j`, of w digits
digit_shl : (w m j k : ℕ) → k < w → j ≤ k → digit ((m * 2 ^ j) % 2 ^ w) k ≡ digit m (k - j)
unfolding digit
digit_shl w m j k h l = digit_mod w (m * 2 ^ j) k h ∙ rw add-zero at (bit_at_cat_high m j 0 k (pow_pos j) l)

digit_shl_low : (w m j k : ℕ) → k < w → k < j → digit ((m * 2 ^ j) % 2 ^ w) k ≡ 0
unfolding digit
digit_shl_low w m j k h l = digit_mod w (m * 2 ^ j) k h ∙ rw add-zero at (bit_at_cat_low m j 0 k l ∙ bit_at-zero k)

-- the mask has every column but c, by a test of each square
abbrev pub all_but : ℕ → ℕ → ℕ → Bool
all_but mask c zero = true
all_but mask c (suc k) = eqb (digit mask k) (cond (eqb (column k) c) 0 1) && all_but mask c k

module _ (mask c : ℕ) (all : all_but mask c 64 ≡ true) where
  mask_digit : (k : ℕ) → k < 64 → digit mask k ≡ cond (eqb (column k) c) 0 1
  mask_digit =
      (Decides-below_and (λ k. eqb (digit mask k) (cond (eqb (column k) c) 0 1)) (λ k. digit mask k ≡ cond (eqb (column k) c) 0 1)
      (all_but mask c) (λ k. Decides-eqb (digit mask k) (cond (eqb (column k) c) 0 1)) refl (λ n. refl) 64).0 all

  masked : (p k : ℕ) → k < 64 → digit (bit_and p mask) k ≡ 1 → (column k ≢ c) × (digit p k ≡ 1)
  masked p k h e =
      let m = mask_digit k h in
      let d = digit_and p mask k in
      let lp = digit_lt p k in
      (grind (arith, nat_tests), grind (arith, nat_tests))

  unmasked : (p k : ℕ) → k < 64 → column k ≢ c → digit p k ≡ 1 → digit (bit_and p mask) k ≡ 1
  unmasked p k h ne e = let m = mask_digit k h in digit_and p mask k ∙ grind (arith, nat_tests)

-- the ones of p lie one square in the direction in r
pub record Moved (d : Direction) (p r : ℕ) : Type 0 where
  pub only : (k : ℕ) → k < 64 → digit r k ≡ 1 → (j : ℕ) × (j < 64) × Toward d j k × (digit p j ≡ 1)
  pub each : (j k : ℕ) → j < 64 → k < 64 → Toward d j k → digit p j ≡ 1 → digit r k ≡ 1

module _ (p : ℕ) (fits : p < 2 ^ 64) where
  inside : (j : ℕ) → digit p j ≡ 1 → j < 64
  inside j e =
      ⊎_elim (λ (l : j < 64). l) (λ (l : 64 ≤ j). absurd (omega (arith, digit_high 64 p j fits l))) (cases_lt j 64)

  pub north : Moved North p ((p * 2 ^ 8) % 2 ^ 64)
  north = record {
    only = λ k h e.
        ⊎_elim
        (λ (l : k < 8). absurd (omega (arith, digit_shl_low 64 p 8 k h l)))
        (λ (l : 8 ≤ k). (k - 8, omega arith, (omega arith, omega arith), sym (digit_shl 64 p 8 k h l) ∙ e))
        (cases_lt k 8);
    each = λ j k l h t e. digit_shl 64 p 8 k h (omega arith) ∙ ap (digit p) (omega arith) ∙ e;
  }

  pub south : Moved South p (p / 2 ^ 8)
  south = record {
    only = λ k h e.
        let on = sym (digit_shr p 8 k) ∙ e in
        (8 + k, inside (8 + k) on, (omega arith, omega arith), on);
    each = λ j k l h t e. digit_shr p 8 k ∙ ap (digit p) (omega arith) ∙ e;
  }

  pub east : (mask : ℕ) → all_but mask 7 64 ≡ true → Moved East p ((bit_and p mask * 2 ^ 1) % 2 ^ 64)
  east mask all = record {
    only = λ k h e.
        ⊎_elim
        (λ (l : k < 1). absurd (omega (arith, digit_shl_low 64 (bit_and p mask) 1 k h l)))
        (λ (l : 1 ≤ k).
        let m = masked mask 7 all p (k - 1) (omega arith) (sym (digit_shl 64 (bit_and p mask) 1 k h l) ∙ e) in
        let ne = m.0 in
        (k - 1, omega arith, (omega arith, omega arith), m.1))
        (cases_lt k 1);
    each = λ j k l h t e.
        digit_shl 64 (bit_and p mask) 1 k h (omega arith)
        ∙ ap (digit (bit_and p mask)) (omega arith)
        ∙ unmasked mask 7 all p j l (omega arith) e;
  }

  pub west : (mask : ℕ) → all_but mask 0 64 ≡ true → Moved West p (bit_and p mask / 2 ^ 1)
  west mask all = record {
    only = λ k h e.
        let d = sym (digit_shr (bit_and p mask) 1 k) ∙ e in
        let l = inside (1 + k) (omega (arith, digit_and p mask (1 + k), digit_lt p (1 + k), digit_lt mask (1 + k))) in
        let m = masked mask 0 all p (1 + k) l d in
        let ne = m.0 in
        (1 + k, l, (omega arith, omega arith), m.1);
    each = λ j k l h t e.
        digit_shr (bit_and p mask) 1 k ∙ ap (digit (bit_and p mask)) (omega arith) ∙ unmasked mask 0 all p j l (omega arith) e;
  }
