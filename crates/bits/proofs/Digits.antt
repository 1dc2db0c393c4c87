-- The digits of a word: what `&`, `|`, `!`, `1 << s`, `count_ones` and `trailing_zeros` make of each, and sums and lists over them.
use Rattle.std.proofs.Common.{◌≡◌, ℕ, zero, suc, ◌+◌, ◌-◌, ◌*◌, ◌/◌, ◌%◌, ◌^◌, ◌<◌, ◌≤◌, min, max, ◌≢◌, [], ◌∷◌, refl, sym, ap, ◌∙◌, ap₂, ⊎_elim, pow-suc, pow_pos, arith, w64}
use lib.Arith.{lt-one}
use lib.Bits.{bit_and, bit_or}
use lib.Count.{ones, count_trailing_zeros, ones_step}
use Rattle.std.proofs.lemmas.Nat.{or_lt}
use Rattle.std.proofs.lemmas.Nat.Bits.{bit_at_lowest, bit_at-suc, bit_at-zero, shr_and_one, bit_at_and, bit_at_or, bit_at-trailing_zeros, bit_at_set_same, bit_at_set_other, bit_at_clear_same, bit_at_clear_other, bit_at-lt, same_from_bits_below, bit_at_above}
use Rattle.std.proofs.lemmas.Bool.{cases_eq, cases_lt}
use Rattle.bits.specs.Digits.{digit, tally, pick, chosen}

pub digit_lt : (n k : ℕ) → digit n k < 2
unfolding digit
digit_lt = bit_at-lt

pub digit_zero : (n : ℕ) → digit n 0 ≡ n % 2
unfolding digit
digit_zero = bit_at_lowest

pub digit_suc : (n k : ℕ) → digit n (suc k) ≡ digit (n / 2) k
unfolding digit
digit_suc = bit_at-suc

pub digit_of_zero : (k : ℕ) → digit 0 k ≡ 0
unfolding digit
digit_of_zero = bit_at-zero

pub digit_high : (w n k : ℕ) → n < 2 ^ w → w ≤ k → digit n k ≡ 0
unfolding digit
digit_high w n k h l = bit_at_above n w k h l

-- two words with the same digits are one
pub digit_ext : (w a b : ℕ) → a < 2 ^ w → b < 2 ^ w → ((k : ℕ) → k < w → digit a k ≡ digit b k) → a ≡ b
unfolding digit
digit_ext = same_from_bits_below

pub digit_and : (a b k : ℕ) → digit (bit_and a b) k ≡ min (digit a k) (digit b k)
unfolding digit
digit_and = bit_at_and

pub digit_or : (a b k : ℕ) → digit (bit_or a b) k ≡ max (digit a k) (digit b k)
unfolding digit
digit_or = bit_at_or

pub or_of_64 : (a b : ℕ) → a < 2 ^ 64 → b < 2 ^ 64 → bit_or a b < 2 ^ 64
or_of_64 = or_lt 64

-- `(n >> k) & 1`
pub digit_and_one : (n k : ℕ) → bit_and (n / 2 ^ k) 1 ≡ digit n k
unfolding digit
digit_and_one = shr_and_one

-- `!m`, of w digits
digit_not : (w m k : ℕ) → m < 2 ^ w → k < w → digit ((2 ^ w - 1) - m) k ≡ 1 - digit m k
digit_not zero m k h l = absurd (omega arith)
digit_not (suc w) m zero h l =
    let p = pow-suc 2 w in
    digit_zero ((2 ^ suc w - 1) - m) ∙ omega (arith, digit_zero m, pow_pos w)
digit_not (suc w) m (suc k) h l =
    let p = pow-suc 2 w in
    let half : ((2 ^ suc w - 1) - m) / 2 ≡ (2 ^ w - 1) - m / 2 = omega (arith, pow_pos w) in
    digit_suc ((2 ^ suc w - 1) - m) k ∙ ap (λ (x : ℕ). digit x k) half
    ∙ digit_not w (m / 2) k (omega arith) (omega arith)
    ∙ ap (λ (x : ℕ). 1 - x) (sym (digit_suc m k))

-- `a & !b`
pub digit_minus : (w a b k : ℕ) → a < 2 ^ w → b < 2 ^ w → digit (bit_and a ((2 ^ w - 1) - b)) k ≡ digit a k - digit b k
digit_minus w a b k ha hb =
    digit_and a ((2 ^ w - 1) - b) k
    ∙ ⊎_elim
    (λ (l : k < w). omega (arith, digit_not w b k hb l, digit_lt a k, digit_lt b k))
    (λ (l : w ≤ k). omega (arith, digit_high w a k ha l))
    (cases_lt k w)

pub minus_of_64 : (a b k : ℕ) → a < 2 ^ 64 → b < 2 ^ 64 → digit (bit_and a (2 ^ 64 - 1 - b)) k ≡ digit a k - digit b k
minus_of_64 = digit_minus 64

-- `n | 1 << s`
pub digit_with_here : (n s : ℕ) → s < 64 → digit (bit_or n (1 * 2 ^ s % 2 ^ 64)) s ≡ 1
unfolding digit
digit_with_here = bit_at_set_same w64

pub digit_with_other : (n s k : ℕ) → s < 64 → k ≢ s → digit (bit_or n (1 * 2 ^ s % 2 ^ 64)) k ≡ digit n k
unfolding digit
digit_with_other n s k h ne = bit_at_set_other w64 n s h k ne

-- `n & !(1 << s)`
pub digit_without_here : (n s : ℕ) → s < 64 → digit (bit_and n (2 ^ 64 - 1 - 1 * 2 ^ s % 2 ^ 64)) s ≡ 0
unfolding digit
digit_without_here = bit_at_clear_same w64

pub digit_without_other : (n s k : ℕ) → n < 2 ^ 64 → s < 64 → k ≢ s → digit (bit_and n (2 ^ 64 - 1 - 1 * 2 ^ s % 2 ^ 64)) k ≡ digit n k
unfolding digit
digit_without_other n s k f h ne =
    ⊎_elim
    (λ (l : k < 64). bit_at_clear_other w64 n s h k l ne)
    (λ (l : 64 ≤ k). omega (arith, bit_at_and n (2 ^ 64 - 1 - 1 * 2 ^ s % 2 ^ 64) k, bit_at_above n 64 k f l))
    (cases_lt k 64)

-- the lowest one of a word that is not 0
pub trailing : (m : ℕ) → 0 < m → m < 2 ^ 64
    → (count_trailing_zeros 64 m < 64) × (digit m (count_trailing_zeros 64 m) ≡ 1) × ((k : ℕ) → k < count_trailing_zeros 64 m → digit m k ≡ 0)
unfolding digit
trailing = bit_at-trailing_zeros w64

pub tally_cong : (f g : ℕ → ℕ) (n : ℕ) → ((k : ℕ) → k < n → f k ≡ g k) → tally f n ≡ tally g n
unfolding tally
tally_cong f g zero e = refl
tally_cong f g (suc n) e = ap₂ ◌+◌ (tally_cong f g n (λ k h. e k (omega arith))) (e n (omega arith))

tally_first : (f : ℕ → ℕ) (n : ℕ) → tally f (suc n) ≡ f 0 + tally (λ k. f (suc k)) n
unfolding tally
tally_first f zero = omega arith
tally_first f (suc n) = omega (arith, tally_first f n)

-- `count_ones`
pub ones_tally : (w n : ℕ) → n < 2 ^ w → ones n ≡ tally (digit n) w
unfolding tally ones
ones_tally zero n h = ap ones (lt-one h)
ones_tally (suc w) n h =
    let p = pow-suc 2 w in
    ones_step n
    ∙ ap₂ ◌+◌ (sym (digit_zero n))
    (ones_tally w (n / 2) (omega arith) ∙ tally_cong (digit (n / 2)) (λ k. digit n (suc k)) w (λ k h. sym (digit_suc n k)))
    ∙ sym (tally_first (digit n) w)

chosen_cong : (f g : ℕ → ℕ) (s w : ℕ) → ((k : ℕ) → s ≤ k → f k ≡ g k) → chosen f s w ≡ chosen g s w
unfolding chosen
chosen_cong f g s zero e = refl
chosen_cong f g s (suc w) e =
    ap₂ (λ x y. pick x (s ∷ y) y) (e s (omega arith)) (chosen_cong f g (suc s) w (λ k h. e k (omega arith)))

pub chosen_none : (f : ℕ → ℕ) (s w : ℕ) → ((k : ℕ) → f k ≡ 0) → chosen f s w ≡ []
unfolding chosen
chosen_none f s zero e = refl
chosen_none f s (suc w) e =
    ap (λ x. pick x (s ∷ chosen f (suc s) w) (chosen f (suc s) w)) (e s) ∙ chosen_none f (suc s) w e

-- the first that is chosen, and the others
pub chosen_first : (f g : ℕ → ℕ) (t s w : ℕ) → s ≤ t → t < s + w → ((k : ℕ) → k < t → f k ≡ 0) → f t ≡ 1 → g t ≡ 0
    → ((k : ℕ) → k ≢ t → g k ≡ f k) → chosen f s w ≡ t ∷ chosen g s w
unfolding chosen
chosen_first f g t s zero a b below here gone rest = absurd (omega arith)
chosen_first f g t s (suc w) a b below here gone rest =
    ⊎_elim
    (λ (e : s ≡ t).
    let fs : f s ≡ 1 = ap f e ∙ here in
    let gs : g s ≡ 0 = ap g e ∙ gone in
    ap (λ x. pick x (s ∷ chosen f (suc s) w) (chosen f (suc s) w)) fs
    ∙ ap₂ (λ x y. x ∷ y) e (chosen_cong f g (suc s) w (λ k h. sym (rest k (omega arith))))
    ∙ ap (λ x. t ∷ pick x (s ∷ chosen g (suc s) w) (chosen g (suc s) w)) (sym gs))
    (λ (ne : s ≡ t → ⊥).
    let fs : f s ≡ 0 = below s (omega arith) in
    let gs : g s ≡ 0 = rest s ne ∙ fs in
    ap (λ x. pick x (s ∷ chosen f (suc s) w) (chosen f (suc s) w)) fs
    ∙ chosen_first f g t (suc s) w (omega arith) (omega arith) below here gone rest
    ∙ ap (λ x. t ∷ pick x (s ∷ chosen g (suc s) w) (chosen g (suc s) w)) (sym gs))
    (cases_eq s t)
