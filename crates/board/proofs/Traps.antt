-- The word of the traps.
use Rattle.std.proofs.Common.{◌≡◌, ℕ, zero, suc, ◌<◌, ◌≤◌, Bool, true, false, cond, ◌&&◌, ◌||◌, eqb, refl, inl, inr, ⊎_elim, arith, lit<}
use Rattle.std.proofs.lemmas.Bool.{cases_lt}
use Rattle.std.proofs.lemmas.Bool.Decides.{Decides-eqb, Decides-or, Decides-below_and}
use Rattle.bits.specs.Digits.{digit}
use Rattle.bits.proofs.Digits.{digit_high}
use Rattle.board.specs.Standing.{Trap}

abbrev word : ℕ
word = 0x0000_2400_0024_0000

abbrev trap : ℕ → Bool
trap s = eqb s 18 || (eqb s 21 || (eqb s 42 || eqb s 45))

-- each digit, by a test of all
abbrev tests : ℕ → Bool
tests zero = true
tests (suc s) = eqb (digit word s) (cond (trap s) 1 0) && tests s

all : tests 64 ≡ true
unfolding digit
all = refl

right : (s : ℕ) → s < 64 → digit word s ≡ cond (trap s) 1 0
right = (Decides-below_and (λ s. eqb (digit word s) (cond (trap s) 1 0)) (λ s. digit word s ≡ cond (trap s) 1 0) tests (λ s. Decides-eqb (digit word s) (cond (trap s) 1 0)) refl (λ n. refl) 64).0 all

pub digit_trap : (s : ℕ) → digit word s ≡ 1 → Trap s
digit_trap s e =
    ⊎_elim
    (λ (h : s < 64).
    let r = right s h in
    let d = Decides-or (eqb s 18) (eqb s 21 || (eqb s 42 || eqb s 45)) (Decides-eqb s 18)
    (Decides-or (eqb s 21) (eqb s 42 || eqb s 45) (Decides-eqb s 21) (Decides-or (eqb s 42) (eqb s 45) (Decides-eqb s 42) (Decides-eqb s 45))) in
    d.0 (go (trap s) r))
    (λ (h : 64 ≤ s). absurd (omega (arith, digit_high 64 word s (lit< tt) h)))
    (cases_lt s 64)
  where
    go : (b : Bool) → digit word s ≡ cond b 1 0 → b ≡ true
    go true r = refl
    go false r = absurd (omega arith)

pub trap_digit : (s : ℕ) → Trap s → digit word s ≡ 1
unfolding digit
trap_digit s (inl e) = rw e refl
trap_digit s (inr (inl e)) = rw e refl
trap_digit s (inr (inr (inl e))) = rw e refl
trap_digit s (inr (inr (inr e))) = rw e refl
