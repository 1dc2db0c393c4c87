use Rattle.std.proofs.Common.{◌≡◌, ◌^◌, ◌<◌, zero, suc, ℕ, arith}
use lib.Bits.{bit_and, and_le_l}
use lib.Count.{count_trailing_zeros}
use Rattle.std.proofs.lemmas.Bool.Decides.{nat_tests}
use Rattle.bits.specs.Digits.{digit}
use Rattle.bits.proofs.Digits.{digit_lt, digit_and, digit_of_zero, trailing}
use Rattle.bits.proofs.plane.Plane.meets.Goals as goal

-- a word with a one is not 0
one_above : (m k : ℕ) → digit m k ≡ 1 → 0 < m
one_above zero k e = absurd (omega (arith, digit_of_zero k))
one_above (suc m) k e = omega arith

pub returns : goal.returns
returns c =
    let a = c.args.self.word in
    let b = c.args.other.word in
    let fits : bit_and a b < 2 ^ 64 = omega (arith, and_le_l a b) in (
      (λ t.
          let above : 0 < bit_and a b = grind (arith, nat_tests) in
          let k = count_trailing_zeros 64 (bit_and a b) in
          let here = trailing (bit_and a b) above fits in
          (k, here.0, omega (arith, digit_and a b k, digit_lt a k, digit_lt b k), omega (arith, digit_and a b k, digit_lt a k, digit_lt b k))),
      (λ s.
          let above = one_above (bit_and a b) s.0 (omega (arith, digit_and a b s.0)) in
          grind (arith, nat_tests)),
    )
