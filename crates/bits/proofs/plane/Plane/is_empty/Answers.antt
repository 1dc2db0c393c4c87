use Rattle.std.proofs.Common.{◌≡◌, ℕ, sym, ap, ◌∙◌, arith, pow_pos}
use Rattle.std.proofs.lemmas.Bool.Decides.{nat_tests}
use Rattle.bits.specs.Digits.{digit}
use Rattle.bits.proofs.Digits.{digit_of_zero, digit_ext}
use Rattle.bits.proofs.plane.Plane.is_empty.Goals as goal

pub returns : goal.returns
returns c =
    let word = c.args.self.word in (
      (λ t k.
          let e : word ≡ 0 = grind (arith, nat_tests) in
          ap (λ (x : ℕ). digit x k) e ∙ digit_of_zero k),
      (λ none.
          let e = digit_ext 64 word 0 c.args.self.fits (pow_pos 64) (λ k h. none k ∙ sym (digit_of_zero k)) in
          grind (arith, nat_tests)),
    )
