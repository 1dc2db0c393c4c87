use Rattle.std.proofs.Common.{refl, zero-le, arith}
use Rattle.bits.specs.Planes.{on}
use Rattle.bits.proofs.Digits.{chosen_none, chosen_first}
use Rattle.bits.proofs.plane.Plane.take_lowest.Goals as goal

pub returns-in_err-lowest : goal.returns-in_err-lowest
returns-in_err-lowest c =
    rw c.from_residual.ensures (chosen_none (on c.args.self.now) 0 64 c.in_err-lowest.ensures, refl)

pub returns : goal.returns
returns c =
    let s = c.in_ok-lowest.lowest in
    let first = c.in_ok-lowest.ensures in
    chosen_first (on c.args.self.now) (on c.without.result) s.number 0 64 zero-le (omega (arith, s.below))
    first.1 first.0 c.without.ensures.here (λ k ne. omega (arith, c.without.ensures.others k ne))
