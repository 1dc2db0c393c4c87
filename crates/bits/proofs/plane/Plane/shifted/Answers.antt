use Rattle.std.proofs.Common.{sym, refl, ◌∙◌}
use Rattle.bits.specs.Digits.{digit}
use Rattle.bits.proofs.Shifts.{Moved, north, east, south, west}
use Rattle.bits.proofs.plane.Plane.shifted.Goals as goal
use Rattle.bits.proofs.plane.Plane.shifted.Goals.{in-North, in-East, in-South, in-West}

pub returns : goal.returns
unfolding digit
returns c =
    let p = c.args.self.word in
    let fits = c.args.self.fits in
    let m : Moved c.args.direction p c.match-direction.new =
    elim c.match-direction.branch [
      | in-North w ↦ rw (w.in-North.is, w.new-is) (north p fits)
      | in-East w ↦ rw (w.in-East.is, w.new-is) (east p fits _ refl)
      | in-South w ↦ rw (w.in-South.is, w.new-is) (south p fits)
      | in-West w ↦ rw (w.in-West.is, w.new-is) (west p fits _ refl)
    ] in
    record {
      only = λ k h e. m.only k h (sym (c.new.ensures k) ∙ e);
      each = λ j k l h t e. c.new.ensures k ∙ m.each j k l h t e;
    }
