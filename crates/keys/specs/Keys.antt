-- What comparing two keys answers.
use Rattle.std.specs.Prelude.{◌≡◌, Bool, true}
use Rattle.std.specs.declared.cmp.Ordering.TheVariants.{Less, Equal}
use Rattle.std.specs.declared.cmp.Ordering.{Ordering}
use Rattle.std.specs.Ordering.{ordering_reverse}

-- r is how x stands to y in a total order, in which exactly the equal keys tie
pub record Compares {K : Type 0} (eq : K → K → Bool) (order : K → K → Ordering) (x y : K) (r : Ordering) : Type 0 where
  pub value : r ≡ order x y
  pub tie : r ≡ Equal → eq x y ≡ true
  pub tied : eq x y ≡ true → r ≡ Equal
  -- what equals x stands to y as x does
  pub alike : (z : K) → eq x z ≡ true → order z y ≡ r
  -- y stands to x the other way round
  pub turns : order y x ≡ ordering_reverse r
  -- what is greater than y is greater than what is less than y
  pub climbs : (z : K) → r ≡ Less → order y z ≡ Less → order x z ≡ Less
