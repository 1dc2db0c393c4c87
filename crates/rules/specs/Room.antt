-- How many steps a half-made turn may have made.
use Rattle.std.specs.Prelude.{ℕ}
use Rattle.rules.specs.declared.pending.Pending.{Pending}
use Rattle.rules.specs.declared.pending.Pending.TheVariants.{Nothing, Pull, Push}

-- four at most, and three where a push has to be finished
abbrev pub room : Pending → ℕ
room Nothing = 4
room (Pull s k) = 4
room (Push s k) = 3
