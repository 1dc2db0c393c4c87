-- Sides, kinds and pieces.
use Rattle.std.specs.Prelude.{◌≡◌, ℕ, ◌<◌, Result, MatchResult}
use Rattle.board.specs.declared.pieces.Side.{Side}
use Rattle.board.specs.declared.pieces.Side.TheVariants.{Gold, Silver}
use Rattle.board.specs.declared.pieces.Kind.{Kind}
use Rattle.board.specs.declared.pieces.Kind.TheVariants.{Elephant, Camel, Horse, Dog, Cat, Rabbit}
use Rattle.board.specs.declared.refusal.Refusal.{Refusal}
use Rattle.board.specs.declared.refusal.Refusal.TheVariants.{SideNumber}

abbrev pub opponent : Side → Side
opponent Gold = Silver
opponent Silver = Gold

abbrev pub side_number : Side → ℕ
side_number Gold = 0
side_number Silver = 1

-- a number is read as the side with that number, and one above 1 is refused
abbrev pub SideRead : ℕ → Result Side Refusal → Type 0
SideRead n r = MatchResult r (λ side. side_number side ≡ n) (λ e. (e ≡ SideNumber) × (1 < n))

-- a kind's strength
abbrev pub power : Kind → ℕ
power Elephant = 6
power Camel = 5
power Horse = 4
power Dog = 3
power Cat = 2
power Rabbit = 1

-- the first kind is stronger than the second
abbrev pub Stronger : Kind → Kind → Type 0
Stronger j k = power k < power j

-- the full set: how many of a kind each side begins with
abbrev pub full : Kind → ℕ
full Elephant = 1
full Camel = 1
full Horse = 2
full Dog = 2
full Cat = 2
full Rabbit = 8
