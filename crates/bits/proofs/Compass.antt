-- A square is next to another exactly where it lies one square from it in some direction.
use Rattle.std.proofs.Common.{ℕ, sym, inl, inr}
use Rattle.bits.specs.declared.direction.Direction.{Direction}
use Rattle.bits.specs.declared.direction.Direction.TheVariants.{North, East, South, West}
use Rattle.bits.specs.Squares.{Toward, Next}

pub toward_next : (d : Direction) (j k : ℕ) → Toward d j k → Next k j
toward_next North j k t = inr (t.1, inr (sym t.0))
toward_next East j k t = inl (t.0, inr (sym t.1))
toward_next South j k t = inr (t.1, inl t.0)
toward_next West j k t = inl (t.0, inl t.1)

pub next_toward : (j k : ℕ) → Next k j → (d : Direction) × Toward d j k
next_toward j k (inl (r, inl c)) = (West, (r, c))
next_toward j k (inl (r, inr c)) = (East, (r, sym c))
next_toward j k (inr (c, inl r)) = (South, (r, c))
next_toward j k (inr (c, inr r)) = (North, (sym r, c))
