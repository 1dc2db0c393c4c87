-- What a walk over the pieces of a text has before it.
use Rattle.std.specs.Prelude.{ℕ, List, [], Some, None, Option}
use Rattle.std.specs.Borrow.{Bor}
use Rattle.text.specs.declared.fields.Pieces.{Pieces}
use Rattle.text.specs.Parting.{pieces}

-- the pieces of what is left, if anything is
abbrev pub pieces_left : ℕ → Option (Bor (List ℕ)) → List (List ℕ)
pieces_left by None = []
pieces_left by (Some rest) = pieces by rest.now

abbrev pub to_come : Pieces → List (List ℕ)
to_come w = pieces_left w.by w.rest
