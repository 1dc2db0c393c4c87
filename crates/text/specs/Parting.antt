-- The pieces of a text, which are parted by a byte.
use Rattle.std.specs.Prelude.{ℕ, cond, List, [], ◌∷◌, ◌==◌}
use Rattle.std.specs.List.{slice_split, onto_first}

-- the pieces between the bytes that part them: one more than there are such bytes
abbrev pub pieces : ℕ → List ℕ → List (List ℕ)
pieces by text = slice_split (λ c. c == by) text

-- the lines: each ends with a line feed, which the last may lack
unfoldable pub lines_of : List ℕ → List (List ℕ)
lines_of [] = []
lines_of (c ∷ cs) = cond (c == 10) ([] ∷ lines_of cs) (onto_first c (lines_of cs))
