-- Keys that are told apart by a list of numbers, such as the words of a record.
use Rattle.std.specs.Prelude.{ℕ, Bool, List, nat_eq}
use Rattle.std.specs.declared.cmp.Ordering.{Ordering}
use Rattle.std.specs.Cmp.Lexicographic.{pointwise, slice_cmp}
use Rattle.std.specs.Ordering.{nat_cmp}

-- the lists have the same numbers
abbrev pub same_words : List ℕ → List ℕ → Bool
same_words = pointwise nat_eq

-- by the first numbers that differ
abbrev pub word_order : List ℕ → List ℕ → Ordering
word_order = slice_cmp nat_cmp
