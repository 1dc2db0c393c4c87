use Rattle.std.proofs.Common.{ℕ, List, ◌++◌, vec_items}
use Rattle.text.specs.Numerals.{Numerals}
use Rattle.text.specs.Fields.{to_come}
use Rattle.turn.proofs.task.numbers.Given as goal

-- the fields spell the numbers so far and then what the rest spells
abbrev pub invariant-loop-field : goal.invariant-loop-field
invariant-loop-field l =
    (goal.iterator-loop-field).can_next l.field-iterator
    × (goal.iterator-loop-field).is_finite l.field-iterator
    × ((ns : List ℕ) → Numerals (to_come l.field-iterator) ns → Numerals (to_come l.fields) (vec_items l.numbers ++ ns))
    × ((ns : List ℕ) → Numerals (to_come l.fields) ns → (ms : List ℕ) × Numerals (to_come l.field-iterator) ms)
