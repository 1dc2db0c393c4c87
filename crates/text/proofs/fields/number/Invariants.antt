use Rattle.std.proofs.Common.{ℕ, ◌≤◌, drop}
use Rattle.text.specs.Numerals.{Spells}
use Rattle.text.proofs.fields.number.Given as goal

-- the text spells what the rest spells after the value so far, which is a byte
abbrev pub invariant-loop-byte : goal.invariant-loop-byte
invariant-loop-byte l =
    ((n : ℕ) → Spells 0 l.text n → Spells l.value (drop l.byte-index l.text) n)
    × ((n : ℕ) → Spells l.value (drop l.byte-index l.text) n → Spells 0 l.text n)
    × (l.value ≤ 255)
