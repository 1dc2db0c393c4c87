-- The line of a task.
use Rattle.std.specs.Prelude.{◌≡◌, ℕ, List, ◌∷◌, Some, None, vec_items, Option}
use Rattle.turn.specs.declared.task.Task.{Task}
use Rattle.text.specs.Parting.{pieces}
use Rattle.text.specs.Numerals.{Numeral, Numerals}

-- the line has the letters, the side number and the codes, with one space between two
pub record Says (line letters : List ℕ) (side : ℕ) (codes : List ℕ) : Type 0 where
  pub side_text : List ℕ
  pub code_texts : List (List ℕ)
  pub parts : pieces 32 line ≡ letters ∷ side_text ∷ code_texts
  pub spells_side : Numeral side_text side
  pub spells_codes : Numerals code_texts codes

-- what is read of the line: its task, or that it says none
abbrev pub ReadAs : List ℕ → Option Task → Type 0
ReadAs line None = (letters codes : List ℕ) (side : ℕ) → Says line letters side codes → ⊥
ReadAs line (Some t) = Says line t.letters.now t.side (vec_items t.codes)
