-- The lines of a text by its last byte.
use Rattle.std.proofs.Common.{◌≡◌, ℕ, suc, ◌-◌, ◌<◌, cond, eqb, List, [], ◌∷◌, ◌++◌, length, get_or, take, sym, refl, ap, ◌∙◌, arith, ne_eqb}
use Rattle.std.specs.List.{onto_first}
use Rattle.std.proofs.Math.Seq.{take-suc}
use Rattle.std.proofs.lemmas.List.{take_all}
use Rattle.text.specs.Parting.{pieces, lines_of}

ended : (text : List ℕ) → pieces 10 text ≡ lines_of (text ++ (10 ∷ []))
unfolding lines_of
ended [] = refl
ended (c ∷ cs) = ap (λ ps. cond (eqb c 10) ([] ∷ ps) (onto_first c ps)) (ended cs)

open_ended : (text : List ℕ) (c : ℕ) → (c ≡ 10 → ⊥) → pieces 10 (text ++ (c ∷ [])) ≡ lines_of (text ++ (c ∷ []))
unfolding lines_of
open_ended [] c other = simp (ne_eqb c 10 other) refl
open_ended (x ∷ xs) c other = ap (λ ps. cond (eqb x 10) ([] ∷ ps) (onto_first x ps)) (open_ended xs c other)

pub no_lines : (text : List ℕ) → length text < 1 → [] ≡ lines_of text
unfolding lines_of
no_lines [] lt = refl
no_lines (c ∷ cs) lt = absurd (omega arith)

to_last : (text : List ℕ) → 0 < length text → text ≡ take (length text - 1) text ++ (get_or text (length text - 1) 0 ∷ [])
to_last text lt = sym (take_all (suc (length text - 1)) text (omega arith)) ∙ take-suc text (length text - 1) 0 (omega arith)

-- a line feed at the end begins no line
pub last_ended : (text : List ℕ) → 0 < length text → get_or text (length text - 1) 0 ≡ 10
    → pieces 10 (take (length text - 1) text) ≡ lines_of text
last_ended text lt e =
    let front = take (length text - 1) text
    in ended front ∙ ap lines_of (ap (λ c. front ++ (c ∷ [])) (sym e) ∙ sym (to_last text lt))

-- a last line that lacks its line feed is one all the same
pub last_open : (text : List ℕ) → 0 < length text → (get_or text (length text - 1) 0 ≡ 10 → ⊥) → pieces 10 text ≡ lines_of text
last_open text lt other =
    let whole = to_last text lt
    in ap (pieces 10) whole ∙ open_ended (take (length text - 1) text) (get_or text (length text - 1) 0) other ∙ ap lines_of (sym whole)
