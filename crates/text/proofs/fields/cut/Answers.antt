use Rattle.std.proofs.Common.{◌≡◌, ℕ, ◌+◌, ◌∷◌, Bool, eqb, take, drop, subst, rules}
use Rattle.std.specs.List.{slice_split, position_or_len}
use Rattle.std.proofs.lemmas.List.{take_rest}
use Rattle.std.proofs.lemmas.List.Splits.{slice_split_none, slice_split_first}
use Rattle.std.proofs.lemmas.List.Sums.{position_or_len_is}
use Rattle.text.proofs.fields.cut.Goals as goal

pub returns-in-Some : goal.returns-in-Some
returns-in-Some c =
    let text = c.args.text.now
    in let parts : ℕ → Bool = λ x. eqb x c.args.by
    in let at : position_or_len parts text ≡ c.in-Some.i =
    position_or_len_is parts text c.in-Some.i 0 (search rules) (λ k l. search rules) (λ l. search rules)
    in let P : ℕ → Type 0 = λ i. slice_split parts text ≡ take i text ∷ slice_split parts (drop (i + 1) text)
    in simp take_rest (subst P at (slice_split_first parts text 0 (search rules)))

pub returns-in-None : goal.returns-in-None
returns-in-None c = slice_split_none (λ x. eqb x c.args.by) c.args.text.now (search rules)
