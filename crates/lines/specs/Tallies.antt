-- What adding a line to a store comes to.
use Rattle.std.specs.Prelude.{◌≡◌, ℕ, List, Result, IfOk}
use Rattle.store.specs.Views.{View, Adds}
use Rattle.store.specs.declared.store.Refused.{Refused}
use Rattle.keys.specs.Words.{same_words}
use Rattle.lines.specs.declared.line.Line.{Line}
use Rattle.lines.specs.Words.{words_of}

-- the key is added, or refused and why; where it is added, c is the count that it then has
abbrev pub Comes : View Line → View Line → Line → Result ℕ Refused → Type 0
Comes s t k r = Adds (λ x y. same_words x.words y.words) s t k r × IfOk r (λ c. c ≡ t.count k)

-- by the key of its first 64 bytes
abbrev pub TalliedAs : View Line → View Line → List ℕ → Result ℕ Refused → Type 0
TalliedAs s t text r = (k : Line) × (k.words ≡ words_of text) × Comes s t k r
