-- What a store holds after a line is added.
use Rattle.std.proofs.Common.{◌≡◌, ℕ, ◌+◌, ◌<◌, List, Result, Ok, Err, ap, ◌∙◌, rules, arith}
use Rattle.store.specs.Views.{View, Kept, Raised}
use Rattle.store.specs.declared.store.Refused.{Refused}
use Rattle.store.specs.declared.store.Refused.TheVariants.{Full, Saturated}
use Rattle.keys.specs.Words.{same_words}
use Rattle.keys.proofs.Words.{words_self}
use Rattle.lines.specs.declared.line.Line.{Line}
use Rattle.lines.specs.Tallies.{TalliedAs}

-- a key is raised by an addition, and kept by what comes after
pub raised_kept : (s t u : View Line) (k : Line) → Raised (λ x y. same_words x.words y.words) s t k → Kept t u → Raised (λ x y. same_words x.words y.words) s u k
raised_kept s t u k up kept =
    record {
      capacity = kept.capacity ∙ up.capacity;
      below = up.below;
      raised = λ q e. kept.count q ∙ up.raised q e;
      others = λ q e. kept.count q ∙ up.others q e;
      old = λ p. kept.held ∙ up.old p;
      new = λ p. ((up.new p).0, kept.held ∙ (up.new p).1);
    }

-- one more, for which there was room, where its key has then a count of 1
pub one_more : (s t : View Line) (text : List ℕ) (r : Result ℕ Refused) → TalliedAs s t text r → r ≡ Ok 1 → (s.held < s.capacity) × (t.held ≡ s.held + 1)
one_more s t text (Ok c) (k, e, (up, is)) f =
    let one : t.count k ≡ s.count k + 1 = up.raised k (words_self k.words) in
    let first : c ≡ 1 = search rules in
    up.new (omega arith)
one_more s t text (Err e) h f = search rules

-- and else as many as before
pub as_many : (s t : View Line) (text : List ℕ) (r : Result ℕ Refused) → TalliedAs s t text r → (r ≡ Ok 1 → ⊥) → t.held ≡ s.held
as_many s t text (Ok c) (k, e, (up, is)) f =
    let one : t.count k ≡ s.count k + 1 = up.raised k (words_self k.words) in
    let more : c ≡ 1 → ⊥ = λ m. f (ap Ok m) in
    up.old (omega arith)
as_many s t text (Err Full) (k, e, (up, is)) f = up.2.held
as_many s t text (Err Saturated) (k, e, (up, is)) f = up.1.held

-- and as much room
pub as_much_room : (s t : View Line) (text : List ℕ) (r : Result ℕ Refused) → TalliedAs s t text r → t.capacity ≡ s.capacity
as_much_room s t text (Ok c) (k, e, (up, is)) = up.capacity
as_much_room s t text (Err Full) (k, e, (up, is)) = up.2.capacity
as_much_room s t text (Err Saturated) (k, e, (up, is)) = up.1.capacity
