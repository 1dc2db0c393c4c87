-- Checks that hit alike are refused alike.
use Rattle.std.proofs.Common.{◌≡◌, ℕ, Bool, true, false, eqb, List, [], ◌∷◌, Result, MatchBool}
use Rattle.std.specs.Result.{IsErrAnd}
use Rattle.std.proofs.lemmas.Result.{err_from_is_err_and}
use Rattle.board.specs.declared.pieces.Side.{Side}
use Rattle.board.specs.declared.board.Board.{Board}
use Rattle.board.specs.declared.refusal.Refusal.{Refusal}
use Rattle.board.specs.Refusals.{Check, refusal_number, NoneHits, FirstHit}
use Rattle.rules.specs.Checks.{turn_checks}
use Rattle.rules.specs.Answers.{Answers}

abbrev EitherWay : Type 0 → Type 0 → Type 0
EitherWay A B = (A → B) × (B → A)

data Alike : List Check → List Check → Type 1 where
  none : Alike [] []
  more : {n : ℕ} {A B : Type 0} {cs ds : List Check} → EitherWay A B → Alike cs ds → Alike ((n, A) ∷ cs) ((n, B) ∷ ds)

none_hits : {cs ds : List Check} → Alike cs ds → NoneHits cs → NoneHits ds
none_hits none h = tt
none_hits (more e r) h = (λ b. h.0 (e.1 b), none_hits r h.1)

first_hit : {cs ds : List Check} → Alike cs ds → (n : ℕ) → FirstHit cs n → FirstHit ds n
first_hit none n h = h
first_hit (more {n = m} {A = A} {B = B} {cs = cs} {ds = ds} e r) n h = go (eqb m n) (first_hit r n) h
  where
    go : (x : Bool) → (FirstHit cs n → FirstHit ds n) → MatchBool x A ((A → ⊥) × FirstHit cs n) → MatchBool x B ((B → ⊥) × FirstHit ds n)
    go true rest a = e.0 a
    go false rest k = (λ b. k.0 (e.1 b), rest k.1)

same : {A : Type 0} → EitherWay A A
same = (λ a. a, λ a. a)

module _ (side : Side) (b : Board) (c : ℕ) {M N U M' N' U' : Type 0} (m : EitherWay M M') (n : EitherWay N N') (u : EitherWay U U') where
  alike : Alike (turn_checks side b c M N U) (turn_checks side b c M' N' U')
  alike = more same (more same (more m (more same (more n (more same (more same (more u none)))))))

  pub turn_none : NoneHits (turn_checks side b c M N U) → NoneHits (turn_checks side b c M' N' U')
  turn_none = none_hits alike

  pub turn_first : (k : ℕ) → FirstHit (turn_checks side b c M N U) k → FirstHit (turn_checks side b c M' N' U') k
  turn_first = first_hit alike

  -- a refusal by the checks with the first conditions is one by those with the others
  pub turn_refused : {A : Type 0} (accepted : A → Type 0) (r : Result A Refusal) (why : Refusal) → IsErrAnd r (λ e. e ≡ why)
      → FirstHit (turn_checks side b c M N U) (refusal_number why) → Answers (turn_checks side b c M' N' U') accepted r
  turn_refused accepted r why out h = let p = err_from_is_err_and r out in rw (p.1, p.2) (turn_first (refusal_number why) h)
