-- What is known of a result once its error is mapped.
use Rattle.std.proofs.Common.{◌≡◌, Ok, Err, Result, MatchResult, subst}
use Rattle.std.specs.Result.{IsErrAnd}

module _ {T E D : Type 0} (P : T → Type 0) (Q : E → Type 0) (F : E → D → Type 0) where
  pub mapped_ok : (r : Result T E) (m : Result T D) (x : T) → MatchResult r P Q → MatchResult r (λ y. m ≡ Ok y) (λ e. IsErrAnd m (F e)) → m ≡ Ok x → P x
  mapped_ok (Ok y) m x p h e = let same : y ≡ x = cc in subst P same p
  mapped_ok (Err y) m x q h e = absurd (rw e at h)

  pub mapped_err : (r : Result T E) (m : Result T D) (d : D) → MatchResult r P Q → MatchResult r (λ y. m ≡ Ok y) (λ e. IsErrAnd m (F e)) → m ≡ Err d → (e : E) × Q e × F e d
  mapped_err (Ok y) m d p h e = cc
  mapped_err (Err y) m d q h e = (y, q, rw e at h)
