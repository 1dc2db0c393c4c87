-- What std's array::from_fn makes by a function that changes nothing.
use Rattle.std.proofs.Common.{◌≡◌, ℕ, zero, suc, ◌+◌, ◌<◌, ◌≤◌, ⊎_elim, List, get_or, length, sym, ◌∙◌, ap, subst, arith}
use Rattle.std.proofs.lemmas.Bool.{cases_eq}
use Rattle.std.specs.Array.{IsFromFnResult, IsFromFnResultFrom}
use Rattle.std.specs.Fn.{Called}
use denote.Param.Members.{Mut}

module _ {F : Type 0} (g : Mut F (ℕ × Unit {0}) ℕ) (f : F) (made : ℕ → ℕ)
    (says : (i r : ℕ) (q : F) → Called g f (i, tt) r q → (q ≡ f) × (r ≡ made i)) where
  each_made : (ys : List ℕ) (i n : ℕ) → IsFromFnResultFrom g f ys i n → (k : ℕ) → i ≤ k → k < i + n → get_or ys k 0 ≡ made k
  each_made ys i zero h k a b = absurd (omega arith)
  each_made ys i (suc n) (q, y, at, called, rest) k a b =
      let now = says i y q called in
      ⊎_elim
      (λ (e : i ≡ k). ap (λ (x : ℕ). get_or ys x 0) (sym e) ∙ (at.1 0 ∙ (now.1 ∙ ap made e)))
      (λ (ne : i ≡ k → ⊥).
      each_made ys (i + 1) n (subst (λ (p : F). IsFromFnResultFrom g p ys (i + 1) n) now.0 rest) k (omega arith) (omega arith))
      (cases_eq i k)

  pub all_made : (ys : List ℕ) (n : ℕ) → IsFromFnResult g f ys n → (length ys ≡ n) × ((k : ℕ) → k < n → get_or ys k 0 ≡ made k)
  all_made ys n h = (h.long, λ k l. each_made ys 0 n h.each k (omega arith) (omega arith))
