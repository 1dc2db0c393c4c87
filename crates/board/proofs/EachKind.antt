-- The six kinds as a list, and tests of each.
use Rattle.std.proofs.Common.{◌≡◌, ℕ, ◌<◌, Bool, List, [], ◌∷◌, get_or, Decides, sym, refl, subst, arith}
use Rattle.std.specs.List.{list_any, list_all}
use Rattle.std.proofs.lemmas.Bool.Decides.{Decides-by_and, Decides-by_or}
use Rattle.board.specs.declared.pieces.Kind.{Kind}
use Rattle.board.specs.declared.pieces.Kind.TheVariants.{Elephant, Camel, Horse, Dog, Cat, Rabbit}

abbrev pub kinds : List Kind
kinds = Elephant ∷ Camel ∷ Horse ∷ Dog ∷ Cat ∷ Rabbit ∷ []

-- the place of a kind in the list
listed : (kind : Kind) → (k : ℕ) × (k < 6) × ((d : Kind) → get_or kinds k d ≡ kind)
listed Elephant = (0, omega arith, λ d. refl)
listed Camel = (1, omega arith, λ d. refl)
listed Horse = (2, omega arith, λ d. refl)
listed Dog = (3, omega arith, λ d. refl)
listed Cat = (4, omega arith, λ d. refl)
listed Rabbit = (5, omega arith, λ d. refl)

module _ (test : Kind → Bool) (P : Kind → Type 0) (each : (kind : Kind) → Decides (test kind) (P kind)) where
  pub any_decides : Decides (list_any test kinds) ((kind : Kind) × P kind)
  any_decides =
      let all = Decides-by_or test P (list_any test) each refl (λ _ _. refl) kinds in (
        (λ t. let found = all.0 t in (get_or kinds found.0 Rabbit, found.2 Rabbit)),
        (λ some. let at = listed some.0 in all.1 (at.0, at.1, λ d. subst P (sym (at.2 d)) some.1)),
      )

  pub all_decides : Decides (list_all test kinds) ((kind : Kind) → P kind)
  all_decides =
      let all = Decides-by_and test P (list_all test) each refl (λ _ _. refl) kinds in (
        (λ t kind. let at = listed kind in subst P (at.2 kind) (all.0 t at.0 kind at.1)),
        (λ every. all.1 (λ k d h. every (get_or kinds k d))),
      )
