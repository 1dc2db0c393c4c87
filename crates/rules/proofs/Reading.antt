-- Reading a code is finishing a push, beginning one, or stepping.
use Rattle.std.proofs.Common.{◌≡◌, ℕ, ◌≤◌, ◌⊎◌, Bool, false, Result, Decides, inl, inr, arith}
use Rattle.std.proofs.lemmas.Bool.Decides.{not_from_Decides}
use Rattle.std.proofs.lemmas.Result.{MatchResult-weaker}
use Rattle.board.specs.declared.refusal.Refusal.{Refusal}
use Rattle.board.specs.Refusals.{refusal_number}
use Rattle.rules.specs.declared.half_turn.HalfTurn.{HalfTurn}
use Rattle.rules.specs.HalfTurns.{Half, NoPush, opened, half_of, StepsPush, StepsAfter, Takes}
use Rattle.rules.specs.HalfTurns.Takes.{plain, pull, push, after}
use Rattle.rules.specs.Checks.{Foreign, step_checks, begin_checks, finish_checks, read_checks}
use Rattle.rules.specs.Answers.{Answers, GoesOn, Steps}
use Rattle.rules.proofs.Alike.{turn_none, turn_first}
use Rattle.rules.proofs.Taking.{closed}

-- with no push open, an enemy step that ends no pull is one too many after three, any other after four
three_made : {P F : Type 0} (n : ℕ) → F → (P × (3 ≤ n) → P × ((4 ≤ n) ⊎ ((3 ≤ n) × F))) × (P × ((4 ≤ n) ⊎ ((3 ≤ n) × F)) → P × (3 ≤ n))
three_made {P} {F} n foreign = (λ f. (f.0, inr (f.1, foreign)), λ f. (f.0, few f.1))
  where
    few : (4 ≤ n) ⊎ ((3 ≤ n) × F) → 3 ≤ n
    few (inl h) = omega arith
    few (inr h) = h.0

four_made : {P F : Type 0} (n : ℕ) → (F → ⊥) → (P × (4 ≤ n) → P × ((4 ≤ n) ⊎ ((3 ≤ n) × F))) × (P × ((4 ≤ n) ⊎ ((3 ≤ n) × F)) → P × (4 ≤ n))
four_made {P} {F} n own = (λ f. (f.0, inl f.1), λ f. (f.0, few f.1))
  where
    few : (4 ≤ n) ⊎ ((3 ≤ n) × F) → 4 ≤ n
    few (inl h) = h
    few (inr h) = absurd (own h.1)

module _ (h : HalfTurn) (c : ℕ) (r : Result HalfTurn Refusal) where
  abbrev Read : Type 0
  Read = Answers (read_checks h.side (half_of h) c) (GoesOn Takes h c) r

  abbrev Idle : Type 0
  Idle = NoPush (opened h.pending)

  pub reads_finish : (Idle → ⊥) → Answers (finish_checks h.side (half_of h) c) (GoesOn StepsAfter h c) r → Read
  reads_finish busy a =
      MatchResult-weaker r a
      (λ x f. (turn_none h.side h.board c ((λ x. absurd x), λ f. busy f.0) ((λ x. absurd x), λ f. busy f.0) ((λ f. (busy, f)), λ f. f.1) f.0, (f.1.0, after f.1.1)))
      (λ why f. turn_first h.side h.board c ((λ x. absurd x), λ f. busy f.0) ((λ x. absurd x), λ f. busy f.0) ((λ f. (busy, f)), λ f. f.1) (refusal_number why) f)

  pub reads_begin : Idle → Foreign h.side (half_of h) c → Answers (begin_checks h.side (half_of h) c) (GoesOn StepsPush h c) r → Read
  reads_begin idle foreign a =
      MatchResult-weaker r a
      (λ x f. (
        turn_none h.side h.board c (three_made h.steps foreign) ((λ f. (f.0, foreign, f.1)), λ f. (f.0, f.2)) ((λ f. absurd (f idle)), λ f. f.0) f.0,
        (f.1.0, push foreign.2 f.1.1),
      ))
      (λ why f.
      turn_first h.side h.board c (three_made h.steps foreign) ((λ f. (f.0, foreign, f.1)), λ f. (f.0, f.2)) ((λ f. absurd (f idle)), λ f. f.0)
      (refusal_number why) f)

  stepped : {x : Half} → Steps h.side (half_of h) c x → Takes h.side (half_of h) c x
  stepped (inl s) = plain s
  stepped (inr s) = pull s

  pub reads_step : (x y : Bool) → x ≡ false → y ≡ false → Decides x (Idle → ⊥) → Decides y (Idle × Foreign h.side (half_of h) c) → Answers (step_checks h.side (half_of h) c) (GoesOn Steps h c) r → Read
  reads_step x y e f dx dy a =
      let idle = closed (opened h.pending) (not_from_Decides x dx e) in
      let own : Foreign h.side (half_of h) c → ⊥ = λ z. not_from_Decides y dy f (idle, z) in
      MatchResult-weaker r a
      (λ x f. (
        turn_none h.side h.board c (four_made h.steps own) ((λ f. absurd (own f.1)), λ f. (f.0, f.1)) ((λ f. absurd (f idle)), λ f. f.0) f.0,
        (f.1.0, stepped f.1.1),
      ))
      (λ why f.
      turn_first h.side h.board c (four_made h.steps own) ((λ f. absurd (own f.1)), λ f. (f.0, f.1)) ((λ f. absurd (f idle)), λ f. f.0) (refusal_number why)
      f)
