-- What the calls take when no check hits.
use Rattle.std.proofs.Common.{◌≡◌, ℕ, ◌+◌, ◌<◌, ◌≤◌, Bool, true, false, not, ◌&&◌, ◌⊎◌, Decides, sym, refl, ap, ap₂, ◌∙◌, subst, inl, inr, ⊎_elim}
use Rattle.std.proofs.lemmas.Bool.{cases_lt, cases_Bool, false≢true}
use Rattle.std.proofs.lemmas.Bool.Decides.{not_from_Decides, Decides-at, Decides-not, Decides-and, Decides-like}
use Rattle.board.specs.declared.pieces.Side.{Side}
use Rattle.board.specs.declared.pieces.Side.TheVariants.{Gold, Silver}
use Rattle.board.specs.declared.pieces.Piece.{Piece}
use Rattle.board.specs.Pieces.{opponent}
use Rattle.board.specs.Refusals.{NoneHits}
use Rattle.rules.specs.Codes.{square}
use Rattle.rules.specs.Steps.{Own, Step}
use Rattle.rules.specs.Actions.{BeginsPush}
use Rattle.rules.specs.declared.pending.Pending.{Pending}
use Rattle.rules.specs.declared.pending.Pending.TheVariants.{Nothing, Pull, Push}
use Rattle.rules.specs.declared.half_turn.HalfTurn.{HalfTurn}
use Rattle.rules.specs.declared.half_turn.checks.Asked.{Asked}
use Rattle.rules.specs.Asked.{AsksFor}
use Rattle.rules.specs.HalfTurns.{Open, NoPush, Ends, Finishes, opened, half_of, StepsPlain, StepsPull, StepsPush, StepsAfter}
use Rattle.rules.specs.HalfTurns.Open.{nothing, pull_possible, push_open}
use Rattle.rules.specs.HalfTurns.Half.{half}
use Rattle.rules.specs.HalfTurns.StepsPlain.{steps}
use Rattle.rules.specs.HalfTurns.StepsPull.{ends}
use Rattle.rules.specs.HalfTurns.StepsPush.{begins}
use Rattle.rules.specs.HalfTurns.StepsAfter.{finishes}
use Rattle.rules.specs.Checks.{step_checks, begin_checks, finish_checks}
use Rattle.rules.proofs.Pieces.{one_piece}
use Rattle.rules.proofs.Opens.{ends_closed}

-- what is decided and can't be refuted holds
pub sure : {A : Type 0} (r : Bool) → Decides r A → ((A → ⊥) → ⊥) → A
sure r d nn = ⊎_elim (λ (e : r ≡ true). d.0 e) (λ (e : r ≡ false). absurd (nn (not_from_Decides r d e))) (cases_Bool r)

pub never : Decides false ⊥
never = (false≢true, λ x. absurd x)

pub closed : (o : Open) → ((NoPush o → ⊥) → ⊥) → NoPush o
closed nothing nn = tt
closed (pull_possible s k) nn = tt
closed (push_open s k) nn = nn (λ h. h)

pub decides_closed : (r : Bool) (o : Open) → Decides r (NoPush o → ⊥) → Decides (not r) (NoPush o)
decides_closed r o d = Decides-like (not r) (closed o) (λ h n. n h) (Decides-not r d)

-- with no push open, and no push begun
pub decides_neither : {B : Type 0} (r b x : Bool) (o : Open) → x ≡ (not r && not b) → Decides r (NoPush o → ⊥) → Decides b B → Decides x (NoPush o × (B → ⊥))
decides_neither r b x o e dr db = Decides-at x (not r && not b) e (Decides-and (not r) (not b) (decides_closed r o dr) (Decides-not b db))

two_sides : (x y : Side) → (x ≡ y) ⊎ (x ≡ opponent y)
two_sides Gold Gold = inl refl
two_sides Gold Silver = inr refl
two_sides Silver Gold = inr refl
two_sides Silver Silver = inl refl

below : (n m : ℕ) → (m ≤ n → ⊥) → n < m
below n m f = ⊎_elim (λ (h : n < m). h) (λ (h : m ≤ n). absurd (f h)) (cases_lt n m)

module _ (h h' : HalfTurn) (c : ℕ) (a : Asked) (asks : AsksFor h.board c a) (made : h'.steps ≡ h.steps + 1) (step : Step h.board c h'.board) where
  abbrev o : Open
  o = opened h.pending

  becomes : (q : Pending) → h'.pending ≡ q → half_of h' ≡ half h'.board (h.steps + 1) (opened q)
  becomes q e = ap₂ (λ (n : ℕ) (q : Pending). half h'.board n (opened q)) made e

  pub pull_taken : NoneHits (step_checks h.side (half_of h) c) → Ends h.side o h.board c → h'.pending ≡ Nothing → StepsPull h.side (half_of h) c (half_of h')
  pull_taken none e left =
      subst (StepsPull h.side (half_of h) c) (sym (becomes Nothing left)) (ends (below h.steps 4 (λ l. none.1.1.0 (ends_closed h.side h.board c o e, l))) e step)

  pub plain_taken : NoneHits (step_checks h.side (half_of h) c) → (Ends h.side o h.board c → ⊥) → h'.pending ≡ Pull a.from a.piece.kind
      → StepsPlain h.side (half_of h) c (half_of h')
  plain_taken none no_end left =
      let idle = closed o none.1.1.1.1.1.1.1.0 in
      let mine : a.piece.side ≡ h.side =
      ⊎_elim (λ (e : a.piece.side ≡ h.side). e)
      (λ (e : a.piece.side ≡ opponent h.side). absurd (none.1.1.1.1.0 (idle, (a.piece, record { there = asks.there; theirs = e }, no_end))))
      (two_sides a.piece.side h.side) in
      let own : Own h.side h.board (square c) a.piece = record { there = asks.there; mine = mine } in
      subst (StepsPlain h.side (half_of h) c)
      (sym (becomes _ left ∙ ap (λ (s : ℕ). half h'.board (h.steps + 1) (pull_possible s a.piece.kind)) asks.stands))
      (steps (below h.steps 4 (λ l. none.1.1.0 (idle, l))) idle
      (record {
        piece = a.piece;
        own = own;
        free = λ f. none.1.1.1.1.1.0 (a.piece, own, f);
        ahead = λ r d. none.1.1.1.1.1.1.0 (a.piece, own, r, d);
        step = step;
      }))

  pub push_taken : NoneHits (begin_checks h.side (half_of h) c) → (((BeginsPush h.side h.board c → ⊥) → ⊥) → BeginsPush h.side h.board c)
      → h'.pending ≡ Push a.from a.piece.kind → StepsPush h.side (half_of h) c (half_of h')
  push_taken none stable left =
      let idle = closed o none.1.1.1.1.1.1.1.0 in
      let begin = stable (λ no. none.1.1.1.1.0 (idle, no)) in
      subst (StepsPush h.side (half_of h) c)
      (sym (becomes _ left ∙ ap (λ (s : ℕ). half h'.board (h.steps + 1) (push_open s a.piece.kind)) asks.stands))
      (subst (λ (q : Piece). StepsPush h.side (half_of h) c (half h'.board (h.steps + 1) (push_open (square c) q.kind))) (one_piece begin.enemy.there asks.there)
      (begins (below h.steps 3 (λ l. none.1.1.0 (idle, l))) idle begin step))

  pub after_taken : NoneHits (finish_checks h.side (half_of h) c) → Finishes h.side o h.board c → h'.pending ≡ Nothing → StepsAfter h.side (half_of h) c (half_of h')
  after_taken none f left =
      subst (StepsAfter h.side (half_of h) c) (sym (becomes Nothing left))
      (finishes f (λ z. none.1.1.1.1.1.0 ((finisher o f).0, (finisher o f).1, z)) step)
    where
      finisher : (o : Open) → Finishes h.side o h.board c → (q : Piece) × Own h.side h.board (square c) q
      finisher nothing f = absurd f
      finisher (pull_possible s k) f = absurd f
      finisher (push_open s k) f = (f.piece, f.own)
