-- Probes of a table.
use Rattle.std.proofs.Common.{◌≡◌, ℕ, ◌+◌, ◌%◌, ◌<◌, ◌≤◌, Bool, true, false, eqb, List, length, Some, None, Option, Ok, Err, Result, get_or, set, sum_by, sym, refl, ap, ◌∙◌, subst, ⊎_elim, mod-lt, arith, below_more}
use Rattle.std.proofs.lemmas.List.{get_or-set_same, get_or-set_other, get_or_past, get_or-map, length-map, length-set, map-set, set-get_or}
use Rattle.std.proofs.lemmas.Bool.{cases_lt, cases_eq, cases_order, cases_Bool, cond-true, cond-false, both_ways, eq-eqb, eqb-true, ne_eqb, not-true, not-false}
use Rattle.std.proofs.lemmas.Option.{none-some, same_Some}
use Rattle.store.specs.Views.{Adds, Raises, Raised, Empty, counted}
use Rattle.store.specs.Cells.{Cell, is_free, is_held, holds, share, at, seen, Meets}
use Rattle.store.specs.Probes.{cell, cells, mark_of, Marked, place, Reach, Sound, Passed, Opens, Finds}
use Rattle.store.specs.declared.store.Found.{Found}
use Rattle.store.specs.declared.store.Found.TheVariants.{At, Open, Nowhere}
use Rattle.store.specs.declared.store.Entry.{Entry}
use Rattle.store.specs.declared.store.Refused.{Refused}
use Rattle.store.specs.declared.store.Refused.TheVariants.{Full, Saturated}
use Rattle.store.specs.declared.table.Held.{Held}
use Rattle.store.proofs.Ring.{place_once, place_back}
use Rattle.store.proofs.Cells.{kept_same, occupied, in_range, after, before, same_by, held_room, holds_held, absent, met_count, cleared, inserted, inserted_raised, bumped, bumped_raised}

module _ {K : Type 0} where
  pub cell_now : (g : ℕ) (s : Held K) → s.generation ≡ g → cell g (Some s) ≡ Some s.entry
  cell_now g s e = cond-true (eqb s.generation g) (Some s.entry) None (eq-eqb s.generation g e)

  pub cell_past : (g : ℕ) (s : Held K) → (s.generation ≡ g → ⊥) → cell g (Some s) ≡ None
  cell_past g s ne = cond-false (eqb s.generation g) (Some s.entry) None (ne_eqb s.generation g ne)

  pub at_cell : (g : ℕ) (xs : List (Option (Held K))) (i : ℕ) (r : Option (Held K)) → i < length xs → at (cells g xs) i ≡ cell g (get_or xs i r)
  at_cell g xs i r l = get_or-map (cell g) xs i r None l

  old_vacant : (g h : ℕ) (s : Option (Held K)) → mark_of s ≤ h → h < g → is_held (cell g s) ≡ false
  old_vacant g h None l m = refl
  old_vacant g h (Some s) l m = ap is_held (cell_past g s (λ e. omega arith))

  past_vacant : (cs : List (Cell K)) (i : ℕ) → length cs ≤ i → is_held (at cs i) ≡ false
  past_vacant cs i l = ap is_held (get_or_past cs i None l)

  -- no node is of a generation that is to come
  pub next_vacant : (g h : ℕ) (xs : List (Option (Held K))) → Marked h xs → h < g → (i : ℕ) → is_held (at (cells g xs) i) ≡ false
  next_vacant g h xs marks l i =
      ⊎_elim
      (λ (m : i < length xs). ap is_held (at_cell g xs i None m) ∙ old_vacant g h (get_or xs i None) (marks i) l)
      (λ (m : length xs ≤ i). past_vacant (cells g xs) i (omega (arith, length-map xs (cell g))))
      (cases_lt i (length xs))

  pub free_vacant : (g : ℕ) (xs : List (Option (Held K))) → ((i : ℕ) → i < length xs → get_or xs i None ≡ None) → (i : ℕ) → is_held (at (cells g xs) i) ≡ false
  free_vacant g xs free i =
      ⊎_elim
      (λ (m : i < length xs). ap is_held (at_cell g xs i None m ∙ ap (cell g) (free i m)))
      (λ (m : length xs ≤ i). past_vacant (cells g xs) i (omega (arith, length-map xs (cell g))))
      (cases_lt i (length xs))

  pub free_marked : (g : ℕ) (xs : List (Option (Held K))) → ((i : ℕ) → i < length xs → get_or xs i None ≡ None) → Marked g xs
  free_marked g xs free i =
      ⊎_elim
      (λ (m : i < length xs). omega (arith, ap mark_of (free i m)))
      (λ (m : length xs ≤ i). omega (arith, ap mark_of (get_or_past xs i None m)))
      (cases_lt i (length xs))

  pub set_marked : (g : ℕ) (xs : List (Option (Held K))) (i : ℕ) (s : Option (Held K)) → i < length xs → mark_of s ≤ g → Marked g xs → Marked g (set xs i s)
  set_marked g xs i s l m old j =
      ⊎_elim
      (λ (e : j ≡ i). subst (λ a. mark_of (get_or (set xs i s) a None) ≤ g) (sym e) (subst (λ t. mark_of t ≤ g) (sym (get_or-set_same xs i s None l)) m))
      (λ (ne : j ≡ i → ⊥). subst (λ t. mark_of t ≤ g) (sym (get_or-set_other xs i j s None ne)) (old j))
      (cases_eq j i)

module _ {K : Type 0} (eq : K → K → Bool) where
  -- a place that was passed all round is not free, and does not hold q
  pub gone_round : (n : ℕ) (cs : List (Cell K)) (q : K) (h : ℕ) → h < n → Passed eq n cs q h n
      → (i : ℕ) → i < n → (is_free (at cs i) ≡ false) × (holds eq q (at cs i) ≡ false)
  gone_round n cs q h p all i l =
      let w = place_back n h i p l in
      subst (λ j. (is_free (at cs j) ≡ false) × (holds eq q (at cs j) ≡ false)) (sym w.2) (all w.0 w.1)

  -- a place that a probe has come to
  module _ (spread : K → ℕ) (n : ℕ) (cs : List (Cell K)) (q : K) (s d i : ℕ) (e : s ≡ spread q) (there : i ≡ place n (s % n) d) (old : Passed eq n cs q (s % n) d) where
    pub passed_more : (k : K) (c : ℕ) → at cs i ≡ occupied k c → eq k q ≡ false → Passed eq n cs q (s % n) (d + 1)
    passed_more k c is ne =
        let P : Cell K → Type 0 = λ t. (is_free t ≡ false) × (holds eq q t ≡ false) in
        below_more (λ j. P (at cs (place n (s % n) j))) d old (subst (λ j. P (at cs j)) there (subst P (sym is) (refl, ne)))

  module _ (spread : K → ℕ) (cs : List (Cell K)) (h : ℕ) (ok : Sound eq spread cs h) (q : K) where
    abbrev n : ℕ
    n = length cs

    -- where a probe comes to a free place, no place holds the key
    pub not_there : (i : ℕ) → Opens eq spread n cs q i → (j : ℕ) → holds eq q (at cs j) ≡ true → ⊥
    not_there i o j t =
        let jl : j < n = omega (arith, in_range cs j (holds_held eq q (at cs j) t)) in
        let w = place_back n (spread q % n) j (mod-lt (spread q) (omega arith)) jl in
        let tw : holds eq q (at cs (place n (spread q % n) w.0)) ≡ true = subst (λ m. holds eq q (at cs m) ≡ true) w.2 t in
        let fd : is_free (at cs (place n (spread q % n) o.steps)) ≡ true = subst (λ m. is_free (at cs m) ≡ true) o.there o.ready in
        ⊎_elim
        (λ (e : w.0 ≡ o.steps).
        both_ways _ (not-true (is_held (at cs (place n (spread q % n) o.steps))) fd)
        (holds_held eq q _ (subst (λ m. holds eq q (at cs (place n (spread q % n) m)) ≡ true) e tw)))
        (⊎_elim
        (λ (lt : w.0 < o.steps). both_ways _ (o.passed w.0 lt).1 tw)
        (λ (gt : o.steps < w.0). both_ways _ (ok.reach q w.0 o.steps w.1 gt tw) fd))
        (cases_order w.0 o.steps)

    pub nowhere : Passed eq n cs q (spread q % n) n → (j : ℕ) → holds eq q (at cs j) ≡ true → ⊥
    nowhere all j t =
        let jl : j < n = omega (arith, in_range cs j (holds_held eq q (at cs j) t)) in
        both_ways _ (gone_round n cs q (spread q % n) (mod-lt (spread q) (omega arith)) all j jl).1 t

    pub no_room : Passed eq n cs q (spread q % n) n → (j : ℕ) → j < length cs → is_held (at cs j) ≡ true
    no_room all j l =
        not-false (is_held (at cs j)) (gone_round n cs q (spread q % n) (mod-lt (spread q) (omega arith)) all j (omega arith)).0

    -- a search finds the count of the key
    pub found_count : (r : Found ℕ) → Finds eq spread (length cs) cs q r → sum_by (share eq q) cs ≡ counted r
    found_count (At i c) m = met_count eq cs h ok.holding (length cs) q i c m
    found_count (Open i) o = absent eq cs q (not_there i o)
    found_count Nowhere p = absent eq cs q (nowhere p)

    -- the key can be put at the free place
    pub reach_new : (i : ℕ) → Opens eq spread n cs q i → Reach eq spread n (set cs i (occupied q 1))
    reach_new i o k d e dl el t =
        let il : i < length cs = omega (arith, o.inside) in
        let keeps : (j : ℕ) → is_free (at cs j) ≡ false → is_free (at (set cs i (occupied q 1)) j) ≡ false =
        λ j f. after (λ s. is_free s ≡ false) cs i j (occupied q 1) il refl (λ _. f) in
        ⊎_elim
        (λ (u : (place n (spread k % n) d ≡ i) × (eq q k ≡ true)).
        let same : spread k ≡ spread q = o.alike k u.1 in
        let there : place n (spread q % n) d ≡ place n (spread q % n) o.steps = ap (λ s. place n (s % n) d) (sym same) ∙ u.0 ∙ o.there in
        let ds : d ≡ o.steps = place_once n (spread q % n) d o.steps (mod-lt (spread q) (omega arith)) dl o.within there in
        subst (λ s. is_free (at (set cs i (occupied q 1)) (place n (s % n) e)) ≡ false) (sym same) (keeps _ (o.passed e (omega arith)).0))
        (λ (u : (place n (spread k % n) d ≡ i → ⊥) × (holds eq k (at cs (place n (spread k % n) d)) ≡ true)). keeps _ (ok.reach k d e dl el u.1))
        (before (λ s. holds eq k s ≡ true) cs i (place n (spread k % n) d) (occupied q 1) il t)

  -- another count leaves each key where a probe comes to it
  pub reach_more : (spread : K → ℕ) (n : ℕ) (cs : List (Cell K)) (i : ℕ) (x : K) (c m : ℕ) → i < length cs → at cs i ≡ occupied x c
      → Reach eq spread n cs → Reach eq spread n (set cs i (occupied x m))
  reach_more spread n cs i x c m il is old k d e dl el t =
      same_by is_free cs i (place n (spread k % n) e) (occupied x m) il (sym (ap is_free is))
      ∙ old k d e dl el (sym (same_by (holds eq k) cs i (place n (spread k % n) d) (occupied x m) il (sym (ap (holds eq k) is))) ∙ t)

  -- a table with no key
  pub emptied : (spread : K → ℕ) (g : ℕ) (xs : List (Option (Held K))) (n : ℕ) → length xs ≡ n → Marked g xs → ((i : ℕ) → is_held (at (cells g xs) i) ≡ false)
      → (Marked g xs × Sound eq spread (cells g xs) 0) × Empty n (seen eq (cells g xs))
  emptied spread g xs n e marks off =
      let done = cleared eq (cells g xs) n (length-map xs (cell g) ∙ e) off in
      ((marks, record { holding = done.0; reach = λ q d a p r t. absurd (both_ways _ (off _) (holds_held eq q (at (cells g xs) _) t)) }), done.1)

-- a table whose nodes are free
pub freed : {K : Type 0} (eq : K → K → Bool) (spread : K → ℕ) (g : ℕ) (xs : List (Option (Held K))) (n : ℕ) → length xs ≡ n → ((i : ℕ) → i < length xs → get_or xs i None ≡ None)
    → (Marked g xs × Sound eq spread (cells g xs) 0) × Empty n (seen eq (cells g xs))
freed eq spread g xs n e free = emptied eq spread g xs n e (free_marked g xs free) (free_vacant g xs free)

-- a node that stands for an entry holds it, and is of this generation
pub now_held : {K : Type 0} (g : ℕ) (s : Held K) (e : Entry K) → cell g (Some s) ≡ Some e → (s.generation ≡ g) × (s.entry ≡ e)
now_held g s e h =
    ⊎_elim
    (λ (t : eqb s.generation g ≡ true). (eqb-true s.generation g t, same_Some s.entry e (sym (cond-true (eqb s.generation g) (Some s.entry) None t) ∙ h)))
    (λ (f : eqb s.generation g ≡ false). absurd (none-some e (sym (cond-false (eqb s.generation g) (Some s.entry) None f) ∙ h)))
    (cases_Bool (eqb s.generation g))

-- what an addition does to the nodes
module _ {K : Type 0} (eq : K → K → Bool) (spread : K → ℕ) (sym' : (x y : K) → eq x y ≡ true → eq y x ≡ true)
    (trans' : (x y z : K) → eq x y ≡ true → eq y z ≡ true → eq x z ≡ true) (g : ℕ) (xs : List (Option (Held K))) (h : ℕ)
    (inv : Marked g xs × Sound eq spread (cells g xs) h) (k : K) (i : ℕ) where
  abbrev cs : List (Cell K)
  cs = cells g xs

  -- the table and its view after a write of a key with a count at i
  abbrev After : ℕ → Entry K → Type 0
  After h' e =
      (Marked g (set xs i (Some (record { entry = e; generation = g }))) × Sound eq spread (cells g (set xs i (Some (record { entry = e; generation = g })))) h')
      × Raised eq (seen eq cs) (seen eq (cells g (set xs i (Some (record { entry = e; generation = g }))))) k

  -- the table and its view after a write of a node at i, by the answer
  abbrev Answers : {X : Type 0} → Held K → Result X Refused → Type 0
  Answers u w = (Marked g (set xs i (Some u)) × Sound eq spread (cells g (set xs i (Some u))) h) × Adds eq (seen eq cs) (seen eq (cells g (set xs i (Some u)))) k w

  written : (e : Entry K) (h' : ℕ) → i < length cs → Sound eq spread (set cs i (Some e)) h' → Raised eq (seen eq cs) (seen eq (set cs i (Some e))) k → After h' e
  written e h' l sound more =
      let u : Held K = record { entry = e; generation = g } in
      let is : set cs i (Some e) ≡ cells g (set xs i (Some u)) = sym (map-set (cell g) xs i (Some u) ∙ ap (set cs i) (cell_now g u refl)) in (
        (set_marked g xs i (Some u) (omega (arith, length-map xs (cell g))) (omega arith) inv.0, subst (λ ds. Sound eq spread ds h') is sound),
        subst (λ ds. Raised eq (seen eq cs) (seen eq ds) k) is more,
      )

  reached : (e : Entry K) → Reach eq spread (length cs) (set cs i (Some e)) → Reach eq spread (length (set cs i (Some e))) (set cs i (Some e))
  reached e = subst (λ n. Reach eq spread n (set cs i (Some e))) (sym (length-set cs i (Some e)))

  module _ (o : Opens eq spread (length cs) cs k i) where
    off : is_held (at cs i) ≡ false
    off = not-true (is_held (at cs i)) o.ready

    pub room : h < length xs
    room = omega (arith, held_room cs i k o.inside off, inv.1.holding.number, length-map xs (cell g))

    pub added : After (h + 1) (record { key = k; count = 1 })
    added =
        let none : (j : ℕ) → holds eq k (at cs j) ≡ true → ⊥ = not_there eq spread cs h inv.1 k i o in
        written (record { key = k; count = 1 }) (h + 1) o.inside
        (record {
          holding = inserted eq sym' trans' cs h inv.1.holding i o.inside k off none;
          reach = reached (record { key = k; count = 1 }) (reach_new eq spread cs h inv.1 k i o);
        })
        (inserted_raised eq sym' trans' cs h inv.1.holding i o.inside k off none)

  pub raised : (c : ℕ) (m : Meets eq (length cs) cs k i c) → c < 255 → After h (record { key = m.found; count = c + 1 })
  raised c m lt =
      written (record { key = m.found; count = c + 1 }) h m.inside
      (record {
        holding = bumped eq sym' trans' cs h inv.1.holding i m.inside m.found c m.there lt;
        reach = reached (record { key = m.found; count = c + 1 }) (reach_more eq spread (length cs) cs i m.found c (c + 1) m.inside m.there inv.1.reach);
      })
      (bumped_raised eq sym' trans' cs h inv.1.holding i m.inside m.found c m.there lt k m.same)

  -- the node that is met, with one more of its key or as it was, by the answer
  pub answered : {X : Type 0} (c : ℕ) → Meets eq (length cs) cs k i c → (r : Option (Held K)) (s : Held K) (t : Entry K) (w : Result X Refused) → get_or xs i r ≡ Some s → Raises s.entry t w
      → Answers (record { entry = t; generation = s.generation }) w
  answered {X} c m r s t w is up =
      let l : i < length xs = omega (arith, m.inside, length-map xs (cell g)) in
      let now = now_held g s (record { key = m.found; count = c }) (ap (cell g) (sym is) ∙ sym (at_cell g xs i r l) ∙ m.there) in
      let count : s.entry.count ≡ c = ap (λ e. e.count) now.1 in
      elim w as (λ v. Raises {X = X} s.entry t v → Answers {X = X} (record { entry = t; generation = s.generation }) v) [
        | Ok x ↦ λ u.
            subst (λ y. Answers {X = X} (record { entry = y; generation = s.generation }) (Ok x)) (sym (u.1 ∙ ap (λ e. record { key = e.key; count = e.count + 1 }) now.1))
            (subst (λ g'. Answers {X = X} (record { entry = record { key = m.found; count = c + 1 }; generation = g' }) (Ok x)) (sym now.0) (raised c m (omega (arith, u.0, count))))
        | Err e ↦ elim e as (λ v. Raises {X = X} s.entry t (Err v) → Answers {X = X} (record { entry = t; generation = s.generation }) (Err v)) [
          | Full ↦ λ u. absurd u
          | Saturated ↦ λ u.
              let same : set xs i (Some (record { entry = t; generation = s.generation })) ≡ xs =
              ap (λ y. set xs i (Some (record { entry = y; generation = s.generation }))) u.1 ∙ ap (set xs i) (sym is) ∙ set-get_or xs i r in
              subst (λ ys. (Marked g ys × Sound eq spread (cells g ys) h) × Adds {X = X} eq (seen eq cs) (seen eq (cells g ys)) k (Err Saturated)) (sym same)
              (inv, (met_count eq cs h inv.1.holding (length cs) k i c m ∙ sym count ∙ u.0, kept_same _))
        ]
      ] up
