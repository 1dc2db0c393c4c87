-- Walks in a tree, and what an addition does to them.
use Rattle.std.proofs.Common.{◌≡◌, ℕ, zero, suc, ◌+◌, ◌-◌, ◌<◌, ◌≤◌, Bool, true, false, cond, ◌⊎◌, List, length, get_or, set, sum_by, position, take, drop, ltb, not, Some, None, Option, Ordering, Less, Equal, Greater, sym, refl, ap, ◌∙◌, subst, inl, inr, ⊎_elim, add-zero, add-suc, add-one, arith, below_more}
use Rattle.std.proofs.lemmas.List.{get_or_past, get_or-map, get_or-drop, drop-map, length-drop, length-map, map-set, take_all}
use Rattle.std.proofs.lemmas.Bool.{cases_lt, cases_Bool, cond-true, cond-false, both_ways, false_from_ne_true, lt-ltb, le-ltb}
use Rattle.std.proofs.lemmas.List.Sums.{prefix_len_passes, prefix_len_stops}
use Rattle.std.specs.List.{prefix_len}
use Rattle.std.specs.Prelude.{MatchOption}
use Rattle.store.specs.Views.{Empty, counted}
use Rattle.store.specs.Cells.{Cell, is_held, holds, share, at, seen}
use Rattle.store.specs.Trees.{cells, taken, blank, follow, to, way, turn, onward, next, walk, Goes, Turns, Passes, Under, Comes, Ends, Seeks, Spares, Grown}
use Rattle.store.specs.declared.store.Found.{Found}
use Rattle.store.specs.declared.store.Found.TheVariants.{At, Open, Nowhere}
use Rattle.store.specs.declared.tree.Node.{Node}
use Rattle.store.specs.declared.tree.Spot.{Spot}
use Rattle.store.proofs.Cells.{occupied, after, holds_held, absent, met_count, at_most, cleared}

not_equal : (s : Bool) → way s ≡ Equal → ⊥
not_equal true e = let z : ◌≡◌ {A = ℕ} 0 1 = cc in omega arith
not_equal false e = let z : ◌≡◌ {A = ℕ} 0 1 = cc in omega arith

module _ {K : Type 0} where
  pub at_entry : (xs : List (Node K)) (i : ℕ) (r : Node K) → i < length xs → at (cells xs) i ≡ (get_or xs i r).entry
  at_entry xs i r l = get_or-map (λ x. x.entry) xs i r None l

  pub past_free : (xs : List (Node K)) (i : ℕ) → length xs ≤ i → taken xs i ≡ false
  past_free xs i l = ap is_held (get_or_past (cells xs) i None (omega (arith, length-map xs (λ x. x.entry))))

  pub free_more : (xs : List (Node K)) (i : ℕ) (u : Node K) → u.entry ≡ None → i < length xs → ((k : ℕ) → k < i → taken xs k ≡ false) → (k : ℕ) → k < i + 1 → taken (set xs i u) k ≡ false
  free_more xs i u e il old k l =
      subst (λ cs. is_held (at cs k) ≡ false) (sym (map-set (λ x. x.entry) xs i u))
      (after (λ s. is_held s ≡ false) (cells xs) i k u.entry (omega (arith, length-map xs (λ x. x.entry)))
      (ap is_held e) (λ ne. old k (omega arith)))

  -- the first node with no key
  spares_first : (xs : List (Node K)) → Spares xs (position (λ x. not (is_held x.entry)) xs)
  spares_first xs =
      let held : Node K → Bool = λ x. not (not (is_held x.entry)) in
      let n : ℕ = prefix_len held xs in
      let twice : (b : Bool) → not (not b) ≡ b = λ b. elim b as (λ c. not (not c) ≡ c) [ true ↦ refl | false ↦ refl ] in
      let key : (i : ℕ) → i < length xs → taken xs i ≡ held (get_or xs i blank) = λ i l. ap is_held (at_entry xs i blank l) ∙ sym (twice (is_held (get_or xs i blank).entry)) in
      ⊎_elim
      (λ (l : n < length xs). subst (Spares xs) (sym (cond-true (ltb n (length xs)) (Some n) None (lt-ltb n (length xs) l))) (l, key n l ∙ prefix_len_stops held xs blank l))
      (λ (l : length xs ≤ n). subst (Spares xs) (sym (cond-false (ltb n (length xs)) (Some n) None (le-ltb n (length xs) l))) (λ i il. key i il ∙ prefix_len_passes held xs i blank (omega arith)))
      (cases_lt n (length xs))

  spares_on : (xs : List (Node K)) (n d : ℕ) → Spares (drop n xs) (Some d) → Spares xs (Some (n + d))
  spares_on xs n d r =
      (omega (arith, length-drop n xs, r.0), ap is_held (sym (get_or-drop n (cells xs) d None) ∙ ap (λ cs. at cs d) (drop-map (λ x. x.entry) n xs)) ∙ r.1)

  -- the first node with no key from n on, or else the first
  pub spares_else : (xs : List (Node K)) (n : ℕ) (r m e : Option ℕ) → r ≡ position (λ x. not (is_held x.entry)) (take (length xs - n) (drop n xs))
      → MatchOption r (m ≡ None) (λ d. m ≡ Some (n + d)) → MatchOption m (e ≡ position (λ x. not (is_held x.entry)) xs) (λ d. e ≡ Some d) → Spares xs e
  spares_else xs n None m e f on whole =
      subst (Spares xs) (sym (subst (λ t. MatchOption t (e ≡ position (λ x. not (is_held x.entry)) xs) (λ d. e ≡ Some d)) on whole)) (spares_first xs)
  spares_else xs n (Some d) m e f on whole =
      let first : Some d ≡ position (λ x. not (is_held x.entry)) (drop n xs) =
      f ∙ ap (position (λ x. not (is_held x.entry))) (take_all _ (drop n xs) (omega (arith, length-drop n xs))) in
      let is : e ≡ Some (n + d) = subst (λ t. MatchOption t (e ≡ position (λ x. not (is_held x.entry)) xs) (λ j. e ≡ Some j)) on whole in
      subst (Spares xs) (sym is) (spares_on xs n d (subst (Spares (drop n xs)) (sym first) (spares_first (drop n xs))))

  -- a link leads to the same place in as many nodes
  pub follow_like : (xs ys : List (Node K)) (l : Option ℕ) → length ys ≡ length xs → follow ys l ≡ follow xs l
  follow_like xs ys None e = e
  follow_like xs ys (Some i) e = refl

module _ {K : Type 0} (ord : K → K → Ordering) (q : K) where
  pub goes_held : (s : Cell K) (o : Ordering) → Goes ord q s o → is_held s ≡ true
  goes_held None o h = absurd h
  goes_held (Some x) o h = refl

  onward_way : (s : Cell K) (i l r : ℕ) (b : Bool) → Goes ord q s (way b) → onward ord q i s l r ≡ cond b l r
  onward_way None i l r b h = absurd h
  onward_way (Some x) i l r true h = ap (λ o. turn o i l r) h
  onward_way (Some x) i l r false h = ap (λ o. turn o i l r) h

  pub onward_equal : (s : Cell K) (i l r : ℕ) → Goes ord q s Equal → onward ord q i s l r ≡ i
  onward_equal None i l r h = absurd h
  onward_equal (Some x) i l r h = ap (λ o. turn o i l r) h

  onward_free : (s : Cell K) (i l r : ℕ) → is_held s ≡ false → onward ord q i s l r ≡ i
  onward_free None i l r h = refl
  onward_free (Some x) i l r h = absurd (both_ways true h refl)

  cases_ord : (o : Ordering) → (o ≡ Equal) ⊎ ((b : Bool) × (o ≡ way b))
  cases_ord Less = inr (true, refl)
  cases_ord Equal = inl refl
  cases_ord Greater = inr (false, refl)

  pub cases_goes : (s : Cell K) → is_held s ≡ true → Goes ord q s Equal ⊎ ((b : Bool) × Goes ord q s (way b))
  cases_goes None h = absurd (both_ways false refl h)
  cases_goes (Some x) h = cases_ord (ord q x.key)

  pub next_way : (xs : List (Node K)) (i : ℕ) (b : Bool) → Goes ord q (at (cells xs) i) (way b) → next ord xs q i ≡ to xs i b
  next_way xs i true h = onward_way (at (cells xs) i) i (to xs i true) (to xs i false) true h
  next_way xs i false h = onward_way (at (cells xs) i) i (to xs i true) (to xs i false) false h

module _ {K : Type 0} (ord : K → K → Ordering) (xs : List (Node K)) (root : ℕ) (q : K) where
  -- a walk stays where there is no key
  stays : (d : ℕ) → next ord xs q (walk ord xs root q d) ≡ walk ord xs root q d → (e : ℕ) → walk ord xs root q (d + e) ≡ walk ord xs root q d
  stays d h zero = ap (walk ord xs root q) (add-zero d)
  stays d h (suc e) = ap (walk ord xs root q) (add-suc d e) ∙ ap (next ord xs q) (stays d h e) ∙ h

  free_to : (d e : ℕ) → d ≤ e → taken xs (walk ord xs root q d) ≡ false → walk ord xs root q e ≡ walk ord xs root q d
  free_to d e l h =
      let s : e ≡ d + (e - d) = omega arith in
      ap (walk ord xs root q) s ∙ stays d (onward_free ord q (at (cells xs) (walk ord xs root q d)) (walk ord xs root q d) (to xs (walk ord xs root q d) true) (to xs (walk ord xs root q d) false) h) (e - d)

  -- what is on the way to a key is taken
  pub on_way : (e d : ℕ) → e ≤ d → taken xs (walk ord xs root q d) ≡ true → taken xs (walk ord xs root q e) ≡ true
  on_way e d l h =
      ⊎_elim
      (λ (t : taken xs (walk ord xs root q e) ≡ true). t)
      (λ (f : taken xs (walk ord xs root q e) ≡ false). absurd (both_ways _ (ap (taken xs) (free_to e d l f) ∙ f) h))
      (cases_Bool (taken xs (walk ord xs root q e)))

module _ {K : Type 0} (eq : K → K → Bool) (ord : K → K → Ordering) (xs : List (Node K)) where
  -- a key that compares to one side
  pub turns_by : (sym' : (x y : K) → eq x y ≡ true → eq y x ≡ true) (q : K) (i : ℕ) (k : K) (c : ℕ) (b : Bool) → at (cells xs) i ≡ occupied k c
      → ((y : K) → eq q y ≡ true → ord y k ≡ way b) → (eq q k ≡ true → way b ≡ Equal) → Turns eq ord xs q i b
  turns_by sym' q i k c b is alike tied =
      record {
        goes = λ y e. subst (λ s. Goes ord y s (way b)) (sym is) (alike y e);
        other = ap (holds eq q) is ∙ false_from_ne_true (eq k q) (λ t. not_equal b (tied (sym' k q t)));
      }

  -- a walk that has come to a link to no key
  pub ends_at : (root : ℕ) (q : K) (d : ℕ) (l : Option ℕ) (s : Spot) → d < length xs
      → (follow xs l ≡ walk ord xs root q d) × Comes eq ord xs root q d s × Passes eq ord xs root q d → taken xs (follow xs l) ≡ false → Ends eq ord xs root q s
  ends_at root q d l s within (here, comes, passed) free =
      record { steps = d; within = within; nothing = subst (λ i. taken xs i ≡ false) here free; passed = passed; comes = comes }

  module _ (refl' : (x : K) → eq x x ≡ true) (root : ℕ) (q : K) where
    -- one step more
    pub walk_more : (d i : ℕ) (b : Bool) → i ≡ walk ord xs root q d → i < length xs → Turns eq ord xs q i b → Passes eq ord xs root q d
        → (to xs i b ≡ walk ord xs root q (d + 1)) × Under eq ord xs root q (d + 1) i b × Passes eq ord xs root q (d + 1)
    walk_more d i b p l t old = (
      sym (ap (walk ord xs root q) (add-one d) ∙ ap (next ord xs q) (sym p) ∙ next_way ord q xs i b (t.goes q (refl' q))),
      record { before = d; last = add-one d; there = p; inside = l; turns = t },
      below_more (λ e. (s : Bool) × Turns eq ord xs q (walk ord xs root q e) s) d old (b, subst (λ j. Turns eq ord xs q j b) p t),
    )

    -- equal keys have the same walk
    pub walk_like : (d : ℕ) → Passes eq ord xs root q d → (y : K) → eq q y ≡ true → (e : ℕ) → e ≤ d → walk ord xs root y e ≡ walk ord xs root q e
    walk_like d all y l zero m = refl
    walk_like d all y l (suc e) m =
        let t = all e (omega arith) in
        ap (next ord xs y) (walk_like d all y l e (omega arith))
        ∙ next_way ord y xs (walk ord xs root q e) t.0 (t.1.goes y l) ∙ sym (next_way ord q xs (walk ord xs root q e) t.0 (t.1.goes q (refl' q)))

    module _ (h : ℕ) (ok : Grown eq ord xs root h) where
      -- a walk that ends at no key: no node holds it
      pub ended : (d : ℕ) → taken xs (walk ord xs root q d) ≡ false → Passes eq ord xs root q d → (j : ℕ) → holds eq q (at (cells xs) j) ≡ true → ⊥
      ended d free all j t =
          let r = ok.reach q j t in
          let here : holds eq q (at (cells xs) (walk ord xs root q r.0)) ≡ true = subst (λ i. holds eq q (at (cells xs) i) ≡ true) r.2 t in
          ⊎_elim
          (λ (l : r.0 < d). both_ways _ (all r.0 l).1.other here)
          (λ (l : d ≤ r.0). both_ways _ free (on_way ord xs root q d r.0 l (holds_held eq q (at (cells xs) (walk ord xs root q r.0)) here)))
          (cases_lt r.0 d)

      pub lost : Passes eq ord xs root q (length xs) → (j : ℕ) → holds eq q (at (cells xs) j) ≡ true → ⊥
      lost all j t =
          let r = ok.reach q j t in
          both_ways _ (all r.0 r.1).1.other (subst (λ i. holds eq q (at (cells xs) i) ≡ true) r.2 t)

      -- a search finds the count of the key
      pub sought_count : (r : Found Spot) → Seeks eq ord xs root q r → sum_by (share eq q) (cells xs) ≡ counted r
      sought_count (At i c) m = met_count eq (cells xs) h ok.holding (length xs) q i c m
      sought_count (Open l) end = absent eq (cells xs) q (ended end.steps end.nothing end.passed)
      sought_count Nowhere all = absent eq (cells xs) q (lost all)

      -- each step goes up in rank
      climbed : (n : ℕ) → Passes eq ord xs root q n → (d : ℕ) → d < n → (d ≤ ok.rank (walk ord xs root q d)) × (taken xs (walk ord xs root q d) ≡ true)
      climbed n all zero l = (omega arith, goes_held ord q (at (cells xs) root) (way (all 0 l).0) ((all 0 l).1.goes q (refl' q)))
      climbed n all (suc d) l =
          let i : ℕ = walk ord xs root q d in
          let up = climbed n all d (omega arith) in
          let t = all d (omega arith) in
          let u = all (suc d) l in
          let e : next ord xs q i ≡ to xs i t.0 = next_way ord q xs i t.0 (t.1.goes q (refl' q)) in
          let here : taken xs (next ord xs q i) ≡ true = goes_held ord q (at (cells xs) (next ord xs q i)) (way u.0) (u.1.goes q (refl' q)) in
          let more : ok.rank i < ok.rank (next ord xs q i) =
          subst (λ j. ok.rank i < ok.rank j) (sym e) (ok.rises i t.0 up.1 (subst (λ j. taken xs j ≡ true) e here)) in
          (omega arith, here)

      -- a walk that goes on for as many steps as there are nodes: each of them has a key
      pub lost_full : Passes eq ord xs root q (length xs) → h ≡ length xs
      lost_full all =
          let most : h ≤ length xs = omega (arith, at_most eq (cells xs) h ok.holding, length-map xs (λ x. x.entry)) in
          ⊎_elim
          (λ (z : 0 < length xs).
          let d : ℕ = length xs - 1 in
          let up = climbed (length xs) all d (omega arith) in
          let low : ok.rank (walk ord xs root q d) < h = ok.ranked (walk ord xs root q d) up.1 in
          omega arith)
          (λ (z : length xs ≤ 0). omega arith)
          (cases_lt 0 (length xs))

-- a tree with no key
pub emptied : {K : Type 0} (eq : K → K → Bool) (ord : K → K → Ordering) (xs : List (Node K)) (n : ℕ) → length xs ≡ n
    → ((i : ℕ) → i < length xs → taken xs i ≡ false) → Grown eq ord xs (follow xs None) 0 × Empty n (seen eq (cells xs))
emptied eq ord xs n long free =
    let off : (i : ℕ) → taken xs i ≡ false = λ i. ⊎_elim (λ (l : i < length xs). free i l) (λ (l : length xs ≤ i). past_free xs i l) (cases_lt i (length xs)) in
    let done = cleared eq (cells xs) n (length-map xs (λ x. x.entry) ∙ long) off in (
      record {
        holding = done.0;
        top = λ l. absurd (omega arith);
        links = λ i s t l. absurd (both_ways _ (off i) t);
        rank = λ i. 0;
        ranked = λ i t. absurd (both_ways _ (off i) t);
        rises = λ i s t u. absurd (both_ways _ (off i) t);
        reach = λ q j t. absurd (both_ways _ (off j) (holds_held eq q (at (cells xs) j) t));
      },
      done.1,
    )
