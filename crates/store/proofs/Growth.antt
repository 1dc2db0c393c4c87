-- What an addition does to a tree.
use Rattle.std.proofs.Common.{◌≡◌, ℕ, zero, suc, ◌+◌, ◌<◌, ◌≤◌, Bool, true, false, cond, eqb, ◌⊎◌, List, length, get_or, set, Some, None, Option, Ok, Err, Result, Ordering, Equal, sym, refl, ap, ◌∙◌, subst, inl, inr, ⊎_elim, arith}
use Rattle.std.proofs.lemmas.List.{get_or_default, get_or-set_same, get_or-set_other, get_or-map, length-map, length-set, map-set, set-get_or}
use Rattle.std.proofs.lemmas.Bool.{cases_eq, both_ways, cond-true, cond-false, eq-eqb, ne_eqb}
use Rattle.std.proofs.lemmas.Option.{same_Some}
use Rattle.store.specs.Views.{Adds, Raises, Raised}
use Rattle.store.specs.Cells.{Cell, is_held, holds, at, seen, Holding, Meets}
use Rattle.store.specs.Trees.{cells, taken, blank, follow, link, to, way, onward, next, walk, Goes, Passes, Under, Ends, Grown}
use Rattle.store.specs.declared.store.Entry.{Entry}
use Rattle.store.specs.declared.store.Refused.{Refused}
use Rattle.store.specs.declared.store.Refused.TheVariants.{Full, Saturated}
use Rattle.store.specs.declared.tree.Node.{Node}
use Rattle.store.specs.declared.tree.Spot.TheVariants.{Root, Left, Right}
use Rattle.store.proofs.Cells.{kept_same, met_count, occupied, before, same_by, held_room, holds_held, inserted, inserted_raised, bumped, bumped_raised}
use Rattle.store.proofs.Trees.{past_free, follow_like, goes_held, onward_equal, cases_goes, next_way, on_way, walk_like, ended}

-- a link is as it was, or it led to no key and now leads to i
abbrev Link : {K : Type 0} → List (Node K) → ℕ → ℕ → ℕ → Type 0
Link xs i old new = (new ≡ old) ⊎ ((new ≡ i) × (taken xs old ≡ false))

-- ys is xs with the key k at i, where there was none
record Frame {K : Type 0} (xs ys : List (Node K)) (root start i : ℕ) (k : K) : Type 0 where
  inside : i < length xs
  free : taken xs i ≡ false
  cell : cells ys ≡ set (cells xs) i (occupied k 1)
  kept : (a : ℕ) (s : Bool) → taken xs a ≡ true → Link xs i (to xs a s) (to ys a s)
  fresh : (s : Bool) → length xs ≤ to ys i s
  begin : Link xs i root start

module _ {K : Type 0} (ord : K → K → Ordering) (xs ys : List (Node K)) (root start i : ℕ) (k : K) (f : Frame xs ys root start i k) where
  not_new : (a : ℕ) → taken xs a ≡ true → a ≡ i → ⊥
  not_new a t e = both_ways _ f.free (subst (λ b. taken xs b ≡ true) e t)

  same_cell : (a : ℕ) → taken xs a ≡ true → at (cells ys) a ≡ at (cells xs) a
  same_cell a t = ap (λ cs. at cs a) f.cell ∙ get_or-set_other (cells xs) i a (occupied k 1) None (not_new a t)

  next_same : (q : K) (a : ℕ) → taken xs a ≡ true → taken xs (next ord xs q a) ≡ true → next ord ys q a ≡ next ord xs q a
  next_same q a t u =
      let moved : (o : Ordering) → Goes ord q (at (cells xs) a) o → Goes ord q (at (cells ys) a) o = λ o. subst (λ s. Goes ord q s o) (sym (same_cell a t)) in
      ⊎_elim
      (λ (g : Goes ord q (at (cells xs) a) Equal).
      onward_equal ord q (at (cells ys) a) a (to ys a true) (to ys a false) (moved Equal g) ∙ sym (onward_equal ord q (at (cells xs) a) a (to xs a true) (to xs a false) g))
      (λ (g : (b : Bool) × Goes ord q (at (cells xs) a) (way b)).
      let e : next ord xs q a ≡ to xs a g.0 = next_way ord q xs a g.0 g.1 in
      let e' : next ord ys q a ≡ to ys a g.0 = next_way ord q ys a g.0 (moved (way g.0) g.1) in
      ⊎_elim
      (λ (s : to ys a g.0 ≡ to xs a g.0). e' ∙ s ∙ sym e)
      (λ (s : (to ys a g.0 ≡ i) × (taken xs (to xs a g.0) ≡ false)). absurd (both_ways _ s.1 (subst (λ j. taken xs j ≡ true) e u)))
      (f.kept a g.0 t))
      (cases_goes ord q (at (cells xs) a) t)

  -- a walk to a key goes as it went
  walk_same : (q : K) (d : ℕ) → taken xs (walk ord xs root q d) ≡ true → walk ord ys start q d ≡ walk ord xs root q d
  walk_same q zero t =
      ⊎_elim (λ (s : start ≡ root). s) (λ (s : (start ≡ i) × (taken xs root ≡ false)). absurd (both_ways _ s.1 t)) f.begin
  walk_same q (suc d) t =
      let u : taken xs (walk ord xs root q d) ≡ true = on_way ord xs root q d (suc d) (omega arith) t in
      ap (next ord ys q) (walk_same q d u) ∙ next_same q (walk ord xs root q d) u t

module _ {K : Type 0} (eq : K → K → Bool) (ord : K → K → Ordering) (refl' : (x : K) → eq x x ≡ true) (sym' : (x y : K) → eq x y ≡ true → eq y x ≡ true)
    (trans' : (x y z : K) → eq x y ≡ true → eq y z ≡ true → eq x z ≡ true) (xs : List (Node K)) (r : Option ℕ) (h : ℕ) (ok : Grown eq ord xs (follow xs r) h) where
  abbrev root : ℕ
  root = follow xs r

  -- the tree, how many nodes it has, and its view, after a key was added
  abbrev After : K → List (Node K) → ℕ → ℕ → Type 0
  After k ys start h' = Grown eq ord ys start h' × (length ys ≡ length xs) × Raised eq (seen eq (cells xs)) (seen eq (cells ys)) k

  -- the tree and its view after a write of a node, by the answer
  abbrev Answers : {X : Type 0} → K → List (Node K) → Result X Refused → Type 0
  Answers k ys w = Grown eq ord ys (follow ys r) h × (length ys ≡ length xs) × Adds eq (seen eq (cells xs)) (seen eq (cells ys)) k w

  long : length (cells xs) ≡ length xs
  long = length-map xs (λ x. x.entry)

  module _ (ys : List (Node K)) (start i : ℕ) (k : K) (f : Frame xs ys root start i k) (d : ℕ) (within : d < length xs)
      (none : (j : ℕ) → holds eq k (at (cells xs) j) ≡ true → ⊥) (come : (y : K) → eq k y ≡ true → walk ord ys start y d ≡ i) where
    il : i < length (cells xs)
    il = omega (arith, f.inside, long)

    same_long : length ys ≡ length xs
    same_long = sym (length-map ys (λ x. x.entry)) ∙ ap length f.cell ∙ length-set (cells xs) i (occupied k 1) ∙ long

    was : (P : Cell K → Type 0) (a : ℕ) → P (at (cells ys) a) → ((a ≡ i) × P (occupied k 1)) ⊎ ((a ≡ i → ⊥) × P (at (cells xs) a))
    was P a p = before P (cells xs) i a (occupied k 1) il (subst (λ cs. P (at cs a)) f.cell p)

    here : taken ys i ≡ true
    here = ap (λ cs. is_held (at cs i)) f.cell ∙ ap is_held (get_or-set_same (cells xs) i (occupied k 1) None il)

    keeps : (a : ℕ) → taken xs a ≡ true → taken ys a ≡ true
    keeps a t = ap is_held (same_cell ord xs ys root start i k f a t) ∙ t

    abbrev rank' : ℕ → ℕ
    rank' a = cond (eqb a i) h (ok.rank a)

    rank_new : (a : ℕ) → a ≡ i → rank' a ≡ h
    rank_new a e = cond-true (eqb a i) h (ok.rank a) (eq-eqb a i e)

    rank_old : (a : ℕ) → (a ≡ i → ⊥) → rank' a ≡ ok.rank a
    rank_old a ne = cond-false (eqb a i) h (ok.rank a) (ne_eqb a i ne)

    no_link : (s : Bool) → taken ys (to ys i s) ≡ false
    no_link s = past_free ys (to ys i s) (omega (arith, f.fresh s, same_long))

    grown : Grown eq ord ys start (h + 1)
    grown =
        record {
          holding = subst (λ cs. Holding eq cs (h + 1)) (sym f.cell) (inserted eq sym' trans' (cells xs) h ok.holding i il k f.free none);
          top = λ l. ⊎_elim
              (λ (e : start ≡ root). subst (λ a. taken ys a ≡ true) (sym e) (keeps root (ok.top (omega (arith, same_long)))))
              (λ (e : (start ≡ i) × (taken xs root ≡ false)). subst (λ a. taken ys a ≡ true) (sym e.0) here)
              f.begin;
          links = λ a s t l. ⊎_elim
              (λ (u : (a ≡ i) × (is_held (occupied k 1) ≡ true)). absurd (let m : to ys i s < length ys = subst (λ b. to ys b s < length ys) u.0 l in omega (arith, f.fresh s, same_long)))
              (λ (u : (a ≡ i → ⊥) × (taken xs a ≡ true)). ⊎_elim
              (λ (e : to ys a s ≡ to xs a s). subst (λ b. taken ys b ≡ true) (sym e) (keeps (to xs a s) (ok.links a s u.1 (omega (arith, same_long)))))
              (λ (e : (to ys a s ≡ i) × (taken xs (to xs a s) ≡ false)). subst (λ b. taken ys b ≡ true) (sym e.0) here)
              (f.kept a s u.1))
              (was (λ c. is_held c ≡ true) a t);
          rank = rank';
          ranked = λ a t. ⊎_elim
              (λ (u : (a ≡ i) × (is_held (occupied k 1) ≡ true)). omega (arith, rank_new a u.0))
              (λ (u : (a ≡ i → ⊥) × (taken xs a ≡ true)). omega (arith, rank_old a u.0, ok.ranked a u.1))
              (was (λ c. is_held c ≡ true) a t);
          rises = λ a s t l. ⊎_elim
              (λ (u : (a ≡ i) × (is_held (occupied k 1) ≡ true)). absurd (both_ways _ (no_link s) (subst (λ b. taken ys (to ys b s) ≡ true) u.0 l)))
              (λ (u : (a ≡ i → ⊥) × (taken xs a ≡ true)). ⊎_elim
              (λ (v : (to ys a s ≡ i) × (is_held (occupied k 1) ≡ true)). omega (arith, rank_new (to ys a s) v.0, rank_old a u.0, ok.ranked a u.1))
              (λ (v : (to ys a s ≡ i → ⊥) × (taken xs (to ys a s) ≡ true)). ⊎_elim
              (λ (e : to ys a s ≡ to xs a s).
              let up : ok.rank a < ok.rank (to xs a s) = ok.rises a s u.1 (subst (λ b. taken xs b ≡ true) e v.1) in
              omega (arith, rank_old a u.0, rank_old (to ys a s) v.0, ap ok.rank e, up))
              (λ (e : (to ys a s ≡ i) × (taken xs (to xs a s) ≡ false)). absurd (v.0 e.0))
              (f.kept a s u.1))
              (was (λ c. is_held c ≡ true) (to ys a s) l))
              (was (λ c. is_held c ≡ true) a t);
          reach = λ q j t. ⊎_elim
              (λ (u : (j ≡ i) × (eq k q ≡ true)). (d, omega (arith, same_long), u.0 ∙ sym (come q u.1)))
              (λ (u : (j ≡ i → ⊥) × (holds eq q (at (cells xs) j) ≡ true)).
              let r = ok.reach q j u.1 in
              let v : taken xs (walk ord xs root q r.0) ≡ true = subst (λ b. taken xs b ≡ true) r.2 (holds_held eq q (at (cells xs) j) u.1) in
              (r.0, omega (arith, same_long, r.1), r.2 ∙ sym (walk_same ord xs ys root start i k f q r.0 v)))
              (was (λ c. holds eq q c ≡ true) j t);
        }

    grown_raised : After k ys start (h + 1)
    grown_raised =
        (grown, same_long, subst (λ cs. Raised eq (seen eq (cells xs)) (seen eq cs) k) (sym f.cell) (inserted_raised eq sym' trans' (cells xs) h ok.holding i il k f.free none))

  module _ (k : K) (i : ℕ) (inside : i < length xs) (free : taken xs i ≡ false) where
    pub room : h < length xs
    room = omega (arith, held_room (cells xs) i k (omega (arith, inside, long)) free, ok.holding.number, long)

    abbrev new : Node K
    new = record { entry = occupied k 1; left = None; right = None }

    abbrev base : List (Node K)
    base = set xs i new

    no_link_of : (s : Bool) → link new s ≡ None
    no_link_of true = refl
    no_link_of false = refl

    other_node : (a : ℕ) → taken xs a ≡ true → get_or base a blank ≡ get_or xs a blank
    other_node a t = get_or-set_other xs i a new blank (λ e. both_ways _ free (subst (λ b. taken xs b ≡ true) e t))

    pub add_root : Ends eq ord xs root k Root → After k base (follow base (Some i)) (h + 1)
    add_root end =
        let nowhere : taken xs root ≡ false = subst (λ e. taken xs (walk ord xs root k e) ≡ false) end.comes end.nothing in
        let same : length base ≡ length xs = length-set xs i new in
        let f : Frame xs base root i i k =
        record {
          inside = inside;
          free = free;
          cell = map-set (λ x. x.entry) xs i new;
          kept = λ a s t. inl (follow_like xs base (link (get_or base a blank) s) same ∙ ap (λ x. follow xs (link x s)) (other_node a t));
          fresh = λ s. omega (arith, same, ap (λ x. follow base (link x s)) (get_or-set_same xs i new blank inside), ap (follow base) (no_link_of s));
          begin = inr (refl, nowhere);
        } in
        grown_raised base i i k f end.steps end.within (ended eq ord xs refl' root k h ok end.steps end.nothing end.passed)
        (λ y l. ap (walk ord base i y) end.comes)

    -- the node at p gets a link to the new one
    module _ (d p : ℕ) (b : Bool) (u : Node K) (within : d < length xs) (nothing : taken xs (walk ord xs root k d) ≡ false) (passed : Passes eq ord xs root k d)
        (un : Under eq ord xs root k d p b) (same : u.entry ≡ at (cells xs) p) (linked : link u b ≡ Some i)
        (other : (s : Bool) → (link u s ≡ link (get_or xs p blank) s) ⊎ (s ≡ b)) where
      abbrev ys : List (Node K)
      ys = set base p u

      as_long : length ys ≡ length xs
      as_long = length-set base p u ∙ length-set xs i new

      p_taken : taken xs p ≡ true
      p_taken = goes_held ord k (at (cells xs) p) (way b) (un.turns.goes k (refl' k))

      apart : p ≡ i → ⊥
      apart e = both_ways _ free (subst (λ a. taken xs a ≡ true) e p_taken)

      nowhere : taken xs (to xs p b) ≡ false
      nowhere =
          subst (λ a. taken xs a ≡ false)
          (ap (walk ord xs root k) un.last ∙ ap (next ord xs k) (sym un.there) ∙ next_way ord k xs p b (un.turns.goes k (refl' k))) nothing

      in_base : p < length base
      in_base = omega (arith, un.inside, length-set xs i new)

      to_p : (s : Bool) → to ys p s ≡ follow ys (link u s)
      to_p s = ap (λ x. follow ys (link x s)) (get_or-set_same base p u blank in_base)

      to_new : to ys p b ≡ i
      to_new = to_p b ∙ ap (follow ys) linked

      frame : Frame xs ys root (follow ys r) i k
      frame =
          record {
            inside = inside;
            free = free;
            cell =
                map-set (λ x. x.entry) base p u ∙ ap (λ cs. set cs p u.entry) (map-set (λ x. x.entry) xs i new)
                ∙ ap (set (set (cells xs) i (occupied k 1)) p) (same ∙ sym (get_or-set_other (cells xs) i p (occupied k 1) None apart))
                ∙ set-get_or (set (cells xs) i (occupied k 1)) p None;
            kept = λ a s t. ⊎_elim
                (λ (e : a ≡ p). subst (λ j. Link xs i (to xs j s) (to ys j s)) (sym e)
                (⊎_elim
                (λ (l : link u s ≡ link (get_or xs p blank) s). inl (to_p s ∙ ap (follow ys) l ∙ follow_like xs ys (link (get_or xs p blank) s) as_long))
                (λ (l : s ≡ b). inr (subst (λ z. to ys p z ≡ i) (sym l) to_new, subst (λ z. taken xs (to xs p z) ≡ false) (sym l) nowhere))
                (other s)))
                (λ (ne : a ≡ p → ⊥). inl (follow_like xs ys (link (get_or ys a blank) s) as_long ∙ ap (λ x. follow xs (link x s)) (get_or-set_other base p a u blank ne ∙ other_node a t)))
                (cases_eq a p);
            fresh = λ s. omega (
              arith,
              as_long,
              ap (λ x. follow ys (link x s)) (get_or-set_other base p i u blank (λ e. apart (sym e)) ∙ get_or-set_same xs i new blank inside),
              ap (follow ys) (no_link_of s),
            );
            begin = inl (follow_like xs ys r as_long);
          }

      pub add_under : After k ys (follow ys r) (h + 1)
      add_under =
          grown_raised ys (follow ys r) i k frame d within (ended eq ord xs refl' root k h ok d nothing passed)
          (λ y l.
          let at_p : walk ord xs root y un.before ≡ p = walk_like eq ord xs refl' root k d passed y l un.before (omega (arith, un.last)) ∙ sym un.there in
          ap (walk ord ys (follow ys r) y) un.last
          ∙ ap (next ord ys y) (walk_same ord xs ys root (follow ys r) i k frame y un.before (subst (λ a. taken xs a ≡ true) (sym at_p) p_taken) ∙ at_p)
          ∙ next_way ord y ys p b (subst (λ s. Goes ord y s (way b)) (sym (same_cell ord xs ys root (follow ys r) i k frame p p_taken)) (un.turns.goes y l))
          ∙ to_new)

    -- what stands at p once the new node is written
    still : (p : ℕ) (w : Node K) → p < length xs → taken xs p ≡ true → get_or base p w ≡ get_or xs p blank
    still p w l t = get_or_default base p w blank (omega (arith, length-set xs i new)) ∙ other_node p t

    still_cell : (p : ℕ) (w : Node K) → p < length xs → taken xs p ≡ true → (get_or base p w).entry ≡ at (cells xs) p
    still_cell p w l t = ap (λ x. x.entry) (still p w l t) ∙ sym (get_or-map (λ x. x.entry) xs p blank None l)

    pub add_left : (p : ℕ) (w : Node K) → Ends eq ord xs root k (Left p)
        → After k (set base p (record { entry = (get_or base p w).entry; left = Some i; right = (get_or base p w).right }))
        (follow (set base p (record { entry = (get_or base p w).entry; left = Some i; right = (get_or base p w).right })) r) (h + 1)
    add_left p w end =
        let un : Under eq ord xs root k end.steps p true = end.comes in
        let t : taken xs p ≡ true = goes_held ord k (at (cells xs) p) (way true) (un.turns.goes k (refl' k)) in
        let e : (get_or base p w).right ≡ (get_or xs p blank).right = ap (λ x. x.right) (still p w un.inside t) in
        add_under end.steps p true (record { entry = (get_or base p w).entry; left = Some i; right = (get_or base p w).right })
        end.within end.nothing end.passed un (still_cell p w un.inside t) refl
        (λ s. elim s as (λ z. (cond z (Some i) (get_or base p w).right ≡ link (get_or xs p blank) z) ⊎ (z ≡ true)) [ true ↦ inr refl | false ↦ inl e ])

    pub add_right : (p : ℕ) (w : Node K) → Ends eq ord xs root k (Right p)
        → After k (set base p (record { entry = (get_or base p w).entry; left = (get_or base p w).left; right = Some i }))
        (follow (set base p (record { entry = (get_or base p w).entry; left = (get_or base p w).left; right = Some i })) r) (h + 1)
    add_right p w end =
        let un : Under eq ord xs root k end.steps p false = end.comes in
        let t : taken xs p ≡ true = goes_held ord k (at (cells xs) p) (way false) (un.turns.goes k (refl' k)) in
        let e : (get_or base p w).left ≡ (get_or xs p blank).left = ap (λ x. x.left) (still p w un.inside t) in
        add_under end.steps p false (record { entry = (get_or base p w).entry; left = (get_or base p w).left; right = Some i })
        end.within end.nothing end.passed un (still_cell p w un.inside t) refl
        (λ s. elim s as (λ z. (cond z (get_or base p w).left (Some i) ≡ link (get_or xs p blank) z) ⊎ (z ≡ false)) [ true ↦ inl e | false ↦ inr refl ])

  -- a count is raised in place
  module _ (k : K) (i c : ℕ) (w : Node K) (m : Meets eq (length xs) (cells xs) k i c) (lt : c < 255) where
    abbrev more : Node K
    more = record { entry = occupied m.found (c + 1); left = (get_or xs i w).left; right = (get_or xs i w).right }

    abbrev zs : List (Node K)
    zs = set xs i more

    in_cells : i < length (cells xs)
    in_cells = omega (arith, m.inside, long)

    more_cells : cells zs ≡ set (cells xs) i (occupied m.found (c + 1))
    more_cells = map-set (λ x. x.entry) xs i more

    -- what does not look at the count is as it was
    same_of : {B : Type 0} (F : Cell K → B) → F (occupied m.found (c + 1)) ≡ F (occupied m.found c) → (a : ℕ) → F (at (cells zs) a) ≡ F (at (cells xs) a)
    same_of F e a =
        ap (λ cs. F (at cs a)) more_cells ∙ same_by F (cells xs) i a (occupied m.found (c + 1)) in_cells (e ∙ sym (ap F m.there))

    same_to : (a : ℕ) (s : Bool) → to zs a s ≡ to xs a s
    same_to a s =
        follow_like xs zs (link (get_or zs a blank) s) (length-set xs i more) ∙ ⊎_elim
        (λ (e : a ≡ i). subst (λ b. follow xs (link (get_or zs b blank) s) ≡ to xs b s) (sym e)
        (ap (λ x. follow xs (link x s)) (get_or-set_same xs i more blank m.inside) ∙ ap (λ x. follow xs (link x s)) (get_or_default xs i w blank m.inside)))
        (λ (ne : a ≡ i → ⊥). ap (λ x. follow xs (link x s)) (get_or-set_other xs i a more blank ne))
        (cases_eq a i)

    same_next : (q : K) (a : ℕ) → next ord zs q a ≡ next ord xs q a
    same_next q a =
        ap (λ l. onward ord q a (at (cells zs) a) l (to zs a false)) (same_to a true) ∙ ap (λ l. onward ord q a (at (cells zs) a) (to xs a true) l) (same_to a false)
        ∙ same_of (λ s. onward ord q a s (to xs a true) (to xs a false)) refl a

    same_walk : (q : K) (d : ℕ) → walk ord zs root q d ≡ walk ord xs root q d
    same_walk q zero = refl
    same_walk q (suc d) = ap (next ord zs q) (same_walk q d) ∙ same_next q (walk ord xs root q d)

    counted_at : After k zs root h
    counted_at =
        let zl : length zs ≡ length xs = length-set xs i more in
        let back : (a : ℕ) → taken zs a ≡ true → taken xs a ≡ true = λ a t. sym (same_of is_held refl a) ∙ t in
        let back_to : (a : ℕ) (s : Bool) → taken zs (to zs a s) ≡ true → taken xs (to xs a s) ≡ true =
        λ a s t. subst (λ b. taken xs b ≡ true) (same_to a s) (back (to zs a s) t) in (
          record {
            holding = subst (λ cs. Holding eq cs h) (sym more_cells) (bumped eq sym' trans' (cells xs) h ok.holding i in_cells m.found c m.there lt);
            top = λ l. same_of is_held refl root ∙ ok.top (omega arith);
            links = λ a s t l. same_of is_held refl (to zs a s) ∙ subst (λ b. taken xs b ≡ true) (sym (same_to a s)) (ok.links a s (back a t) (omega (arith, same_to a s)));
            rank = ok.rank;
            ranked = λ a t. ok.ranked a (back a t);
            rises = λ a s t l. subst (λ b. ok.rank a < ok.rank b) (sym (same_to a s)) (ok.rises a s (back a t) (back_to a s l));
            reach = λ q j t.
                let w = ok.reach q j (sym (same_of (holds eq q) refl j) ∙ t) in
                (w.0, omega (arith, w.1), w.2 ∙ sym (same_walk q w.0));
          },
          length-set xs i more,
          subst (λ cs. Raised eq (seen eq (cells xs)) (seen eq cs) k) (sym more_cells) (bumped_raised eq sym' trans' (cells xs) h ok.holding i in_cells m.found c m.there lt k m.same),
        )

    pub counted : After k zs (follow zs r) h
    counted = subst (λ a. After k zs a h) (sym (follow_like xs zs r (length-set xs i more))) counted_at

  -- the node that is met, with one more of its key or as it was, by the answer
  pub answered : {X : Type 0} (k : K) (i c : ℕ) (x : Node K) → Meets eq (length xs) (cells xs) k i c → (e t : Entry K) (w : Result X Refused) → (get_or xs i x).entry ≡ Some e → Raises e t w
      → Answers k (set xs i (record { entry = Some t; left = (get_or xs i x).left; right = (get_or xs i x).right })) w
  answered {X} k i c x m e t w is up =
      let with_entry : Option (Entry K) → Node K = λ y. record { entry = y; left = (get_or xs i x).left; right = (get_or xs i x).right } in
      let same : e ≡ record { key = m.found; count = c } = same_Some e (record { key = m.found; count = c }) (sym is ∙ sym (get_or-map (λ y. y.entry) xs i x None m.inside) ∙ m.there) in
      let count : e.count ≡ c = ap (λ y. y.count) same in
      elim w as (λ v. Raises {X = X} e t v → Answers {X = X} k (set xs i (with_entry (Some t))) v) [
        | Ok u ↦ λ v.
            subst (λ y. Answers {X = X} k (set xs i (with_entry (Some y))) (Ok u)) (sym (v.1 ∙ ap (λ y. record { key = y.key; count = y.count + 1 }) same)) (counted k i c x m (omega (arith, v.0, count)))
        | Err u ↦ elim u as (λ y. Raises {X = X} e t (Err y) → Answers {X = X} k (set xs i (with_entry (Some t))) (Err y)) [
          | Full ↦ λ v. absurd v
          | Saturated ↦ λ v.
              let old : set xs i (with_entry (Some t)) ≡ xs = ap (λ y. set xs i (with_entry (Some y))) v.1 ∙ ap (λ y. set xs i (with_entry y)) (sym is) ∙ set-get_or xs i x in
              subst (λ ys. Answers {X = X} k ys (Err Saturated)) (sym old) (ok, refl, (met_count eq (cells xs) h ok.holding (length xs) k i c m ∙ sym count ∙ v.0, kept_same _))
        ]
      ] up
