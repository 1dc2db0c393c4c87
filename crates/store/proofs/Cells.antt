-- What the cells of a store say of keys, and what a write to one of them changes.
use Rattle.std.proofs.Common.{◌≡◌, ℕ, ◌+◌, ◌<◌, ◌≤◌, Bool, true, false, cond, ◌⊎◌, List, [], ◌∷◌, length, Some, None, get_or, set, sum_by, count_by, sym, refl, ap, ◌∙◌, subst, inl, inr, ⊎_elim, arith}
use Rattle.std.specs.Cmp.{both_ways as same_answer}
use Rattle.std.specs.List.{AllByRecursion as All}
use Rattle.std.proofs.lemmas.List.{get_or-set_same, get_or-set_other, length-set, get_or_past}
use Rattle.std.proofs.lemmas.List.Sums.{sum_by-set, sum_by-cons, count_by-le-length}
use Rattle.std.proofs.ByRecursion.{sum_by_le, All-from_get_or}
use Rattle.std.proofs.lemmas.Bool.{cases_lt, cases_eq, cond-true, cond-false, both_ways, false_from_ne_true}
use Rattle.store.specs.Views.{View, Kept, Tells, Raised, Empty}
use Rattle.store.specs.Cells.{Cell, is_held, holds, count_of, share, at, held_in, seen, Holding, Meets}

-- a key with its count
abbrev pub occupied : {K : Type 0} → K → ℕ → Cell K
occupied k c = Some (record { key = k; count = c })

pub sum_none : {X : Type 0} (f : X → ℕ) (xs : List X) (z : X) → ((i : ℕ) → i < length xs → f (get_or xs i z) ≡ 0) → sum_by f xs ≡ 0
sum_none f xs z h =
    omega (arith, sum_by_le f 0 xs (All-from_get_or (λ x. f x ≤ 0) xs z (λ i l. omega (arith, h i l))))

pub count_all : {X : Type 0} (p : X → Bool) (xs : List X) → All (λ x. p x ≡ true) xs → count_by p xs ≡ length xs
count_all p [] a = refl
count_all p (x ∷ xs) (e, a) =
    omega (arith, sum_by-cons (λ y. cond (p y) 1 0) x xs, cond-true {A = ℕ} (p x) 1 0 e, count_all p xs a)

pub kept_same : {K : Type 0} (s : View K) → Kept s s
kept_same s = record { capacity = refl; held = refl; count = λ q. refl }

module _ {K : Type 0} where
  pub in_range : (cs : List (Cell K)) (i : ℕ) → is_held (at cs i) ≡ true → i < length cs
  in_range cs i h =
      ⊎_elim
      (λ (l : i < length cs). l)
      (λ (l : length cs ≤ i). absurd (both_ways _ (ap is_held (get_or_past cs i None l)) h))
      (cases_lt i (length cs))

  -- what stands at j after a write at i
  pub after : (P : Cell K → Type 0) (cs : List (Cell K)) (i j : ℕ) (s : Cell K) → i < length cs → P s → ((j ≡ i → ⊥) → P (at cs j)) → P (at (set cs i s) j)
  after P cs i j s l here there =
      ⊎_elim
      (λ (e : j ≡ i). subst (λ m. P (at (set cs i s) m)) (sym e) (subst P (sym (get_or-set_same cs i s None l)) here))
      (λ (ne : j ≡ i → ⊥). subst P (sym (get_or-set_other cs i j s None ne)) (there ne))
      (cases_eq j i)

  -- what was so before a write at i, of what stands at j
  pub before : (P : Cell K → Type 0) (cs : List (Cell K)) (i j : ℕ) (s : Cell K) → i < length cs → P (at (set cs i s) j) → ((j ≡ i) × P s) ⊎ ((j ≡ i → ⊥) × P (at cs j))
  before P cs i j s l h =
      ⊎_elim
      (λ (e : j ≡ i). inl (e, subst P (get_or-set_same cs i s None l) (subst (λ m. P (at (set cs i s) m)) e h)))
      (λ (ne : j ≡ i → ⊥). inr (ne, subst P (get_or-set_other cs i j s None ne) h))
      (cases_eq j i)

  -- a write that keeps F at its place keeps it everywhere
  pub same_by : {B : Type 0} (F : Cell K → B) (cs : List (Cell K)) (i j : ℕ) (s : Cell K) → i < length cs → F s ≡ F (at cs i) → F (at (set cs i s) j) ≡ F (at cs j)
  same_by F cs i j s l e =
      ⊎_elim
      (λ (q : j ≡ i). subst (λ m. F (at (set cs i s) m) ≡ F (at cs m)) (sym q) (ap F (get_or-set_same cs i s None l) ∙ e))
      (λ (ne : j ≡ i → ⊥). ap F (get_or-set_other cs i j s None ne))
      (cases_eq j i)

  held_set : (cs : List (Cell K)) (i : ℕ) (s : Cell K) → i < length cs → held_in (set cs i s) + cond (is_held (at cs i)) 1 0 ≡ held_in cs + cond (is_held s) 1 0
  held_set cs i s l = sum_by-set (λ t. cond (is_held t) 1 0) cs i s None l

  pub held_all : (cs : List (Cell K)) → ((i : ℕ) → i < length cs → is_held (at cs i) ≡ true) → held_in cs ≡ length cs
  held_all cs h = count_all is_held cs (All-from_get_or (λ s. is_held s ≡ true) cs None h)

  pub held_room : (cs : List (Cell K)) (i : ℕ) (k : K) → i < length cs → is_held (at cs i) ≡ false → held_in cs < length cs
  held_room cs i k l h =
      omega (arith, held_set cs i (occupied k 1) l, cond-false {A = ℕ} (is_held (at cs i)) 1 0 h, count_by-le-length is_held (set cs i (occupied k 1)), length-set cs i (occupied k 1))

module _ {K : Type 0} (eq : K → K → Bool) where
  pub holds_held : (q : K) (s : Cell K) → holds eq q s ≡ true → is_held s ≡ true
  holds_held q None h = h
  holds_held q (Some e) h = refl

  share_on : (q : K) (s : Cell K) → holds eq q s ≡ true → share eq q s ≡ count_of s
  share_on q s h = cond-true (holds eq q s) (count_of s) 0 h

  share_off : (q : K) (s : Cell K) → holds eq q s ≡ false → share eq q s ≡ 0
  share_off q s h = cond-false (holds eq q s) (count_of s) 0 h

  unheld : (q : K) (s : Cell K) → is_held s ≡ false → holds eq q s ≡ false
  unheld q s f = false_from_ne_true (holds eq q s) (λ t. both_ways _ f (holds_held q s t))

  tally_set : (cs : List (Cell K)) (q : K) (i : ℕ) (s : Cell K) → i < length cs
      → sum_by (share eq q) (set cs i s) + share eq q (at cs i) ≡ sum_by (share eq q) cs + share eq q s
  tally_set cs q i s l = sum_by-set (share eq q) cs i s None l

  -- a key that no cell holds has the count 0
  pub absent : (cs : List (Cell K)) (q : K) → ((i : ℕ) → holds eq q (at cs i) ≡ true → ⊥) → sum_by (share eq q) cs ≡ 0
  absent cs q none = sum_none (share eq q) cs None (λ i l. share_off q (at cs i) (false_from_ne_true _ (none i)))

  -- a store with no key
  pub cleared : (cs : List (Cell K)) (n : ℕ) → length cs ≡ n → ((i : ℕ) → is_held (at cs i) ≡ false) → Holding eq cs 0 × Empty n (seen eq cs)
  cleared cs n long off =
      let none : held_in cs ≡ 0 = sum_none (λ t. cond (is_held t) 1 0) cs None (λ i l. cond-false (is_held (at cs i)) 1 0 (off i)) in (
        record {
          number = sym none;
          counts = λ i t. absurd (both_ways _ (off i) t);
          apart = λ i j q p r. absurd (both_ways _ (off i) (holds_held q (at cs i) p));
        },
        record { capacity = long; held = none; count = λ q. absent cs q (λ i t. both_ways _ (off i) (holds_held q (at cs i) t)) },
      )

  module _ (cs : List (Cell K)) (h : ℕ) (ok : Holding eq cs h) where
    -- the count of a key is that of the cell that holds it
    pub present : (q : K) (i : ℕ) → holds eq q (at cs i) ≡ true → sum_by (share eq q) cs ≡ count_of (at cs i)
    present q i t =
        let l : i < length cs = in_range cs i (holds_held q (at cs i) t) in
        let rest : sum_by (share eq q) (set cs i None) ≡ 0 =
        absent (set cs i None) q (λ j. after (λ s. holds eq q s ≡ true → ⊥) cs i j None l (both_ways false refl) (λ ne u. ne (ok.apart j i q u t))) in
        omega (arith, rest, tally_set cs q i None l, share_on q (at cs i) t)

    pub met_count : (n : ℕ) (q : K) (i c : ℕ) → Meets eq n cs q i c → sum_by (share eq q) cs ≡ c
    met_count n q i c m = present q i (ap (holds eq q) m.there ∙ m.same) ∙ ap count_of m.there

    pub at_most : h ≤ length cs
    at_most = omega (arith, ok.number, count_by-le-length is_held cs)

  module _ (sym' : (x y : K) → eq x y ≡ true → eq y x ≡ true) (trans' : (x y z : K) → eq x y ≡ true → eq y z ≡ true → eq x z ≡ true) where
    holds_like : (k q : K) (s : Cell K) → eq k q ≡ true → holds eq q s ≡ true → holds eq k s ≡ true
    holds_like k q None e h = h
    holds_like k q (Some x) e h = trans' x.key q k h (sym' k q e)

    -- equal keys equal the same keys
    pub eq_like : (k x q : K) → eq x k ≡ true → eq x q ≡ eq k q
    eq_like k x q e = same_answer (eq x q) (eq k q) (trans' k x q (sym' x k e)) (trans' x k q e)

    holds_both : (k q : K) (s : Cell K) → eq k q ≡ true → holds eq k s ≡ holds eq q s
    holds_both k q s e = same_answer (holds eq k s) (holds eq q s) (holds_like q k s (sym' k q e)) (holds_like k q s e)

    -- equal keys have equal counts
    count_like : (cs : List (Cell K)) (k q : K) → eq k q ≡ true → sum_by (share eq k) cs ≡ sum_by (share eq q) cs
    count_like [] k q e = refl
    count_like (s ∷ cs) k q e =
        let one : share eq k s ≡ share eq q s = ap (λ b. cond b (count_of s) 0) (holds_both k q s e) in
        sum_by-cons (share eq k) s cs ∙ ap (λ m. m + sum_by (share eq k) cs) one ∙ ap (λ m. share eq q s + m) (count_like cs k q e) ∙ sym (sum_by-cons (share eq q) s cs)

    pub told : (cs : List (Cell K)) (k : K) (c : ℕ) → sum_by (share eq k) cs ≡ c → Tells eq (seen eq cs) (seen eq cs) k c
    told cs k c e = record { value = sym e; equal = λ q l. sym e ∙ count_like cs k q l; kept = kept_same (seen eq cs) }

    module _ (cs : List (Cell K)) (h : ℕ) (ok : Holding eq cs h) (i : ℕ) (il : i < length cs) where
      module _ (k : K) (off : is_held (at cs i) ≡ false) (none : (j : ℕ) → holds eq k (at cs j) ≡ true → ⊥) where
        abbrev with_new : List (Cell K)
        with_new = set cs i (occupied k 1)

        pub inserted : Holding eq with_new (h + 1)
        inserted =
            record {
              number = omega (arith, ok.number, held_set cs i (occupied k 1) il, cond-false {A = ℕ} (is_held (at cs i)) 1 0 off);
              counts = λ j. after (λ s. is_held s ≡ true → (0 < count_of s) × (count_of s ≤ 255)) cs i j (occupied k 1) il (λ _. (omega arith, omega arith)) (λ ne. ok.counts j);
              apart = λ a b q p r. ⊎_elim
                  (λ (u : (a ≡ i) × (eq k q ≡ true)). ⊎_elim
                  (λ (v : (b ≡ i) × (eq k q ≡ true)). u.0 ∙ sym v.0)
                  (λ (v : (b ≡ i → ⊥) × (holds eq q (at cs b) ≡ true)). absurd (none b (holds_like k q (at cs b) u.1 v.1)))
                  (before (λ s. holds eq q s ≡ true) cs i b (occupied k 1) il r))
                  (λ (u : (a ≡ i → ⊥) × (holds eq q (at cs a) ≡ true)). ⊎_elim
                  (λ (v : (b ≡ i) × (eq k q ≡ true)). absurd (none a (holds_like k q (at cs a) v.1 u.1)))
                  (λ (v : (b ≡ i → ⊥) × (holds eq q (at cs b) ≡ true)). ok.apart a b q u.1 v.1)
                  (before (λ s. holds eq q s ≡ true) cs i b (occupied k 1) il r))
                  (before (λ s. holds eq q s ≡ true) cs i a (occupied k 1) il p);
            }

        pub inserted_raised : Raised eq (seen eq cs) (seen eq with_new) k
        inserted_raised =
            let zero-count : sum_by (share eq k) cs ≡ 0 = absent cs k none in
            let was : (q : K) → share eq q (at cs i) ≡ 0 = λ q. share_off q (at cs i) (unheld q (at cs i) off) in
            record {
              capacity = length-set cs i (occupied k 1);
              below = omega arith;
              raised = λ q e. omega (arith, tally_set cs q i (occupied k 1) il, was q, share_on q (occupied k 1) e);
              others = λ q e. omega (arith, tally_set cs q i (occupied k 1) il, was q, share_off q (occupied k 1) e);
              old = λ p. absurd (omega arith);
              new = λ p. (held_room cs i k il off, omega (arith, held_set cs i (occupied k 1) il, cond-false {A = ℕ} (is_held (at cs i)) 1 0 off));
            }

      -- the key x stays, with a count of one more
      module _ (x : K) (c : ℕ) (is : at cs i ≡ occupied x c) (lt : c < 255) where
        abbrev with_more : List (Cell K)
        with_more = set cs i (occupied x (c + 1))

        held_more : held_in with_more ≡ held_in cs
        held_more = omega (arith, held_set cs i (occupied x (c + 1)) il, cond-true {A = ℕ} (is_held (at cs i)) 1 0 (ap is_held is))

        pub bumped : Holding eq with_more h
        bumped =
            let same-holds : (q : K) (j : ℕ) → holds eq q (at with_more j) ≡ holds eq q (at cs j) =
            λ q j. same_by (holds eq q) cs i j (occupied x (c + 1)) il (sym (ap (holds eq q) is)) in
            record {
              number = ok.number ∙ sym held_more;
              counts = λ j. after (λ s. is_held s ≡ true → (0 < count_of s) × (count_of s ≤ 255)) cs i j (occupied x (c + 1)) il (λ _. (omega arith, omega arith)) (λ ne. ok.counts j);
              apart = λ a b q p r. ok.apart a b q (sym (same-holds q a) ∙ p) (sym (same-holds q b) ∙ r);
            }

        pub bumped_raised : (k : K) → eq x k ≡ true → Raised eq (seen eq cs) (seen eq with_more) k
        bumped_raised k xk =
            let on : (q : K) → eq x q ≡ eq k q = λ q. eq_like k x q xk in
            let was : (q : K) → share eq q (at cs i) ≡ share eq q (occupied x c) = λ q. ap (share eq q) is in
            let cnt : sum_by (share eq k) cs ≡ c = present cs h ok k i (ap (holds eq k) is ∙ xk) ∙ ap count_of is in
            let pos : 0 < c = subst (λ t. 0 < count_of t) is (ok.counts i (ap is_held is)).0 in
            record {
              capacity = length-set cs i (occupied x (c + 1));
              below = omega arith;
              raised = λ q e. omega (arith, tally_set cs q i (occupied x (c + 1)) il, was q, share_on q (occupied x c) (on q ∙ e), share_on q (occupied x (c + 1)) (on q ∙ e));
              others = λ q e. omega (arith, tally_set cs q i (occupied x (c + 1)) il, was q, share_off q (occupied x c) (on q ∙ e), share_off q (occupied x (c + 1)) (on q ∙ e));
              old = λ p. held_more;
              new = λ p. absurd (omega arith);
            }
