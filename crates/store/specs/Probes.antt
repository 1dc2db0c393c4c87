-- Probes of a hash table, which go round its nodes from the place that the key's spread gives.
use Rattle.std.specs.Prelude.{◌≡◌, ℕ, ◌+◌, ◌-◌, ◌%◌, ◌<◌, ◌≤◌, Bool, true, false, cond, List, length, Some, None, Option, map, ◌==◌, nat_lt, slice_index_or}
use Rattle.store.specs.Cells.{Cell, is_free, holds, at, Holding, Meets}
use Rattle.store.specs.declared.table.Held.{Held}
use Rattle.store.specs.declared.store.Found.{Found}
use Rattle.store.specs.declared.store.Found.TheVariants.{At, Open, Nowhere}

-- a node of another generation than g is free
abbrev pub cell : {K : Type 0} → ℕ → Option (Held K) → Cell K
cell g None = None
cell g (Some s) = cond (s.generation == g) (Some s.entry) None

-- what the nodes stand for in the generation g
abbrev pub cells : {K : Type 0} → ℕ → List (Option (Held K)) → List (Cell K)
cells g xs = map (cell g) xs

-- the generation of a node
abbrev pub mark_of : {K : Type 0} → Option (Held K) → ℕ
mark_of None = 0
mark_of (Some s) = s.generation

-- no node is of a later generation than g
abbrev pub Marked : {K : Type 0} → ℕ → List (Option (Held K)) → Type 0
Marked g xs = (i : ℕ) → mark_of (slice_index_or xs i None) ≤ g

-- the place that is d steps after h, in a ring of n
abbrev pub place : ℕ → ℕ → ℕ → ℕ
place n h d = cond (nat_lt (h + d) n) (h + d) (h + d - n)

-- no node from a key's own place to the place that holds it is free
abbrev pub Reach : {K : Type 0} → (K → K → Bool) → (K → ℕ) → ℕ → List (Cell K) → Type 0
Reach {K} eq spread n cs = (q : K) (d e : ℕ) → d < n → e < d → holds eq q (at cs (place n (spread q % n) d)) ≡ true → is_free (at cs (place n (spread q % n) e)) ≡ false

-- what a table keeps true: its cells hold h keys, and a probe for each of them comes to it
pub record Sound {K : Type 0} (eq : K → K → Bool) (spread : K → ℕ) (cs : List (Cell K)) (h : ℕ) : Type 0 where
  pub holding : Holding eq cs h
  pub reach : Reach eq spread (length cs) cs

-- the d places from h on are not free, and none of them holds q
abbrev pub Passed : {K : Type 0} → (K → K → Bool) → ℕ → List (Cell K) → K → ℕ → ℕ → Type 0
Passed eq n cs q h d = (e : ℕ) → e < d → (is_free (at cs (place n h e)) ≡ false) × (holds eq q (at cs (place n h e)) ≡ false)

-- the place i is free, and the first such for the key q and for those that equal it
pub record Opens {K : Type 0} (eq : K → K → Bool) (spread : K → ℕ) (n : ℕ) (cs : List (Cell K)) (q : K) (i : ℕ) : Type 0 where
  pub inside : i < n
  pub steps : ℕ
  pub within : steps < n
  pub there : i ≡ place n (spread q % n) steps
  pub ready : is_free (at cs i) ≡ true
  pub passed : Passed eq n cs q (spread q % n) steps
  pub alike : (y : K) → eq q y ≡ true → spread y ≡ spread q

-- what a probe for q finds
abbrev pub Finds : {K : Type 0} → (K → K → Bool) → (K → ℕ) → ℕ → List (Cell K) → K → Found ℕ → Type 0
Finds eq spread n cs q (At i c) = Meets eq n cs q i c
Finds eq spread n cs q (Open i) = Opens eq spread n cs q i
Finds eq spread n cs q Nowhere = Passed eq n cs q (spread q % n) n
