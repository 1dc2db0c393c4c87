-- The cells of a store: what each of its nodes stands for.
use Rattle.std.specs.Prelude.{◌≡◌, ℕ, ◌<◌, ◌≤◌, Bool, true, false, cond, is_some, List, length, Some, None, Option, not, sum_by, count_by, slice_index_or}
use Rattle.store.specs.Views.{View}
use Rattle.store.specs.declared.store.Entry.{Entry}

-- a key with its count, or free since the store was cleared
abbrev pub Cell : Type 0 → Type 0
Cell K = Option (Entry K)

-- no key since the store was cleared
abbrev pub is_free : {K : Type 0} → Cell K → Bool
is_free s = not (is_some s)

-- there is a key now
abbrev pub is_held : {K : Type 0} → Cell K → Bool
is_held s = is_some s

-- there is a key that equals q
abbrev pub holds : {K : Type 0} → (K → K → Bool) → K → Cell K → Bool
holds eq q None = false
holds eq q (Some e) = eq e.key q

-- the count of the key, 0 where there is none
abbrev pub count_of : {K : Type 0} → Cell K → ℕ
count_of None = 0
count_of (Some e) = e.count

-- what a cell adds to the count of q
abbrev pub share : {K : Type 0} → (K → K → Bool) → K → Cell K → ℕ
share eq q s = cond (holds eq q s) (count_of s) 0

-- the cell at the place i
abbrev pub at : {K : Type 0} → List (Cell K) → ℕ → Cell K
at cs i = slice_index_or cs i None

-- the number of keys held
abbrev pub held_in : {K : Type 0} → List (Cell K) → ℕ
held_in cs = count_by is_held cs

-- the view of a store by its cells
abbrev pub seen : {K : Type 0} → (K → K → Bool) → List (Cell K) → View K
seen eq cs = record { capacity = length cs; held = held_in cs; count = λ q. sum_by (share eq q) cs }

-- the cells hold h keys, no two of them equal, each with a count from 1 to 255
pub record Holding {K : Type 0} (eq : K → K → Bool) (cs : List (Cell K)) (h : ℕ) : Type 0 where
  pub number : h ≡ held_in cs
  pub counts : (i : ℕ) → is_held (at cs i) ≡ true → (0 < count_of (at cs i)) × (count_of (at cs i) ≤ 255)
  pub apart : (i j : ℕ) (q : K) → holds eq q (at cs i) ≡ true → holds eq q (at cs j) ≡ true → i ≡ j

-- the place i holds a key that equals q, with the count c
pub record Meets {K : Type 0} (eq : K → K → Bool) (n : ℕ) (cs : List (Cell K)) (q : K) (i c : ℕ) : Type 0 where
  pub inside : i < n
  pub found : K
  pub there : at cs i ≡ Some (record { key = found; count = c })
  pub same : eq found q ≡ true
