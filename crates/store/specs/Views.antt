-- What can be seen of a store, and what its functions do to it.
use Rattle.std.specs.Prelude.{◌≡◌, ℕ, ◌+◌, ◌<◌, Bool, true, false, List, Ok, Err, Result, codes}
use Rattle.store.specs.declared.store.Entry.{Entry}
use Rattle.store.specs.declared.store.Found.{Found}
use Rattle.store.specs.declared.store.Found.TheVariants.{At, Open, Nowhere}
use Rattle.store.specs.declared.store.Refused.{Refused}
use Rattle.store.specs.declared.store.Refused.TheVariants.{Full, Saturated}

-- the number of keys that there is room for, the number of keys held, and the count of each key, 0 if not held
pub record View (K : Type 0) : Type 0 where
  pub capacity : ℕ
  pub held : ℕ
  pub count : K → ℕ

-- the number of each refusal
abbrev pub refusal : Refused → ℕ
refusal Full = 24
refusal Saturated = 25

-- the name of each refusal
abbrev pub refusal_name : Refused → List ℕ
refusal_name Full = codes "full"
refusal_name Saturated = codes "saturated"

-- the count that a search found, 0 where it found no key
abbrev pub counted : {P : Type 0} → Found P → ℕ
counted (At i c) = c
counted (Open p) = 0
counted Nowhere = 0

-- t is as s
pub record Kept {K : Type 0} (s t : View K) : Type 0 where
  pub capacity : t.capacity ≡ s.capacity
  pub held : t.held ≡ s.held
  pub count : (q : K) → t.count q ≡ s.count q

-- r is the count of the key k, and of those that equal it, and t is as s
pub record Tells {K : Type 0} (eq : K → K → Bool) (s t : View K) (k : K) (r : ℕ) : Type 0 where
  pub value : r ≡ s.count k
  pub equal : (q : K) → eq k q ≡ true → r ≡ s.count q
  pub kept : Kept s t

-- t is s with one more of the key k
pub record Raised {K : Type 0} (eq : K → K → Bool) (s t : View K) (k : K) : Type 0 where
  pub capacity : t.capacity ≡ s.capacity
  pub below : s.count k < 255
  pub raised : (q : K) → eq k q ≡ true → t.count q ≡ s.count q + 1
  pub others : (q : K) → eq k q ≡ false → t.count q ≡ s.count q
  pub old : 0 < s.count k → t.held ≡ s.held
  pub new : s.count k ≡ 0 → (s.held < s.capacity) × (t.held ≡ s.held + 1)

-- what an addition of the key k does, by its answer
abbrev pub Adds : {K X : Type 0} → (K → K → Bool) → View K → View K → K → Result X Refused → Type 0
Adds eq s t k (Ok x) = Raised eq s t k
Adds eq s t k (Err Full) = (s.count k ≡ 0) × (s.held ≡ s.capacity) × Kept s t
Adds eq s t k (Err Saturated) = (s.count k ≡ 255) × Kept s t

-- the entry t is s with one more of its key, unless its count is 255, by the answer
abbrev pub Raises : {K X : Type 0} → Entry K → Entry K → Result X Refused → Type 0
Raises s t (Ok x) = (s.count < 255) × (t ≡ record { key = s.key; count = s.count + 1 })
Raises s t (Err Full) = ⊥
Raises s t (Err Saturated) = (s.count ≡ 255) × (t ≡ s)

-- t has room for n keys and holds none
pub record Empty {K : Type 0} (n : ℕ) (t : View K) : Type 0 where
  pub capacity : t.capacity ≡ n
  pub held : t.held ≡ 0
  pub count : (q : K) → t.count q ≡ 0
