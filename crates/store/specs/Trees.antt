-- Walks in a search tree, which go down from the root by how a key compares.
use Rattle.std.specs.Prelude.{◌≡◌, ℕ, zero, suc, ◌<◌, Bool, true, false, cond, List, map, length, Some, None, Option, MatchOption, slice_index_or}
use Rattle.std.specs.declared.cmp.Ordering.TheVariants.{Less, Equal, Greater}
use Rattle.std.specs.declared.cmp.Ordering.{Ordering}
use Rattle.store.specs.Cells.{Cell, is_held, holds, at, Holding, Meets}
use Rattle.store.specs.declared.store.Found.{Found}
use Rattle.store.specs.declared.store.Found.TheVariants.{At, Open, Nowhere}
use Rattle.store.specs.declared.tree.Node.{Node}
use Rattle.store.specs.declared.tree.Spot.{Spot}
use Rattle.store.specs.declared.tree.Spot.TheVariants.{Root, Left, Right}

-- what the nodes stand for
abbrev pub cells : {K : Type 0} → List (Node K) → List (Cell K)
cells xs = map (λ x. x.entry) xs

-- there is a key at i
abbrev pub taken : {K : Type 0} → List (Node K) → ℕ → Bool
taken xs i = is_held (at (cells xs) i)

-- the node that stands for those past the last
abbrev pub blank : {K : Type 0} → Node K
blank = record { entry = None; left = None; right = None }

-- the place that a link leads to, which is past the last node where it leads to none
abbrev pub follow : {K : Type 0} → List (Node K) → Option ℕ → ℕ
follow xs None = length xs
follow xs (Some i) = i

-- the link of a node to the left, at true, or to the right
abbrev pub link : {K : Type 0} → Node K → Bool → Option ℕ
link x s = cond s x.left x.right

-- the place that the link of the node at i leads to
abbrev pub to : {K : Type 0} → List (Node K) → ℕ → Bool → ℕ
to xs i s = follow xs (link (slice_index_or xs i blank) s)

-- a lesser key goes to the left, a greater one to the right
abbrev pub way : Bool → Ordering
way true = Less
way false = Greater

-- from i, to l or r or to i again
abbrev pub turn : Ordering → ℕ → ℕ → ℕ → ℕ
turn Less i l r = l
turn Equal i l r = i
turn Greater i l r = r

-- where a walk for q goes on from i: it stays where there is no key, and at q
abbrev pub onward : {K : Type 0} → (K → K → Ordering) → K → ℕ → Cell K → ℕ → ℕ → ℕ
onward ord q i None l r = i
onward ord q i (Some e) l r = turn (ord q e.key) i l r

-- one step of a walk for q
abbrev pub next : {K : Type 0} → (K → K → Ordering) → List (Node K) → K → ℕ → ℕ
next ord xs q i = onward ord q i (at (cells xs) i) (to xs i true) (to xs i false)

-- where a walk for q is after some steps
abbrev pub walk : {K : Type 0} → (K → K → Ordering) → List (Node K) → ℕ → K → ℕ → ℕ
walk ord xs root q zero = root
walk ord xs root q (suc d) = next ord xs q (walk ord xs root q d)

-- the key of a cell compares so with q
abbrev pub Goes : {K : Type 0} → (K → K → Ordering) → K → Cell K → Ordering → Type 0
Goes ord q None o = ⊥
Goes ord q (Some e) o = ord q e.key ≡ o

-- at i, which holds another key, a walk turns to the side s, for q and for those that equal it
pub record Turns {K : Type 0} (eq : K → K → Bool) (ord : K → K → Ordering) (xs : List (Node K)) (q : K) (i : ℕ) (s : Bool) : Type 0 where
  pub goes : (y : K) → eq q y ≡ true → Goes ord y (at (cells xs) i) (way s)
  pub other : holds eq q (at (cells xs) i) ≡ false

-- a walk for q turns to one side at each of its first d places
abbrev pub Passes : {K : Type 0} → (K → K → Bool) → (K → K → Ordering) → List (Node K) → ℕ → K → ℕ → Type 0
Passes eq ord xs root q d = (e : ℕ) → e < d → (s : Bool) × Turns eq ord xs q (walk ord xs root q e) s

-- after d steps a walk for q has just turned to the side s at p
pub record Under {K : Type 0} (eq : K → K → Bool) (ord : K → K → Ordering) (xs : List (Node K)) (root : ℕ) (q : K) (d p : ℕ) (s : Bool) : Type 0 where
  pub before : ℕ
  pub last : d ≡ suc before
  pub there : p ≡ walk ord xs root q before
  pub inside : p < length xs
  pub turns : Turns eq ord xs q p s

-- the link that a walk for q has come by
abbrev pub Comes : {K : Type 0} → (K → K → Bool) → (K → K → Ordering) → List (Node K) → ℕ → K → ℕ → Spot → Type 0
Comes eq ord xs root q d Root = d ≡ 0
Comes eq ord xs root q d (Left p) = Under eq ord xs root q d p true
Comes eq ord xs root q d (Right p) = Under eq ord xs root q d p false

-- a walk for q comes by the link to no key
pub record Ends {K : Type 0} (eq : K → K → Bool) (ord : K → K → Ordering) (xs : List (Node K)) (root : ℕ) (q : K) (l : Spot) : Type 0 where
  pub steps : ℕ
  pub within : steps < length xs
  pub nothing : taken xs (walk ord xs root q steps) ≡ false
  pub passed : Passes eq ord xs root q steps
  pub comes : Comes eq ord xs root q steps l

-- what a walk for q comes to
abbrev pub Seeks : {K : Type 0} → (K → K → Bool) → (K → K → Ordering) → List (Node K) → ℕ → K → Found Spot → Type 0
Seeks eq ord xs root q (At i c) = Meets eq (length xs) (cells xs) q i c
Seeks eq ord xs root q (Open l) = Ends eq ord xs root q l
Seeks eq ord xs root q Nowhere = Passes eq ord xs root q (length xs)

-- a node with no key, or that there is none
abbrev pub Spares : {K : Type 0} → List (Node K) → Option ℕ → Type 0
Spares xs r = MatchOption r ((i : ℕ) → i < length xs → taken xs i ≡ true) (λ i. (i < length xs) × (taken xs i ≡ false))

-- what a tree keeps true: its cells hold h keys, no link leads to a node with no key, the links go up in rank, and a walk for each key comes to it
pub record Grown {K : Type 0} (eq : K → K → Bool) (ord : K → K → Ordering) (xs : List (Node K)) (root h : ℕ) : Type 0 where
  pub holding : Holding eq (cells xs) h
  pub top : root < length xs → taken xs root ≡ true
  pub links : (i : ℕ) (s : Bool) → taken xs i ≡ true → to xs i s < length xs → taken xs (to xs i s) ≡ true
  pub rank : ℕ → ℕ
  pub ranked : (i : ℕ) → taken xs i ≡ true → rank i < h
  pub rises : (i : ℕ) (s : Bool) → taken xs i ≡ true → taken xs (to xs i s) ≡ true → rank i < rank (to xs i s)
  pub reach : (q : K) (j : ℕ) → holds eq q (at (cells xs) j) ≡ true → (d : ℕ) × (d < length xs) × (j ≡ walk ord xs root q d)
