-- The binary digits of a word, and sums and lists over places.
use Rattle.std.specs.Prelude.{ℕ, zero, suc, ◌+◌, List, [], ◌∷◌}
use Rattle.std.specs.Int.{bit_at}

-- the digit of n at place k: 0 or 1
unfoldable pub digit : ℕ → ℕ → ℕ
digit n k = bit_at n k

-- f 0 + f 1 + .. + f (n - 1)
unfoldable pub tally : (ℕ → ℕ) → ℕ → ℕ
tally f zero = 0
tally f (suc n) = tally f n + f n

abbrev pub pick : {A : Type 0} → ℕ → A → A → A
pick zero x y = y
pick (suc n) x y = x

-- the places from s on, w of them, at which f is not 0, in ascending order
unfoldable pub chosen : (ℕ → ℕ) → ℕ → ℕ → List ℕ
chosen f s zero = []
chosen f s (suc w) = pick (f s) (s ∷ chosen f (suc s) w) (chosen f (suc s) w)
