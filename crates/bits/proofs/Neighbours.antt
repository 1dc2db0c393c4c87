-- The table of the squares next to each square.
use Rattle.std.proofs.Common.{◌≡◌, ℕ, zero, suc, ◌+◌, ◌^◌, ◌<◌, Bool, true, false, cond, ◌&&◌, ◌||◌, eqb, List, [], ◌∷◌, get_or, Decides, refl, ap, ◌∙◌, arith}
use Rattle.std.proofs.lemmas.Bool.Decides.{Decides-eqb, Decides-and, Decides-or, Decides-below_and}
use Rattle.bits.specs.Digits.{digit}
use Rattle.bits.specs.Squares.{row, column, ApartByOne, Next}

abbrev apart : ℕ → ℕ → Bool
apart a b = eqb (a + 1) b || eqb (b + 1) a

abbrev next : ℕ → ℕ → Bool
next s k =
    (eqb (row s) (row k) && apart (column s) (column k)) || (eqb (column s) (column k) && apart (row s) (row k))

decides_apart : (a b : ℕ) → Decides (apart a b) (ApartByOne a b)
decides_apart a b = Decides-or (eqb (a + 1) b) (eqb (b + 1) a) (Decides-eqb (a + 1) b) (Decides-eqb (b + 1) a)

decides_next : (s k : ℕ) → Decides (next s k) (Next s k)
decides_next s k =
    Decides-or (eqb (row s) (row k) && apart (column s) (column k)) (eqb (column s) (column k) && apart (row s) (row k))
    (Decides-and (eqb (row s) (row k)) (apart (column s) (column k)) (Decides-eqb (row s) (row k)) (decides_apart (column s) (column k)))
    (Decides-and (eqb (column s) (column k)) (apart (row s) (row k)) (Decides-eqb (column s) (column k)) (decides_apart (row s) (row k)))

-- the word of the squares below n that are next to s
abbrev word : ℕ → ℕ → ℕ
word s zero = 0
word s (suc n) = word s n + cond (next s n) (2 ^ n) 0

-- the words of n squares, from s on
abbrev words : ℕ → ℕ → List ℕ
words s zero = []
words s (suc n) = word s 64 ∷ words (suc s) n

abbrev pub table : List ℕ
table = words 0 64

-- a test of each digit of the table, which antt computes
abbrev entry_right : ℕ → ℕ → Bool
entry_right s zero = true
entry_right s (suc k) = eqb (digit (get_or table s 0) k) (cond (next s k) 1 0) && entry_right s k

abbrev table_right : ℕ → Bool
table_right zero = true
table_right (suc s) = entry_right s 64 && table_right s

all_right : table_right 64 ≡ true
unfolding digit
all_right = refl

right : (s k : ℕ) → s < 64 → k < 64 → digit (get_or table s 0) k ≡ cond (next s k) 1 0
right s k hs hk =
    (Decides-below_and (λ k. eqb (digit (get_or table s 0) k) (cond (next s k) 1 0)) (λ k. digit (get_or table s 0) k ≡ cond (next s k) 1 0)
    (entry_right s) (λ k. Decides-eqb (digit (get_or table s 0) k) (cond (next s k) 1 0)) refl (λ n. refl) 64).0
    ((Decides-below_and (λ s. entry_right s 64) (λ s. entry_right s 64 ≡ true) table_right (λ s. (λ e. e, λ e. e)) refl (λ n. refl) 64
    ).0 all_right s hs)
    k hk

pub in_table : (s k : ℕ) → s < 64 → k < 64
    → (digit (get_or table s 0) k ≡ 1 → Next s k) × (Next s k → digit (get_or table s 0) k ≡ 1)
in_table s k hs hk =
    let e = right s k hs hk in
    (only (next s k) e (decides_next s k).0, λ n. e ∙ ap (λ b. cond b 1 0) ((decides_next s k).1 n))
  where
    only : (b : Bool) → digit (get_or table s 0) k ≡ cond b 1 0 → (b ≡ true → Next s k) → digit (get_or table s 0) k ≡ 1 → Next s k
    only true e f d = f refl
    only false e f d = absurd (omega arith)
