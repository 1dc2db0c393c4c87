-- Digits read one after another.
use Rattle.std.proofs.Common.{◌≡◌, ℕ, ◌+◌, ◌-◌, ◌*◌, ◌<◌, ◌≤◌, List, [], ◌∷◌, length, get_or, drop, sym, refl, subst, arith}
use Rattle.std.proofs.lemmas.List.{at_drop_more, at_drop_all}
use Rattle.text.specs.Numerals.{Digit, Spells, Numeral, Numerals}

-- more digits make no number less
pub grows : (v : ℕ) (cs : List ℕ) (n : ℕ) → Spells v cs n → v ≤ n
grows v [] n e = omega arith
grows v (c ∷ cs) n s = omega (arith, grows (v * 10 + (c - 48)) cs n s.1)

-- what the digit at the place i says of the rest
pub next_digit : (v : ℕ) (cs : List ℕ) (i n : ℕ) → i < length cs → Spells v (drop i cs) n
    → Digit (get_or cs i 0) × Spells (v * 10 + (get_or cs i 0 - 48)) (drop (i + 1) cs) n
next_digit v cs i n lt s = subst (λ ds. Spells v ds n) (at_drop_more (λ ds. ds) cs i 0 lt) s

pub with_next : (v : ℕ) (cs : List ℕ) (i n : ℕ) → i < length cs → Digit (get_or cs i 0)
    → Spells (v * 10 + (get_or cs i 0 - 48)) (drop (i + 1) cs) n → Spells v (drop i cs) n
with_next v cs i n lt d s = subst (λ ds. Spells v ds n) (sym (at_drop_more (λ ds. ds) cs i 0 lt)) (d, s)

-- where no digit is left, the number is made
pub made_of : (v : ℕ) (cs : List ℕ) (i : ℕ) → length cs ≤ i → Spells v (drop i cs) v
made_of v cs i le = subst (λ ds. Spells v ds v) (sym (at_drop_all (λ ds. ds) cs i le)) refl

-- texts that have a first: what it spells, and what the others do
pub first_spelled : (left : List (List ℕ)) (t : List ℕ) (ts : List (List ℕ)) → left ≡ t ∷ ts → (ns : List ℕ) → Numerals left ns
    → (n : ℕ) × (ms : List ℕ) × Numeral t n × Numerals ts ms
first_spelled [] t ts e ns h = absurd (grind arith)
first_spelled (u ∷ us) t ts e [] h = absurd h
first_spelled (u ∷ us) t ts e (n ∷ ms) h =
    let first : u ≡ t = cc
    in let others : us ≡ ts = cc
    in (n, ms, subst (λ x. Numeral x n) first h.0, subst (λ xs. Numerals xs ms) others h.1)

pub spelled_first : (left : List (List ℕ)) (t : List ℕ) (ts : List (List ℕ)) → left ≡ t ∷ ts
    → (n : ℕ) (ns : List ℕ) → Numeral t n → Numerals ts ns → Numerals left (n ∷ ns)
spelled_first left t ts e n ns h hs = subst (λ xs. Numerals xs (n ∷ ns)) (sym e) (h, hs)
