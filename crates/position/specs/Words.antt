-- The words of a position, and how they are mixed.
use Rattle.std.specs.Prelude.{ℕ, ◌+◌, ◌-◌, ◌*◌, ◌/◌, ◌%◌, ◌^◌, List, ◌∷◌, bit_or, bit_xor, slice_index}
use Rattle.position.specs.declared.position.Position.{Position}
use Rattle.board.specs.Pieces.{side_number}
use Rattle.board.specs.Cells.{words_of}

-- the side's number, and the words of the board
abbrev pub position_words : Position → List ℕ
position_words p = side_number p.side ∷ words_of p.board

-- a word turned to the left by k of its 64 digits
abbrev pub turned_left : ℕ → ℕ → ℕ
turned_left w k = bit_or (w * 2 ^ k % 2 ^ 64) (w / 2 ^ (64 - k))

-- five words in one, modulo 2^64, the last two turned
unfoldable pub mixed_with : List ℕ → ℕ → ℕ → ℕ
mixed_with ws twos fours =
    let two = (slice_index ws 1 * 9 % 2 ^ 64 + slice_index ws 2) % 2 ^ 64 in
    let three = (two * 5 % 2 ^ 64 + twos) % 2 ^ 64 in
    let four = (three * 9 % 2 ^ 64 + fours) % 2 ^ 64 in
    let all = (four + slice_index ws 0) % 2 ^ 64 in
    bit_xor all (all / 2 ^ 29) * 0x9e37_79b9_7f4a_7c15 % 2 ^ 64

abbrev pub mixed : List ℕ → ℕ
mixed ws = mixed_with ws (turned_left (slice_index ws 3) 21) (turned_left (slice_index ws 4) 43)

-- what positions are ordered by: first how their words are mixed, then the words
abbrev pub ranked_words : Position → List ℕ
ranked_words p = mixed (position_words p) ∷ position_words p
