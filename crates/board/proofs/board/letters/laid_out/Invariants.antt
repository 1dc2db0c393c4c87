use Rattle.std.proofs.Common.{◌≡◌, ℕ, ◌+◌, ◌<◌, ◌≤◌, ◌⊎◌, get_or, None, Ok}
use Rattle.board.specs.Cells.{cell}
use Rattle.board.proofs.board.letters.laid_out.Given as goal

abbrev pub invariant-loop-i : goal.invariant-loop-i
invariant-loop-i g l = record {
  placed : (k : ℕ) → k < l.i → goal.F-post g l.read (get_or l.letters k 0) (Ok (cell l.board (l.first + k)));
  bare : (s : ℕ) → (s < l.first) ⊎ (l.first + l.i ≤ s) → cell l.board s ≡ None;
}
