use Rattle.std.proofs.Common.{◌≡◌, subst, arith, rules}
use Rattle.std.proofs.lemmas.Bool.Decides.{not_from_Decides}
use Rattle.board.specs.declared.board.Board.{Board}
use Rattle.board.specs.Pieces.{full}
use Rattle.board.specs.Counts.{count_of}
use Rattle.board.proofs.Reading.{own_laid_out, sets_up_one, some_differs}
use Rattle.board.proofs.board.Board.from_setup.Goals as goal

pub returns-then-has_full_set : goal.returns-then-has_full_set
returns-then-has_full_set c =
    let side = c.args.side in
    let letters = c.args.letters.now in
    let b = c.in_ok-board.board in
    let shown = own_laid_out _ side _ letters b (λ letter r p. search rules) c.home_square.ensures (omega arith) c.in_ok-board.ensures in (
      (
        (λ n. n c.if-letters-ne16.false),
        (
          (λ f. let x = shown.placed f.0 (omega (arith, f.1, c.if-letters-ne16.false)) in f.2 x.0 x.1),
          ((λ f. f.3 (subst (λ (d : Board). count_of d side f.2 ≡ full f.2) (sets_up_one side letters b f.0 shown f.1) (c.has_full_set.ensures.0 c.if-has_full_set.true f.2))), tt),
        ),
      ),
      shown,
    )

pub returns-else-has_full_set : goal.returns-else-has_full_set
returns-else-has_full_set c =
    let side = c.args.side in
    let letters = c.args.letters.now in
    let b = c.in_ok-board.board in
    let shown = own_laid_out _ side _ letters b (λ letter r p. search rules) c.home_square.ensures (omega arith) c.in_ok-board.ensures in
    let short = some_differs (count_of b side) full (not_from_Decides c.has_full_set.result c.has_full_set.ensures c.if-has_full_set.false) in (
      (λ n. n c.if-letters-ne16.false),
      ((λ f. let x = shown.placed f.0 (omega (arith, f.1, c.if-letters-ne16.false)) in f.2 x.0 x.1), (b, shown, short.0, short.1)),
    )
