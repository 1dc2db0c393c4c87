use Rattle.std.proofs.Common.{rules}
use Rattle.board.specs.Letters.{spelled}
use Rattle.board.specs.Cells.{cell}
use Rattle.board.proofs.FromFn.{all_made}
use Rattle.board.proofs.board.Board.letters.Goals as goal

pub returns : goal.returns
returns c = all_made _ _ (λ s. spelled (cell c.args.self s)) (λ i r q k. search rules) c.from_fn.result 64 c.from_fn.ensures.items
