use Rattle.std.proofs.Common.{◌≡◌, ◌<◌, [], ◌∷◌, length, get_or, sym, ap, ◌∙◌, arith, rules}
use Rattle.std.proofs.lemmas.Grind.{put_two}
use Rattle.std.proofs.lemmas.Str.{encode_ascii}
use Rattle.std.proofs.lemmas.List.{take_more, take_all}
use Rattle.std.proofs.lemmas.List.FromFn.{fill_by_all}
use Rattle.std.specs.Fmt.{HasWritten}
use Rattle.std.proofs.Output.{has_written_of_eq}
use Rattle.std.proofs.Math.Utf8.{encode}
use Rattle.board.specs.Letters.{spelled}
use Rattle.board.specs.Cells.{cell}
use Rattle.board.proofs.Reading.{spelled_ascii}
use Rattle.board.proofs.board.letters.BoardDisplay.fmt.Goals as goal

pub loop-letter-preserved : goal.loop-letter-preserved
loop-letter-preserved g c = λ p.
    let xs = c.letters-letter-items.result in
    let i = c.loop-letter.letter-index in
    let said = c.letters-letter-items.ensures in
    let inside : i < length xs = omega (arith, c.loop-letter-test.true) in
    let small : get_or xs i 0 < 128 = omega (arith, said.1 i c.loop-letter-test.true, spelled_ascii (cell c.args.self.now i)) in
    let one : encode c.from.result ≡ get_or xs i 0 ∷ [] = ap encode c.from.ensures ∙ encode_ascii (get_or xs i 0) small in
    let wrote : HasWritten g.W.Write.write_str_gives c.loop-letter.f (encode c.from.result) c.write_char.new.self = search rules in
    put_two _ _ _ _ _ _ _ (c.loop-letter.invariant p) (has_written_of_eq _ _ _ _ _ one wrote) (sym (take_more xs i 0 inside))

pub returns-clause-writes : goal.returns-clause-writes
returns-clause-writes g c = λ p t.
    let xs = c.letters-letter-items.result in
    let b = c.args.self.now in
    let said = c.letters-letter-items.ensures in
    has_written_of_eq _ _ _ _ _ (take_all _ xs (omega arith) ∙ fill_by_all (λ s. spelled (cell b s)) xs 64 0 said.0 said.1) (c.loop-letter.invariant p)
