use Rattle.std.proofs.Common.{rules}
use Rattle.keys.proofs.Words.{compares}
use Rattle.lines.specs.declared.line.Line.{Line}
use Rattle.lines.proofs.line.LineOrderedKey.compare.Goals as goal

pub returns : goal.returns
returns c =
    let made = compares (λ (l : Line). l.words) (λ (l : Line). l.words) (λ a b e. e) (λ a b e. e) c.args.self.now c.args.other.now c.cmp.result (search rules) in
    record { value = made.value; tie = made.tie; tied = made.tied; alike = made.alike; turns = made.turns; climbs = made.climbs }
