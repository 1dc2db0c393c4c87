use Rattle.std.proofs.Common.{◌∙◌, ap₂}
use Rattle.keys.specs.Words.{word_order}
use Rattle.keys.proofs.Words.{compares}
use Rattle.position.specs.Words.{position_words, ranked_words}
use Rattle.position.proofs.Words.{ranked_same, same_ranked}
use Rattle.position.proofs.key.PositionOrderedKey.compare.Goals as goal

pub returns : goal.returns
returns c =
    let all = compares position_words ranked_words same_ranked ranked_same c.args.self.now c.args.other.now c.cmp.result
    (c.cmp.ensures ∙ ap₂ word_order c.ranked.ensures c.ranked-2.ensures) in
    record { value = all.value; tie = all.tie; tied = all.tied; alike = all.alike; turns = all.turns; climbs = all.climbs }
