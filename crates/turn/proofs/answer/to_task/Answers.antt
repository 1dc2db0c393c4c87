use Rattle.std.proofs.Common.{Ok, Err}
use Rattle.std.proofs.lemmas.Result.{err_from_is_err_and}
use Rattle.rules.specs.declared.playing.Played.TheVariants.{Start, Whole, Half}
use Rattle.turn.proofs.Judging.{judged}
use Rattle.turn.proofs.answer.to_task.Goals as goal

pub returns-in_err-play : goal.returns-in_err-play
returns-in_err-play c =
    let told = err_from_is_err_and c.from_residual-in_err-play.result c.from_residual-in_err-play.ensures.1 in
    rw (told.1, told.2)
    (judged c.args.task.now.letters.now c.in_ok-position.position (Err c.in_err-play.field-0.0) c.in_ok-position.ensures.exact c.as_slice.ensures.value c.in_err-play.ensures.exact)

pub returns-in-Start : goal.returns-in-Start
returns-in-Start c =
    judged c.args.task.now.letters.now c.in_ok-position.position (Ok Start) c.in_ok-position.ensures.exact c.as_slice.ensures.value (rw c.in-Start.is at c.in_ok-play.ensures.exact)

pub returns-in-Whole : goal.returns-in-Whole
returns-in-Whole c =
    judged c.args.task.now.letters.now c.in_ok-position.position (Ok (Whole c.in-Whole.board)) c.in_ok-position.ensures.exact c.as_slice.ensures.value
    (rw c.in-Whole.is at c.in_ok-play.ensures.exact)

pub returns-in-Half : goal.returns-in-Half
returns-in-Half c =
    judged c.args.task.now.letters.now c.in_ok-position.position (Ok (Half c.in-Half.board)) c.in_ok-position.ensures.exact c.as_slice.ensures.value
    (rw c.in-Half.is at c.in_ok-play.ensures.exact)
