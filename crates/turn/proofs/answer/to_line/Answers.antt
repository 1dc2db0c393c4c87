use Rattle.std.proofs.Common.{rules, subst}
use Rattle.turn.specs.Tasks.{ReadAs}
use Rattle.turn.specs.Judging.Answered.{unread, told}
use Rattle.turn.proofs.answer.to_line.Goals as goal

pub returns-in_default : goal.returns-in_default
returns-in_default c = unread (search rules)

pub returns : goal.returns
returns c = told (subst (ReadAs c.args.line.now) c.in-Some.is c.in_ok-task.ensures) c.to_task.ensures
