use Rattle.std.proofs.Common.{◌≡◌, true, false, arith}
use Rattle.rules.proofs.Reading.{reads_finish, reads_begin, reads_step}
use Rattle.rules.proofs.half_turn.HalfTurn.read.Goals as goal

pub returns-then-is_push_open : goal.returns-then-is_push_open
returns-then-is_push_open c =
    reads_finish c.args.self c.args.code.number c.finish_push.result (c.is_push_open.ensures.0 c.if-is_push_open.true) c.finish_push.ensures

pub returns-then-is_foreign : goal.returns-then-is_foreign
returns-then-is_foreign c =
    let is : c.is_foreign.result ≡ true = grind arith in
    let foreign = c.is_foreign.ensures.0 is in
    reads_begin c.args.self c.args.code.number c.begin_push.result foreign.0 foreign.1 c.begin_push.ensures

pub returns-else-is_foreign : goal.returns-else-is_foreign
returns-else-is_foreign c =
    let not : c.is_foreign.result ≡ false = grind arith in
    reads_step c.args.self c.args.code.number c.step.result c.is_push_open.result c.is_foreign.result c.if-is_push_open.false not
    c.is_push_open.ensures c.is_foreign.ensures c.step.ensures
