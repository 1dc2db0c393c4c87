use Rattle.std.proofs.Common.{[], ◌∷◌, vec_items, sym, subst, append_assoc, append-nil}
use Rattle.text.specs.Numerals.{Numerals}
use Rattle.text.specs.Fields.{to_come}
use Rattle.text.proofs.Spelling.{first_spelled, spelled_first}
use Rattle.turn.proofs.task.numbers.Goals as goal

pub returns-in_default : goal.returns-in_default
returns-in_default c ns h =
    let m = c.loop-field.invariant.3 ns h
    in let s = first_spelled (to_come c.loop-field.field-iterator) c.in-Some.field.now (to_come c.next.new.self) c.in-Some.ensures.steps m.0 m.1
    in c.in_default.ensures s.0 s.2

pub loop-field-preserved : goal.loop-field-preserved
loop-field-preserved c =
    let left = to_come c.loop-field.field-iterator
    in let text = c.in-Some.field.now
    in let others = to_come c.next.new.self
    in let first = c.in-Some.ensures.steps
    in let n = c.in-Some-number.number
    in (
      tt,
      tt,
      (λ ns h.
          subst (Numerals (to_come c.args.fields)) (simp (c.in_ok-push.ensures.items, append_assoc))
          (c.loop-field.invariant.2 (n ∷ ns) (spelled_first left text others first n ns c.in-Some-number.ensures h))),
      (λ ns h.
          let m = c.loop-field.invariant.3 ns h
          in let s = first_spelled left text others first m.0 m.1
          in (s.1, s.3)),
    )

pub returns : goal.returns
returns c =
    subst (Numerals (to_come c.args.fields)) (append-nil (vec_items c.loop-field.numbers))
    (c.loop-field.invariant.2 [] (subst (λ ts. Numerals ts []) (sym c.in-None.ensures.steps) tt))
