use Rattle.jtag_run.specs.LastLine.{asked_part, given_part}
use Rattle.jtag_run.proofs.Puts.{first_failed, last_failed, two_put}
use Rattle.jtag_run.proofs.Answered.{wrote_by}
use Rattle.jtag_run.proofs.recording.put_answers_refused.Goals as goal

pub returns-in_err-put-clause-front : goal.returns-in_err-put-clause-front
returns-in_err-put-clause-front g c =
    wrote_by _ _ (first_failed (asked_part c.args.asked) (given_part c.args.given) _ _
    (rw (c.deref.ensures.0, c.asked_part.ensures) at c.in_err-put.ensures.front))

pub returns-in_err-put-2-clause-front : goal.returns-in_err-put-2-clause-front
returns-in_err-put-2-clause-front g c =
    wrote_by _ _ (last_failed (asked_part c.args.asked) (given_part c.args.given) _ _ _
    (rw (c.deref.ensures.0, c.asked_part.ensures) at c.in_ok-put.ensures.put)
    (rw (c.deref-2.ensures.0, c.given_part.ensures) at c.in_err-put-2.ensures.front))

pub returns-clause-put : goal.returns-clause-put
returns-clause-put g c =
    two_put (asked_part c.args.asked) (given_part c.args.given) _ _ _ (rw (c.deref.ensures.0, c.asked_part.ensures) at c.in_ok-put.ensures.put)
    (rw (c.deref-2.ensures.0, c.given_part.ensures) at c.in_ok-put-2.ensures.put)
