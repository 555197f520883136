use Rattle.std.proofs.Common.{codes}
use Rattle.jtag_run.specs.Summary.{counted_line}
use Rattle.jtag_run.proofs.Puts.{first_failed, second_failed, third_failed}
use Rattle.jtag_run.proofs.Answered.{wrote_by}
use Rattle.jtag_run.proofs.summary.put_summary.Goals as goal

pub returns-in_err-put-clause-front : goal.returns-in_err-put-clause-front
returns-in_err-put-clause-front g c =
    wrote_by _ _ (first_failed (counted_line (codes "commands ") c.args.counts.commands) _ _ _
    (rw (c.deref.ensures.0, c.counted_line.ensures) at c.in_err-put.ensures.front))

pub returns-in_err-put-2-clause-front : goal.returns-in_err-put-2-clause-front
returns-in_err-put-2-clause-front g c =
    wrote_by _ _ (second_failed (counted_line (codes "commands ") c.args.counts.commands) (counted_line (codes "errors ") c.args.counts.errors)
    (counted_line (codes "lines ") c.args.counts.lines) _ _ _
    (rw (c.deref.ensures.0, c.counted_line.ensures) at c.in_ok-put.ensures.put)
    (rw (c.deref-2.ensures.0, c.counted_line-2.ensures) at c.in_err-put-2.ensures.front))

pub returns-in_err-put-3-clause-front : goal.returns-in_err-put-3-clause-front
returns-in_err-put-3-clause-front g c =
    wrote_by _ _ (third_failed (counted_line (codes "commands ") c.args.counts.commands) (counted_line (codes "errors ") c.args.counts.errors)
    (counted_line (codes "lines ") c.args.counts.lines) _ _ _ _
    (rw (c.deref.ensures.0, c.counted_line.ensures) at c.in_ok-put.ensures.put)
    (rw (c.deref-2.ensures.0, c.counted_line-2.ensures) at c.in_ok-put-2.ensures.put)
    (rw (c.deref-3.ensures.0, c.counted_line-3.ensures) at c.in_err-put-3.ensures.front))
