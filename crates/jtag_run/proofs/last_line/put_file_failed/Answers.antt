use Rattle.std.proofs.Common.{◌∷◌, [], codes}
use Rattle.debug_model.specs.ScriptText.{line_feed}
use Rattle.jtag_run.proofs.Puts.{first_failed, second_failed, third_failed, three_put}
use Rattle.jtag_run.proofs.Answered.{wrote_by}
use Rattle.jtag_run.proofs.last_line.put_file_failed.Goals as goal

pub returns-in_err-put-clause-front : goal.returns-in_err-put-clause-front
returns-in_err-put-clause-front g c = wrote_by _ _ (first_failed (codes "file failed: ") _ _ _ c.in_err-put.ensures.front)

pub returns-in_err-put-2-clause-front : goal.returns-in_err-put-2-clause-front
returns-in_err-put-2-clause-front g c = wrote_by _ _
    (second_failed (codes "file failed: ") c.args.name.now (line_feed ∷ []) _ _ _ c.in_ok-put.ensures.put
    (rw c.as_bytes.ensures.value at c.in_err-put-2.ensures.front))

pub returns-in_err-put-3-clause-front : goal.returns-in_err-put-3-clause-front
returns-in_err-put-3-clause-front g c = wrote_by _ _
    (third_failed (codes "file failed: ") c.args.name.now (line_feed ∷ []) _ _ _ _ c.in_ok-put.ensures.put
    (rw c.as_bytes.ensures.value at c.in_ok-put-2.ensures.put) c.in_err-put-3.ensures.front)

pub returns-clause-put : goal.returns-clause-put
returns-clause-put g c = three_put (codes "file failed: ") c.args.name.now (line_feed ∷ []) _ _ _ _ c.in_ok-put.ensures.put
    (rw c.as_bytes.ensures.value at c.in_ok-put-2.ensures.put) c.in_ok-put-3.ensures.put
