use Rattle.std.proofs.Common.{sym, ◌∙◌}
use Rattle.rv_model.proofs.DebugLemmas.{writes_keep}
use Rattle.hart_debug.proofs.Registers.{done_leaves, refused_leaves, absent_accepts, absent_leaves}
use Rattle.hart_debug.proofs.debug_hart.DebugHart.reg_write.Goals as goal

pub returns-in-Ok-clause-after : goal.returns-in-Ok-clause-after
returns-in-Ok-clause-after c = rw (c.write_core.ensures.after, ← c.self.view_is) (sym (done_leaves _ c.args.regno c.args.value c.in-Ok.ensures.answer))

pub returns-in-Ok-clause-keeps : goal.returns-in-Ok-clause-keeps
returns-in-Ok-clause-keeps c = rw (returns-in-Ok-clause-after c) (writes_keep c.args.self.now c.args.regno c.args.value)

pub returns-in-Err-ReadOnly-clause-after : goal.returns-in-Err-ReadOnly-clause-after
returns-in-Err-ReadOnly-clause-after c =
    rw (c.write_core.ensures.after, ← c.self.view_is)
    (sym (refused_leaves _ c.args.regno c.args.value (rw c.in-Err-ReadOnly.field-0-is at c.in-Err-ReadOnly.ensures.answer)))

pub returns-in-Err-Absent-clause-answer : goal.returns-in-Err-Absent-clause-answer
returns-in-Err-Absent-clause-answer c =
    rw (← c.self.view_is)
    (c.write_debug.ensures.answer ∙ sym (absent_accepts _ c.args.regno (rw c.in-Err-Absent.field-0-is at c.in-Err-Absent.ensures.answer)))

pub returns-in-Err-Absent-clause-after : goal.returns-in-Err-Absent-clause-after
returns-in-Err-Absent-clause-after c =
    rw (c.write_debug.ensures.after, c.write_core.ensures.after, ← c.self.view_is) (sym (absent_leaves _ c.args.regno c.args.value))

pub returns-in-Err-Absent-clause-keeps : goal.returns-in-Err-Absent-clause-keeps
returns-in-Err-Absent-clause-keeps c = rw (returns-in-Err-Absent-clause-after c) (writes_keep c.args.self.now c.args.regno c.args.value)
