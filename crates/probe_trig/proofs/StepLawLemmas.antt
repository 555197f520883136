-- From a step over spent slots at the harts to the place of a session behind it.
use Rattle.std.proofs.Common.{ℕ, List, slice_get, if◌then◌else◌}
use Rattle.rv_model.specs.Board.{Machine}
use Rattle.abstract_debugger.specs.Debugger.{halted_of, one}
use Rattle.abstract_debugger.specs.Lines.{Line}
use Rattle.abstract_debugger.specs.Plan.{Plan, is_step}
use Rattle.abstract_debugger.specs.Plan.Plan.{see}
use Rattle.abstract_debugger.specs.Stands.{Deals, Origin, Target}
use Rattle.abstract_debugger.specs.Ways.Way.{Still}
use Rattle.abstract_debugger.proofs.DealsLemmas.{deals_done, deals_hold, deals_otherwise, deals_stepped}
use Rattle.probe_run.proofs.SessionLemmas.{steps_lead}
use Rattle.probe_trig.specs.StepLaws.{OtherStepsLead, WholeStepsLead}
use Rattle.probe_trig.specs.Stepping.{OverAt}

made : (m : Machine) (h : ℕ) (o : Origin) (stepped other : Plan) (lines : List Line) (old new : Target) → OverAt h old new
    → Deals m h Still o (one h stepped other) lines old
    → Deals m h Still o (see (λ b. if is_step (halted_of (slice_get b.harts h)) then stepped else other)) lines new
made m h o stepped other lines old new a d =
    deals_done m h o (see (λ b. if is_step (halted_of (slice_get b.harts h)) then stepped else other)) lines a.ran new
    (steps_lead m h o _ lines a.held a.ran a.steps (deals_hold m h o _ lines old a.held d a.holds)) a.ends

pub whole_steps_lead : WholeStepsLead
whole_steps_lead m h o stepped other lines old new a is d = deals_stepped m h o stepped other lines new is (made m h o stepped other lines old new a d)

pub other_steps_lead : OtherStepsLead
other_steps_lead m h o stepped other lines old new a is d = deals_otherwise m h o stepped other lines new is (made m h o stepped other lines old new a d)
