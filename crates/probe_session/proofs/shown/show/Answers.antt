use Rattle.probe_session.proofs.Budgets.{shown_rises_as}
use Rattle.std.proofs.Common.{refl}
use Rattle.debug_model.proofs.RiseLemmas.{within_none}
use Rattle.abstract_debugger.specs.Plan.{Plan}
use Rattle.probe_session.specs.Said.{said_by}
use Rattle.probe_session.proofs.LinkLemmas.{if_err}
use Rattle.probe_session.proofs.OneLine.{if_err_map}
use Rattle.probe_session.proofs.ShownLines.{fell_of, spoke_of}
use Rattle.probe_session.proofs.Spoken.{fell_said, one_line, spoke_none}
use Rattle.probe_session.proofs.WentLemmas.{went_none}
use Rattle.probe_session.proofs.Selections.{stays_here}
use Rattle.probe_session.proofs.ShownLines.{line_of, line_same, ok_line_of}
use Rattle.probe_session.proofs.shown.show.Goals as goal

pub returns-in_err-put_line-in-Line-clause-fell : goal.returns-in_err-put_line-in-Line-clause-fell
returns-in_err-put_line-in-Line-clause-fell g c = if_err _ c.in_err-put_line-in-Line.field-0.0 _ c.from_residual.ensures.1
    (fell_of c.in-Line.is (fell_said (said_by c.in-Line.line) (λ (next : Plan). next) (λ next quiet. quiet) _ _ c.in_err-put_line-in-Line.ensures.sink
    (spoke_none _) c.in_err-put_line-in-Line.ensures.front c.in_err-put_line-in-Line.ensures.cause))

pub returns-in_ok-put_line-in-Line-clause-spoke : goal.returns-in_ok-put_line-in-Line-clause-spoke
returns-in_ok-put_line-in-Line-clause-spoke g c = spoke_of _ c.in-Line.is (one_line c.in-Line.line (λ (next : Plan). next) _ c.is_error.ensures went_none
    c.in_ok-put_line-in-Line.ensures.put)

pub returns-in_err-put_registers-in-Registers-clause-fell : goal.returns-in_err-put_registers-in-Registers-clause-fell
returns-in_err-put_registers-in-Registers-clause-fell g c =
    if_err _ c.in_err-put_registers-in-Registers.field-0.0 _ c.from_residual-in_err-put_registers-in-Registers.ensures.1
    (fell_of c.in-Registers.is c.in_err-put_registers-in-Registers.ensures.fell)

pub returns-in_err-put_slots-in-Slots-clause-fell : goal.returns-in_err-put_slots-in-Slots-clause-fell
returns-in_err-put_slots-in-Slots-clause-fell g c = if_err _ c.in_err-put_slots-in-Slots.field-0.0 _ c.from_residual-in_err-put_slots-in-Slots.ensures.1
    (fell_of c.in-Slots.is c.in_err-put_slots-in-Slots.ensures.fell)

pub returns-in-Elements-clause-fell : goal.returns-in-Elements-clause-fell
returns-in-Elements-clause-fell g c = if_err_map _ _ _ (λ f p. fell_of c.in-Elements.is p) c.put_elements.ensures.fell

pub returns-in-Bytes-clause-fell : goal.returns-in-Bytes-clause-fell
returns-in-Bytes-clause-fell g c = if_err_map _ _ _ (λ f p. fell_of c.in-Bytes.is p) c.put_rows.ensures.fell

pub returns-in_ok-put_line-in-Line-clause-selection : goal.returns-in_ok-put_line-in-Line-clause-selection
returns-in_ok-put_line-in-Line-clause-selection g c = stays_here _

pub returns-in_ok-put_line-in-Line-clause-line : goal.returns-in_ok-put_line-in-Line-clause-line
returns-in_ok-put_line-in-Line-clause-line g c = line_same _ _

pub returns-in_ok-put_registers-in-Registers-clause-line : goal.returns-in_ok-put_registers-in-Registers-clause-line
returns-in_ok-put_registers-in-Registers-clause-line g c = line_of _ c.in-Registers.is tt

pub returns-in_ok-put_slots-in-Slots-clause-line : goal.returns-in_ok-put_slots-in-Slots-clause-line
returns-in_ok-put_slots-in-Slots-clause-line g c = line_of _ c.in-Slots.is tt

pub returns-in-Elements-clause-line : goal.returns-in-Elements-clause-line
returns-in-Elements-clause-line g c = ok_line_of _ _ c.in-Elements.is tt

pub returns-in-Bytes-clause-line : goal.returns-in-Bytes-clause-line
returns-in-Bytes-clause-line g c = ok_line_of _ _ c.in-Bytes.is tt

pub returns-in_err-put_line-in-Line-clause-rises : goal.returns-in_err-put_line-in-Line-clause-rises
returns-in_err-put_line-in-Line-clause-rises g c =
    shown_rises_as c.in-Line.is (within_none 0 _ _ refl)

pub returns-in_ok-put_line-in-Line-clause-rises : goal.returns-in_ok-put_line-in-Line-clause-rises
returns-in_ok-put_line-in-Line-clause-rises g c =
    shown_rises_as c.in-Line.is (within_none 0 _ _ refl)

pub returns-in_err-put_registers-in-Registers-clause-rises : goal.returns-in_err-put_registers-in-Registers-clause-rises
returns-in_err-put_registers-in-Registers-clause-rises g c =
    shown_rises_as c.in-Registers.is c.put_registers.ensures.rises

pub returns-in_ok-put_registers-in-Registers-clause-rises : goal.returns-in_ok-put_registers-in-Registers-clause-rises
returns-in_ok-put_registers-in-Registers-clause-rises g c =
    shown_rises_as c.in-Registers.is c.put_registers.ensures.rises

pub returns-in_err-put_slots-in-Slots-clause-rises : goal.returns-in_err-put_slots-in-Slots-clause-rises
returns-in_err-put_slots-in-Slots-clause-rises g c =
    shown_rises_as c.in-Slots.is c.put_slots.ensures.rises

pub returns-in_ok-put_slots-in-Slots-clause-rises : goal.returns-in_ok-put_slots-in-Slots-clause-rises
returns-in_ok-put_slots-in-Slots-clause-rises g c =
    shown_rises_as c.in-Slots.is c.put_slots.ensures.rises

pub returns-in-Elements-clause-rises : goal.returns-in-Elements-clause-rises
returns-in-Elements-clause-rises g c =
    shown_rises_as c.in-Elements.is c.put_elements.ensures.rises

pub returns-in-Bytes-clause-rises : goal.returns-in-Bytes-clause-rises
returns-in-Bytes-clause-rises g c =
    shown_rises_as c.in-Bytes.is c.put_rows.ensures.rises
