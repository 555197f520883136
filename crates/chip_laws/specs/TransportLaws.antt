-- Laws of the debug transport and its TAP in the standard's words: an operation that failed, and what nobody can see of the shift register.
-- RISC-V Debug Specification 1.0, "Debug Module Interface Access" (op) and "DTM Control and Status" (dmireset); IEEE 1149.1, the state diagram.
use Rattle.std.specs.Prelude.{◌≡◌, ⊤, List, Bool, true, false, Some, None}
use Rattle.debug_model.specs.declared.data_register.DataRegister.TheVariants.{Dmi}
use Rattle.debug_model.specs.declared.dmi_op.DmiOp.{DmiOp}
use Rattle.debug_model.specs.declared.dtmcs.Dtmcs.{Dtmcs}
use Rattle.debug_model.specs.declared.event.Event.TheVariants.{DmiFail}
use Rattle.debug_model.specs.declared.sticky.Sticky.TheVariants.{Clear, Failed}
use Rattle.debug_model.specs.declared.tap_state.TapState.{TapState}
use Rattle.debug_model.specs.declared.tap_state.TapState.TheVariants.{TestLogicReset, RunTestIdle}
use Rattle.debug_model.specs.declared.tap_state.TapState.TheVariants.{SelectDr, CaptureDr, ShiftDr, Exit1Dr, PauseDr, Exit2Dr, UpdateDr}
use Rattle.debug_model.specs.declared.tap_state.TapState.TheVariants.{SelectIr, CaptureIr, ShiftIr, Exit1Ir, PauseIr, Exit2Ir, UpdateIr}
use Rattle.debug_model.specs.Chip.{Works, after_event}
use Rattle.debug_model.specs.Port.{Port, dtm_fallen, port_fallen, port_risen}
use Rattle.debug_model.specs.Tap.{next_state}
use Rattle.debug_model.specs.Transport.{Dtm, address_of, captured_dtm, controlled, dmi_seen, updated_dtm}
use Rattle.debug_model.specs.TransportWords.{status_done, status_failed}

-- ---- an operation that failed

-- it is in flight no more, and neither the module nor hart or memory has seen anything of it
pub record FailsUnseen (op : DmiOp) (w : Works) (after : Works) : Type 0 where
  pub site : after.site ≡ w.site
  pub flight : after.dtm.flight ≡ None
  pub status : (dmi_seen after.dtm).op ≡ status_failed
  pub address : (dmi_seen after.dtm).address ≡ address_of op
  pub value : (dmi_seen after.dtm).value ≡ 0

abbrev pub FailedOperationsAreUnseen : Type 0
FailedOperationsAreUnseen = (w : Works) (op : DmiOp) → w.dtm.flight ≡ Some op → w.dtm.sticky ≡ Clear → FailsUnseen op w (after_event DmiFail w)

-- the status that a scan of dmi has captured stays, and no further operation goes out, until dmireset takes it away together with the failed mark
pub record StaysFailed (seen : Dtm) : Type 0 where
  pub sticky : seen.sticky ≡ Failed
  pub stuck : (bits : List Bool) → updated_dtm Dmi bits seen ≡ seen
  pub again : captured_dtm Dmi seen ≡ seen
  pub mended : (r : Dtmcs) → r.dmireset ≡ true → r.dtmhardreset ≡ false → (dmi_seen (controlled r seen)).op ≡ status_done

abbrev pub FailuresStayUntilReset : Type 0
FailuresStayUntilReset = (d : Dtm) → d.flight ≡ None → d.failed ≡ true → d.sticky ≡ Clear → StaysFailed (captured_dtm Dmi d)

-- ---- one shift register for both columns

-- outside the two columns of the state diagram, and at their heads
abbrev pub ShiftsNothing : TapState → Type 0
ShiftsNothing TestLogicReset = ⊤
ShiftsNothing RunTestIdle = ⊤
ShiftsNothing SelectDr = ⊤
ShiftsNothing CaptureDr = ⊤
ShiftsNothing ShiftDr = ⊥
ShiftsNothing Exit1Dr = ⊥
ShiftsNothing PauseDr = ⊥
ShiftsNothing Exit2Dr = ⊥
ShiftsNothing UpdateDr = ⊥
ShiftsNothing SelectIr = ⊤
ShiftsNothing CaptureIr = ⊤
ShiftsNothing ShiftIr = ⊥
ShiftsNothing Exit1Ir = ⊥
ShiftsNothing PauseIr = ⊥
ShiftsNothing Exit2Ir = ⊥
ShiftsNothing UpdateIr = ⊥

abbrev pub with_shift : List Bool → Port → Port
with_shift bits p = record p { shift = bits }

-- a fall there shows, selects and updates the same, whatever the shift register holds
pub record FallsAlike (bits : List Bool) (p : Port) (d : Dtm) : Type 0 where
  pub port : port_fallen (with_shift bits p) ≡ with_shift bits (port_fallen p)
  pub dtm : dtm_fallen (with_shift bits p) d ≡ dtm_fallen p d

-- a rise in a Capture state gives it anew, and any other there leads nowhere where it counts
abbrev pub RisesAlike : TapState → Bool → List Bool → Port → Dtm → Bool → Type 0
RisesAlike CaptureDr tms bits p d tdi = port_risen tms tdi d (with_shift bits p) ≡ port_risen tms tdi d p
RisesAlike CaptureIr tms bits p d tdi = port_risen tms tdi d (with_shift bits p) ≡ port_risen tms tdi d p
RisesAlike s tms bits p d tdi = (port_risen tms tdi d (with_shift bits p) ≡ with_shift bits (port_risen tms tdi d p)) × ShiftsNothing (next_state s tms)

-- no scan sees what an earlier one has left, of either column
pub record ShiftUnseen (bits : List Bool) (p : Port) (d : Dtm) : Type 0 where
  pub falls : FallsAlike bits p d
  pub rises : (tms tdi : Bool) → p.held ≡ false → RisesAlike p.state tms bits p d tdi

abbrev pub EarlierShiftsAreUnseen : Type 0
EarlierShiftsAreUnseen = (bits : List Bool) (p : Port) (d : Dtm) → ShiftsNothing p.state → ShiftUnseen bits p d
