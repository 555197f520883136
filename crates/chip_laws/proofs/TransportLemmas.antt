-- An operation that failed, and what an earlier scan has left in the shift register.
use Rattle.std.proofs.Common.{◌≡◌, List, Bool, true, false, Some, None, refl}
use Rattle.debug_model.specs.declared.data_register.DataRegister.{DataRegister}
use Rattle.debug_model.specs.declared.data_register.DataRegister.TheVariants.{Dmi}
use Rattle.debug_model.specs.declared.dmi_op.DmiOp.{DmiOp}
use Rattle.debug_model.specs.declared.event.Event.TheVariants.{DmiFail}
use Rattle.debug_model.specs.declared.sticky.Sticky.TheVariants.{Clear}
use Rattle.debug_model.specs.declared.tap_state.TapState.{TapState}
use Rattle.debug_model.specs.declared.tap_state.TapState.TheVariants.{TestLogicReset, RunTestIdle}
use Rattle.debug_model.specs.declared.tap_state.TapState.TheVariants.{SelectDr, CaptureDr, ShiftDr, Exit1Dr, PauseDr, Exit2Dr, UpdateDr}
use Rattle.debug_model.specs.declared.tap_state.TapState.TheVariants.{SelectIr, CaptureIr, ShiftIr, Exit1Ir, PauseIr, Exit2Ir, UpdateIr}
use Rattle.debug_model.specs.Chip.{Works, after_event}
use Rattle.debug_model.specs.Port.{Port}
use Rattle.debug_model.specs.Transport.{Dtm, captured_dtm, updated_dtm}
use Rattle.chip_laws.specs.TransportLaws.{FailsUnseen, FallsAlike, RisesAlike, ShiftUnseen, ShiftsNothing, StaysFailed}

pub fails_unseen : (w : Works) (op : DmiOp) → w.dtm.flight ≡ Some op → w.dtm.sticky ≡ Clear → FailsUnseen op w (after_event DmiFail w)
unfolding after_event
fails_unseen w op flight clear = record {
  site = rw flight refl;
  flight = rw flight refl;
  status = rw (flight, clear) refl;
  address = rw flight refl;
  value = rw flight refl;
}

pub stays_failed : (d : Dtm) → d.flight ≡ None → d.failed ≡ true → d.sticky ≡ Clear → StaysFailed (captured_dtm Dmi d)
unfolding updated_dtm
stays_failed d flight failed clear = record {
  sticky = rw (clear, flight, failed) refl;
  stuck = λ bits. rw (clear, flight, failed) refl;
  again = rw (clear, flight, failed) refl;
  mended = λ r asked kept. rw (clear, flight, failed, asked, kept) refl;
}

-- ---- the shift register

falls_at : (s : TapState) (r : DataRegister) (had bits : List Bool) (tdo held : Bool) (d : Dtm) → ShiftsNothing s
    → FallsAlike bits (record { state = s; selected = r; shift = had; tdo = tdo; held = held }) d
falls_at TestLogicReset r had bits tdo held d quiet = record { port = refl; dtm = refl }
falls_at RunTestIdle r had bits tdo held d quiet = record { port = refl; dtm = refl }
falls_at SelectDr r had bits tdo held d quiet = record { port = refl; dtm = refl }
falls_at CaptureDr r had bits tdo held d quiet = record { port = refl; dtm = refl }
falls_at ShiftDr r had bits tdo held d quiet = absurd quiet
falls_at Exit1Dr r had bits tdo held d quiet = absurd quiet
falls_at PauseDr r had bits tdo held d quiet = absurd quiet
falls_at Exit2Dr r had bits tdo held d quiet = absurd quiet
falls_at UpdateDr r had bits tdo held d quiet = absurd quiet
falls_at SelectIr r had bits tdo held d quiet = record { port = refl; dtm = refl }
falls_at CaptureIr r had bits tdo held d quiet = record { port = refl; dtm = refl }
falls_at ShiftIr r had bits tdo held d quiet = absurd quiet
falls_at Exit1Ir r had bits tdo held d quiet = absurd quiet
falls_at PauseIr r had bits tdo held d quiet = absurd quiet
falls_at Exit2Ir r had bits tdo held d quiet = absurd quiet
falls_at UpdateIr r had bits tdo held d quiet = absurd quiet

rises_at : (s : TapState) (r : DataRegister) (had bits : List Bool) (tdo held tms tdi : Bool) (d : Dtm) → ShiftsNothing s → held ≡ false
    → RisesAlike s tms bits (record { state = s; selected = r; shift = had; tdo = tdo; held = held }) d tdi
rises_at TestLogicReset r had bits tdo held true tdi d quiet free = (rw free refl, tt)
rises_at TestLogicReset r had bits tdo held false tdi d quiet free = (rw free refl, tt)
rises_at RunTestIdle r had bits tdo held true tdi d quiet free = (rw free refl, tt)
rises_at RunTestIdle r had bits tdo held false tdi d quiet free = (rw free refl, tt)
rises_at SelectDr r had bits tdo held true tdi d quiet free = (rw free refl, tt)
rises_at SelectDr r had bits tdo held false tdi d quiet free = (rw free refl, tt)
rises_at CaptureDr r had bits tdo held tms tdi d quiet free = rw free refl
rises_at ShiftDr r had bits tdo held tms tdi d quiet free = absurd quiet
rises_at Exit1Dr r had bits tdo held tms tdi d quiet free = absurd quiet
rises_at PauseDr r had bits tdo held tms tdi d quiet free = absurd quiet
rises_at Exit2Dr r had bits tdo held tms tdi d quiet free = absurd quiet
rises_at UpdateDr r had bits tdo held tms tdi d quiet free = absurd quiet
rises_at SelectIr r had bits tdo held true tdi d quiet free = (rw free refl, tt)
rises_at SelectIr r had bits tdo held false tdi d quiet free = (rw free refl, tt)
rises_at CaptureIr r had bits tdo held tms tdi d quiet free = rw free refl
rises_at ShiftIr r had bits tdo held tms tdi d quiet free = absurd quiet
rises_at Exit1Ir r had bits tdo held tms tdi d quiet free = absurd quiet
rises_at PauseIr r had bits tdo held tms tdi d quiet free = absurd quiet
rises_at Exit2Ir r had bits tdo held tms tdi d quiet free = absurd quiet
rises_at UpdateIr r had bits tdo held tms tdi d quiet free = absurd quiet

pub shift_unseen : (bits : List Bool) (p : Port) (d : Dtm) → ShiftsNothing p.state → ShiftUnseen bits p d
shift_unseen bits p d quiet = record {
  falls = falls_at p.state p.selected p.shift bits p.tdo p.held d quiet;
  rises = λ tms tdi free. rises_at p.state p.selected p.shift bits p.tdo p.held tms tdi d quiet free;
}
