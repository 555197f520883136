-- The words of dmcontrol and dmstatus read back: what a request asks for, and what a Look shows.
use Rattle.std.proofs.Common.{◌≡◌, ◌∙◌, ◌<◌, ◌^◌, ◌==◌, ℕ, Bool, true, false, Option, Some, None, refl, ap, arith, is_some, if◌then◌else◌}
use Rattle.rv_model.specs.declared.version.Version.{Version}
use Rattle.rv_model.specs.declared.version.Version.TheVariants.{V013, V10}
use Rattle.rv_model.specs.Version.{version_number}
use Rattle.rv_model.specs.declared.cause.Cause.{Cause}
use Rattle.rv_model.specs.Board.{Hart}
use Rattle.debug_model.specs.declared.dmcontrol.Dmcontrol.{Dmcontrol}
use Rattle.debug_model.specs.Dmi.{value_of}
use Rattle.debug_model.specs.Module.{hart_status}
use Rattle.debug_model.specs.ModuleWords.{dmcontrol_of, dmstatus_word}
use Rattle.abstract_debugger.specs.Debugger.{seen_by, seen_here}
use Rattle.probe_run.specs.declared.control.Request.{Request}
use Rattle.probe_run.specs.declared.control.Request.TheVariants.{Nothing, Halt, Resume}
use Rattle.probe_run.specs.Looks.{seen_in}
use Rattle.probe_run.specs.Requests.{asks_halt, asks_resume, control_word}

-- ---- dmcontrol

abbrev pub control_for : Request → ℕ → Dmcontrol
control_for request h = record { haltreq = asks_halt request; resumereq = asks_resume request; ackhavereset = false; hartsello = h; dmactive = true }

is_one : (n : ℕ) → n ≡ 1 → (n == 1) ≡ true
is_one n is = ap (λ k. k == 1) is

is_none : (n : ℕ) → n ≡ 0 → (n == 1) ≡ false
is_none n is = ap (λ k. k == 1) is

control_fields : (r : Dmcontrol) (halt resume known active : Bool) (h : ℕ) → r.haltreq ≡ halt → r.resumereq ≡ resume → r.ackhavereset ≡ known → r.hartsello ≡ h
    → r.dmactive ≡ active
    → r ≡ record { haltreq = halt; resumereq = resume; ackhavereset = known; hartsello = h; dmactive = active }
control_fields r halt resume known active h a b c d e =
    ap (λ x. let q : Dmcontrol = record { haltreq = x; resumereq = r.resumereq; ackhavereset = r.ackhavereset; hartsello = r.hartsello; dmactive = r.dmactive }
    in q) a
    ∙ ap (λ x. let q : Dmcontrol = record { haltreq = halt; resumereq = x; ackhavereset = r.ackhavereset; hartsello = r.hartsello; dmactive = r.dmactive } in
    q) b
    ∙ ap (λ x. let q : Dmcontrol = record { haltreq = halt; resumereq = resume; ackhavereset = x; hartsello = r.hartsello; dmactive = r.dmactive } in q) c
    ∙ ap (λ x. let q : Dmcontrol = record { haltreq = halt; resumereq = resume; ackhavereset = known; hartsello = x; dmactive = r.dmactive } in q) d
    ∙ ap (λ x. let q : Dmcontrol = record { haltreq = halt; resumereq = resume; ackhavereset = known; hartsello = h; dmactive = x } in q) e

pub control_read : (request : Request) (h : ℕ) → h < 2 ^ 10 → dmcontrol_of (control_word request h) ≡ control_for request h
control_read Nothing h small =
    control_fields (dmcontrol_of (control_word Nothing h)) false false false true h (is_none _ (omega arith)) (is_none _ (omega arith))
    (is_none _ (omega arith)) (omega arith) (is_one _ (omega arith))
control_read Halt h small =
    control_fields (dmcontrol_of (control_word Halt h)) true false false true h (is_one _ (omega arith)) (is_none _ (omega arith)) (is_none _ (omega arith))
    (omega arith) (is_one _ (omega arith))
control_read Resume h small =
    control_fields (dmcontrol_of (control_word Resume h)) false true false true h (is_none _ (omega arith)) (is_one _ (omega arith)) (is_none _ (omega arith))
    (omega arith) (is_one _ (omega arith))

-- ---- dmstatus

status_read : (v : Version) (reset ack : Bool) (halted : Option Cause)
    → seen_in (value_of (dmstatus_word (record {
      havereset = reset;
      resumeack = ack;
      nonexistent = false;
      running = if is_some halted then false else true;
      halted = is_some halted;
      authenticated = true;
      version = version_number v;
    }))) ≡ seen_by halted ack
status_read V013 true true (Some why) = refl
status_read V013 true true None = refl
status_read V013 true false (Some why) = refl
status_read V013 true false None = refl
status_read V013 false true (Some why) = refl
status_read V013 false true None = refl
status_read V013 false false (Some why) = refl
status_read V013 false false None = refl
status_read V10 true true (Some why) = refl
status_read V10 true true None = refl
status_read V10 true false (Some why) = refl
status_read V10 true false None = refl
status_read V10 false true (Some why) = refl
status_read V10 false true None = refl
status_read V10 false false (Some why) = refl
status_read V10 false false None = refl

-- a Look shows the hart as it is
pub seen_status : (v : Version) (o : Option Hart) → seen_in (value_of (dmstatus_word (hart_status v o))) ≡ seen_here o
seen_status v (Some x) = status_read v x.debug.have_reset x.debug.resume_ack x.debug.halted
seen_status V013 None = refl
seen_status V10 None = refl
