-- An error that stands while a transfer out of a register is under way or over: no access to the words and no command clears it, and the end shows it.
use Rattle.std.proofs.Common.{◌≡◌, ◌≢◌, ◌∙◌, ℕ, List, [], ◌∷◌, ◌++◌, map, Bool, true, false, Option, Some, None, refl, sym, ap, subst, arith}
use Rattle.rv_model.specs.Board.{Hart}
use Rattle.debug_model.specs.Addresses.{data0_address, data1_address, abstractcs_address, command_address}
use Rattle.debug_model.specs.declared.cmderr.Cmderr.{Cmderr}
use Rattle.debug_model.specs.declared.cmderr.Cmderr.TheVariants.{Fine, Busy, NotSupported, Exception, HaltResume}
use Rattle.debug_model.specs.declared.dmi_op.DmiOp.{DmiOp}
use Rattle.debug_model.specs.declared.dmi_op.DmiOp.TheVariants.{Read, Write}
use Rattle.debug_model.specs.declared.micro.Micro.TheVariants.{Transfer}
use Rattle.debug_model.specs.Commands.{CommandUnit, micro_step, no_auto}
use Rattle.debug_model.specs.Course.{OneOperation}
use Rattle.debug_model.specs.Deeds.{Deed, ran}
use Rattle.debug_model.specs.Dmi.{value_of}
use Rattle.debug_model.specs.Module.{DebugModule, Site, operated, register_at, result_of}
use Rattle.debug_model.specs.ModuleWords.{cmderr_number}
use Rattle.debug_model.specs.SystemBus.{BusUnit}
use Rattle.probe_run.specs.Acts.{Act}
use Rattle.probe_run.specs.Acts.Act.{Put}
use Rattle.probe_run.specs.Opening.{clears_cmderr}
use Rattle.probe_access.specs.CommandRuns.{clearing, error_shown, poll_act, shows_busy}
use Rattle.probe_access.specs.RegisterAccess.{transfer_command}
use Rattle.probe_access.proofs.Along.{SiteActs, Split, site_acts-split}
use Rattle.probe_access.proofs.Aside.{Frozen, aside, passed}
use Rattle.probe_access.proofs.Plain.{Holds, seen_held}
use Rattle.probe_access.proofs.ReadyUnit.{Held, Kept, OpAt, commands_of, done_ran, op_at, op_done, unit_of, unit_with}
use Rattle.probe_access.proofs.RegisterCalls.{some_cleared}
use Rattle.probe_access.proofs.RegisterTold.{Rests, Stood, with_data0}
use Rattle.probe_access.proofs.Steps.{Between, Course, Does, DoneAt, between_done, between_ran}
use Rattle.probe_access.proofs.Steps.Between.{still, done}
use Rattle.probe_access.proofs.TransferLemmas.{RanAlone, polls_ran, read_status, shown_error, shown_idle, words_behind}

-- ---- what stands

abbrev pub is_set : Cmderr → Bool
is_set Fine = false
is_set Busy = true
is_set NotSupported = true
is_set Exception = true
is_set HaltResume = true

-- a transfer is under way, and a word was accessed meanwhile; another command may have been written too
abbrev pub early_commands : Kept → ℕ → Bool → CommandUnit
early_commands k number late = record {
  data0 = k.data0;
  data1 = k.data1;
  progbuf0 = k.progbuf0;
  progbuf1 = k.progbuf1;
  progbuf2 = k.progbuf2;
  progbuf3 = k.progbuf3;
  auto = no_auto;
  command = transfer_command false number;
  error = Busy;
  steps = Transfer (transfer_command false number) ∷ [];
  late = late;
}

abbrev pub early_unit : Kept → ℕ → Bool → ℕ → BusUnit → DebugModule
early_unit k number late h bus = record { version = k.version; active = true; hartsel = h; commands = early_commands k number late; bus = bus }

abbrev pub late_unit : Kept → ℕ → ℕ → ℕ → BusUnit → DebugModule
late_unit k number v h bus = unit_with (words_behind false number v k) Busy [] h bus

-- hart h is aside, and as it was
pub data Erred (h : ℕ) (bus : BusUnit) (y : Hart) (base t : Site) : Type 0 where
  early : (k : Kept) (number v : ℕ) (late : Bool) → Holds y number v
      → Between (early_unit k number late h bus) (late_unit k number v h bus) h y y base t → Erred h bus y base t
  over : (k : Kept) (e : Cmderr) → is_set e ≡ true → DoneAt (unit_with k e [] h bus) h y base t → Erred h bus y base t

-- what all of it rests on
pub record Calm (h : ℕ) (bus : BusUnit) (y : Hart) (base : Site) (w : Hart) : Type 0 where
  pub held : Held h w base
  pub frozen : Frozen y
  pub idle : bus.pending ≡ None

pub stood_calm : (h : ℕ) (bus : BusUnit) (y : Hart) (base : Site) (w : Hart) (k : Kept) (s : Site) → Stood h bus y base w k s → Calm h bus y base w
stood_calm h bus y base w k s st = record { held = st.held; frozen = st.frozen; idle = st.idle }

-- ---- it stays through deeds

early_does : (k : Kept) (number v : ℕ) (late : Bool) (y : Hart) → Holds y number v
    → Does y (early_commands k number late) y (commands_of (words_behind false number v k) Busy [])
unfolding micro_step
early_does k number v true y held = record { each = λ m. let shown = seen_held y m number v held in let other = held.other in rw (shown, other) refl }
early_does k number v false y held = record { each = λ m. let shown = seen_held y m number v held in let other = held.other in rw (shown, other) refl }

pub erred_ran : (h : ℕ) (bus : BusUnit) (y : Hart) (base : Site) (w : Hart) (ds : List Deed) (s t : Site) → Calm h bus y base w → t ≡ ran ds s
    → Erred h bus y base s → Erred h bus y base t
erred_ran h bus y base w ds s t c is (early k number v late held b) =
    let m : DebugModule = early_unit k number late h bus in
    let course : Course m h y base w = record { here = c.held.here; frozen = c.held.frozen; frozen_x = c.frozen; selected = refl; bus = c.idle } in
    early k number v late held
    (subst (λ z. Between m (late_unit k number v h bus) h y y base z) (sym is)
    (between_ran ds m (commands_of (words_behind false number v k) Busy []) h y y base w (Transfer (transfer_command false number)) s course c.frozen refl refl
    (early_does k number v late y held) b))
erred_ran h bus y base w ds s t c is (over k e set d) = over k e set (done_ran (unit_with k e [] h bus) h y base w ds s t c.held c.frozen refl c.idle is d)

-- ---- it stays through operations

abbrev pub KeepsErred : ℕ → BusUnit → Hart → Site → DmiOp → Type 0
KeepsErred h bus y base op = (z : Site) → Erred h bus y base z → Erred h bus y base (operated op z)

pub erred_one : (h : ℕ) (bus : BusUnit) (y : Hart) (base : Site) (w : Hart) (op : DmiOp) (result : ℕ) (s t : Site) → Calm h bus y base w
    → KeepsErred h bus y base op → OneOperation op result s t → Erred h bus y base s → Erred h bus y base t
erred_one h bus y base w op result s t c keeps o e =
    erred_ran h bus y base w o.behind (operated op (ran o.before s)) t c o.is
    (keeps (ran o.before s) (erred_ran h bus y base w o.before s (ran o.before s) c refl e))

pub status_keeps : (h : ℕ) (bus : BusUnit) (y : Hart) (base : Site) → KeepsErred h bus y base (Read abstractcs_address)
status_keeps h bus y base z e = subst (Erred h bus y base) (sym (read_status z)) e

pub data0_read_keeps : (h : ℕ) (bus : BusUnit) (y : Hart) (base : Site) → KeepsErred h bus y base (Read data0_address)
unfolding register_at
data0_read_keeps h bus y base z (early k number v late held (still harts is)) =
    early k number v late held (still harts (ap (operated (Read data0_address)) is))
data0_read_keeps h bus y base z (early k number v late held (done harts is)) =
    early k number v late held (done harts (ap (operated (Read data0_address)) is))
data0_read_keeps h bus y base z (over k e set d) = over k e set (record { harts = d.harts; is = ap (operated (Read data0_address)) d.is })

pub data1_read_keeps : (h : ℕ) (bus : BusUnit) (y : Hart) (base : Site) → KeepsErred h bus y base (Read data1_address)
unfolding register_at
data1_read_keeps h bus y base z (early k number v late held (still harts is)) =
    early k number v late held (still harts (ap (operated (Read data1_address)) is))
data1_read_keeps h bus y base z (early k number v late held (done harts is)) =
    early k number v late held (done harts (ap (operated (Read data1_address)) is))
data1_read_keeps h bus y base z (over k e set d) = over k e set (record { harts = d.harts; is = ap (operated (Read data1_address)) d.is })

abbrev pub with_data1 : ℕ → Kept → Kept
with_data1 v k = record k { data1 = v }

pub data0_write_keeps : (v h : ℕ) (bus : BusUnit) (y : Hart) (base : Site) → KeepsErred h bus y base (Write data0_address v)
unfolding register_at
data0_write_keeps v h bus y base z (early k number w late held (still harts is)) =
    early k number w late held (still harts (ap (operated (Write data0_address v)) is))
data0_write_keeps v h bus y base z (early k number w late held (done harts is)) =
    over (with_data0 v (words_behind false number w k)) Busy refl (record { harts = harts; is = ap (operated (Write data0_address v)) is })
data0_write_keeps v h bus y base z (over k e set d) = over (with_data0 v k) e set (record { harts = d.harts; is = ap (operated (Write data0_address v)) d.is })

pub data1_write_keeps : (v h : ℕ) (bus : BusUnit) (y : Hart) (base : Site) → KeepsErred h bus y base (Write data1_address v)
unfolding register_at
data1_write_keeps v h bus y base z (early k number w late held (still harts is)) =
    early k number w late held (still harts (ap (operated (Write data1_address v)) is))
data1_write_keeps v h bus y base z (early k number w late held (done harts is)) =
    over (with_data1 v (words_behind false number w k)) Busy refl (record { harts = harts; is = ap (operated (Write data1_address v)) is })
data1_write_keeps v h bus y base z (over k e set d) = over (with_data1 v k) e set (record { harts = d.harts; is = ap (operated (Write data1_address v)) d.is })

-- a command that is written is ignored, or counts as a late write
pub command_keeps : (word h : ℕ) (bus : BusUnit) (y : Hart) (base : Site) → KeepsErred h bus y base (Write command_address word)
unfolding register_at
command_keeps word h bus y base z (early k number w late held (still harts is)) =
    early k number w true held (still harts (ap (operated (Write command_address word)) is))
command_keeps word h bus y base z (early k number w late held (done harts is)) =
    early k number w late held (done harts (ap (operated (Write command_address word)) is))
command_keeps word h bus y base z (over k Fine set d) = let none : ⊥ = cc in absurd none
command_keeps word h bus y base z (over k Busy set d) = over k Busy set (record { harts = d.harts; is = ap (operated (Write command_address word)) d.is })
command_keeps word h bus y base z (over k NotSupported set d) =
    over k NotSupported set (record { harts = d.harts; is = ap (operated (Write command_address word)) d.is })
command_keeps word h bus y base z (over k Exception set d) =
    over k Exception set (record { harts = d.harts; is = ap (operated (Write command_address word)) d.is })
command_keeps word h bus y base z (over k HaltResume set d) =
    over k HaltResume set (record { harts = d.harts; is = ap (operated (Write command_address word)) d.is })

-- ---- the end shows it

pub record OverAt (h : ℕ) (bus : BusUnit) (y : Hart) (base s : Site) : Type 0 where
  pub kept : Kept
  pub error : Cmderr
  pub set : is_set error ≡ true
  pub at : DoneAt (unit_with kept error [] h bus) h y base s

erred_over : (h : ℕ) (bus : BusUnit) (y : Hart) (base s : Site) → s.unit.commands.steps ≡ [] → Erred h bus y base s → OverAt h bus y base s
erred_over h bus y base s none (early k number v late held b) = record {
  kept = words_behind false number v k;
  error = Busy;
  set = refl;
  at = between_done (early_unit k number late h bus) (late_unit k number v h bus) h y y base s (Transfer (transfer_command false number)) [] refl none b;
}
erred_over h bus y base s none (over k e set d) = record { kept = k; error = e; set = set; at = d }

erred_active : (h : ℕ) (bus : BusUnit) (y : Hart) (base s : Site) → Erred h bus y base s → s.unit.active ≡ true
erred_active h bus y base s (early k number v late held (still harts is)) = ap (λ (u : Site). u.unit.active) is
erred_active h bus y base s (early k number v late held (done harts is)) = ap (λ (u : Site). u.unit.active) is
erred_active h bus y base s (over k e set d) = ap (λ (u : Site). u.unit.active) d.is

set_number : (e : Cmderr) → is_set e ≡ true → cmderr_number e ≢ 0
set_number Fine set is = let none : ⊥ = cc in none
set_number Busy set is = omega arith
set_number NotSupported set is = omega arith
set_number Exception set is = omega arith
set_number HaltResume set is = omega arith

cleared_by : (e : Cmderr) (k : Kept) (h : ℕ) (bus : BusUnit) (y : Hart) (z : Site)
    → operated (Write abstractcs_address clears_cmderr) (aside (unit_with k e [] h bus) h y z) ≡ aside (unit_of k h bus) h y z
unfolding register_at
cleared_by Fine k h bus y z = refl
cleared_by Busy k h bus y z = refl
cleared_by NotSupported k h bus y z = refl
cleared_by Exception k h bus y z = refl
cleared_by HaltResume k h bus y z = refl

pub over_cleared : (h : ℕ) (bus : BusUnit) (y : Hart) (base : Site) (w : Hart) (value : ℕ) (s t : Site) → Calm h bus y base w
    → OneOperation (Write abstractcs_address clears_cmderr) value s t → OverAt h bus y base s → Rests h bus y base w t
over_cleared h bus y base w value s t c one v =
    let o : OpAt (Write abstractcs_address clears_cmderr) value (unit_with v.kept v.error [] h bus) h y base t =
    op_at (Write abstractcs_address clears_cmderr) value (unit_with v.kept v.error [] h bus) h y base w s t c.held c.frozen refl c.idle v.at one in
    record {
      kept = v.kept;
      stood = record {
        held = c.held;
        frozen = c.frozen;
        idle = c.idle;
        at = op_done (Write abstractcs_address clears_cmderr) value (unit_with v.kept v.error [] h bus) (unit_of v.kept h bus) h y base w t c.held c.frozen refl
            c.idle o (cleared_by v.error v.kept h bus y (passed o.harts base));
      };
    }

-- polls, the last of which shows the end
pub record ErredEnd (last h : ℕ) (bus : BusUnit) (y : Hart) (base t : Site) : Type 0 where
  pub error : error_shown last ≢ 0
  pub over : OverAt h bus y base t

pub erred_polled : (words : List ℕ) (last h : ℕ) (bus : BusUnit) (y : Hart) (base : Site) (w : Hart) (s t : Site) → Calm h bus y base w
    → Erred h bus y base s → SiteActs (map poll_act words ++ poll_act last ∷ []) s t → shows_busy last ≡ false → ErredEnd last h bus y base t
erred_polled words last h bus y base w s t c e p not_busy =
    let cut : Split (map poll_act words) (poll_act last ∷ []) s t = site_acts-split (map poll_act words) (poll_act last ∷ []) s t p in
    let polled : RanAlone s cut.mid = polls_ran words s cut.mid cut.first in
    let look : OneOperation (Read abstractcs_address) cut.rest.1.result cut.mid cut.rest.0 = cut.rest.1.one in
    let shown : Site = ran look.before cut.mid in
    let at_look : Erred h bus y base shown =
    erred_ran h bus y base w look.before cut.mid shown c refl (erred_ran h bus y base w polled.deeds s cut.mid c polled.is e) in
    let active : shown.unit.active ≡ true = erred_active h bus y base shown at_look in
    let last_is : last ≡ value_of (result_of abstractcs_address shown) = cut.rest.1.value_is ∙ ap value_of look.result_is in
    let ended : OverAt h bus y base shown = erred_over h bus y base shown (shown_idle shown last active last_is not_busy) at_look in
    let moved : t ≡ ran look.behind shown = cut.rest.2 ∙ look.is ∙ ap (ran look.behind) (read_status shown) in
    record {
      error = λ none. set_number ended.error ended.set
          (sym (ap (λ (u : Site). cmderr_number u.unit.commands.error) ended.at.is) ∙ sym (shown_error shown last active last_is) ∙ none);
      over = record {
        kept = ended.kept;
        error = ended.error;
        set = ended.set;
        at = done_ran (unit_with ended.kept ended.error [] h bus) h y base w look.behind shown t c.held c.frozen refl c.idle moved ended.at;
      };
    }

-- it is cleared
pub erred_cleared : (last h : ℕ) (bus : BusUnit) (y : Hart) (base : Site) (w : Hart) (s t : Site) → Calm h bus y base w → ErredEnd last h bus y base s
    → SiteActs (clearing (error_shown last)) s t → Rests h bus y base w t
erred_cleared last h bus y base w s t c e p =
    let q : SiteActs (Put abstractcs_address clears_cmderr ∷ []) s t =
    subst (λ xs. SiteActs xs s t) (sym (some_cleared (error_shown last) e.error)) p in
    subst (λ u. Rests h bus y base w u) (sym q.2) (over_cleared h bus y base w clears_cmderr s q.0 c q.1 e.over)
