-- The clauses of the calls that read and write a register, where the chip is told.
use Rattle.probe_run.specs.Told.{Serving}
use Rattle.std.proofs.Common.{◌≡◌, ◌∙◌, ◌<◌, ◌^◌, ℕ, Bool, false, Option, Some, None, slice_get, refl, sym, ap, subst}
use Rattle.debug_model.specs.Dmi.{DmiComing}
use Rattle.debug_model.specs.Module.{Site}
use Rattle.debug_model.specs.Scan.{WhereTold}
use Rattle.debug_model.specs.Told.{Far, HartHalted, IsHalted, IsReady, Selects, SiteReady, site_of}
use Rattle.probe_access.specs.declared.fault.AccessFault.{AccessFault}
use Rattle.probe_access.specs.declared.fault.AccessFault.TheVariants as access_fault
use Rattle.probe_run.specs.Acts.{Tells, tells}
use Rattle.probe_access.specs.RegisterRuns.{AskFailed, ReadApartFailed, ReadFailed, RegisterRead}
use Rattle.probe_access.specs.Registers.{RegisterReadAt, IfRegister, RegisterLeft}
use Rattle.probe_access.proofs.Plain.{Plain}
use Rattle.probe_access.proofs.Along.{did_untold}
use Rattle.probe_access.proofs.Aside.{passed}
use Rattle.probe_access.proofs.ReadyUnit.{kept_of, unit_of}
use Rattle.probe_access.proofs.RegAnswers.{
  DeniedTold,
  ReadTold,
  StoodTold,
  first_stood,
  read_denied,
  read_not_odd,
  read_told,
  stood_passed,
  stood_ready,
  stood_selects,
  read_untold,
  too_early_told,
}
use Rattle.probe_access.proofs.Turns.{stays_passed, hart_aside}

-- ---- the start

pub first_told : (h : ℕ) (f : Far) (ready : SiteReady (site_of f)) (halted : HartHalted h (site_of f).board) → (site_of f).unit.hartsel ≡ h
    → StoodTold h (site_of f).unit.bus halted.hart (site_of f) halted.hart (Some f)
first_told h f ready halted selected = record
    { far = f; is = refl; kept = kept_of (site_of f).unit; stood = first_stood h (site_of f) ready halted selected }

-- ---- what holds of a chip again

pub untold_serving : (h : ℕ) (told : Option Far) → told ≡ None → Serving h told
untold_serving h told is = subst (Serving h) (sym is) (record { ready = tt; selects = tt; halted = tt })

pub told_serving : (h : ℕ) (f : Far) → SiteReady (site_of f) → (site_of f).unit.hartsel ≡ h → HartHalted h (site_of f).board → (told : Option Far)
    → told ≡ Some f → Serving h told
told_serving h f ready selects halted told is = subst (Serving h) (sym is) (record { ready = ready; selects = selects; halted = halted })

pub stood_serving : (h : ℕ) (f : Far) (ready : SiteReady (site_of f)) (halted : HartHalted h (site_of f).board) (told : Option Far)
    → StoodTold h (site_of f).unit.bus halted.hart (site_of f) halted.hart told → Serving h told
stood_serving h f ready halted told st =
    told_serving h st.far (stood_ready h (site_of f) halted.hart st.kept (site_of st.far) ready st.stood)
    (stood_selects h (site_of f).unit.bus halted.hart (site_of f) halted.hart st.kept (site_of st.far) st.stood)
    (record {
      hart = halted.hart;
      is =
          ap (λ (s : Site). slice_get s.board.harts h) st.stood.at.is
          ∙ hart_aside (unit_of st.kept h (site_of f).unit.bus) h halted.hart (passed st.stood.at.harts (site_of f)) halted.hart
          (stays_passed h st.stood.at.harts (site_of f) halted.hart st.stood.held.here st.stood.held.frozen);
      halted = halted.halted;
    }) told st.is

-- ---- a register that is read

pub record RegOk (h number value : ℕ) (old new : Option Far) : Type 0 where
  pub got : WhereTold (RegisterReadAt h number value) old new
  pub serving : Serving h new

pub reg_ok : (h number value : ℕ) (far : Option Far) (coming : Option DmiComing) (new : Tells) → Plain number → IsReady far → Selects h far → IsHalted h far
    → RegisterRead number value (tells far coming) new → RegOk h number value far new.far
reg_ok h number value None coming new small ready selects halted r =
    let end : new.far ≡ None = read_untold number value (tells None coming) new r refl in
    record { got = end; serving = untold_serving h new.far end }
reg_ok h number value (Some f) coming new small ready selects halted r =
    let t : ReadTold number value h (site_of f).unit.bus halted.hart (site_of f) halted.hart new.far =
    read_told number value h (site_of f).unit.bus halted.hart (site_of f) halted.hart (tells (Some f) coming) new small
    (first_told h f ready halted selects) r in
    let fits : t.held < 2 ^ 64 = (ready.harts h halted.hart halted.is).registers number t.held t.held_is in
    record {
      got = record {
        far = t.then.far;
        is = t.then.is;
        hart = halted.hart;
        here = halted.is;
        value_is = t.held_is ∙ ap Some (sym (t.value_is fits));
        passed = stood_passed h (site_of f) halted.hart t.then.kept (site_of t.then.far) t.then.stood;
      };
      serving = stood_serving h f ready halted new.far t.then;
    }

pub record RegErr (write : Bool) (h number : ℕ) (old new : Option Far) (e : AccessFault) : Type 0 where
  pub left : RegisterLeft write h number old new e
  pub serving : IfRegister (Serving h new) e

pub reg_denied : (write : Bool) (h number asked : ℕ) (f : Far) (new : Tells) (ready : SiteReady (site_of f)) (halted : HartHalted h (site_of f).board)
    → DeniedTold write number h (site_of f).unit.bus halted.hart (site_of f) halted.hart new.far
    → RegErr write h number (Some f) new.far (access_fault.Register asked)
reg_denied write h number asked f new ready halted t = record {
  left = record {
    far = t.then.far;
    is = t.then.is;
    hart = halted.hart;
    here = halted.is;
    denied = t.denied_is;
    passed = stood_passed h (site_of f) halted.hart t.then.kept (site_of t.then.far) t.then.stood;
  };
  serving = stood_serving h f ready halted new.far t.then;
}

apart_err : (h number : ℕ) (f : Far) (old_count new_count : ℕ) (mid new : Tells) (e : AccessFault) → Plain number → (ready : SiteReady (site_of f))
    → (halted : HartHalted h (site_of f).board) → StoodTold h (site_of f).unit.bus halted.hart (site_of f) halted.hart mid.far
    → ReadApartFailed number old_count new_count mid new e → RegErr false h number (Some f) new.far e
apart_err h number c old_count new_count mid new (access_fault.Dmi why) small ready halted st f = record { left = tt; serving = tt }
apart_err h number c old_count new_count mid new (access_fault.Memory address) small ready halted st f = absurd f
apart_err h number c old_count new_count mid new (access_fault.Register asked) small ready halted st f =
    reg_denied false h number asked c new ready halted
    (read_denied number h (site_of c).unit.bus halted.hart (site_of c) halted.hart mid new small st f.ran)
apart_err h number c old_count new_count mid new access_fault.StillBusy small ready halted st f = record { left = tt; serving = tt }
apart_err h number c old_count new_count mid new (access_fault.Run why) small ready halted st f = absurd f
apart_err h number c old_count new_count mid new (access_fault.Odd shown) small ready halted st f =
    absurd (read_not_odd number shown h (site_of c).unit.bus halted.hart (site_of c) halted.hart mid new small st f)

asking_err : (h number old_count new_count : ℕ) (far : Option Far) (old new : Tells) (e : AccessFault) → AskFailed number old_count new_count old new e
    → RegErr false h number far new.far e
asking_err h number old_count new_count far old new (access_fault.Dmi why) f = record { left = tt; serving = tt }
asking_err h number old_count new_count far old new (access_fault.Memory address) f = absurd f
asking_err h number old_count new_count far old new (access_fault.Register asked) f = absurd f
asking_err h number old_count new_count far old new access_fault.StillBusy f = record { left = tt; serving = tt }
asking_err h number old_count new_count far old new (access_fault.Run why) f = absurd f
asking_err h number old_count new_count far old new (access_fault.Odd shown) f = absurd f

pub untold_err : (h number old_count new_count : ℕ) (mid new : Tells) (e : AccessFault) → mid.far ≡ None → ReadApartFailed number old_count new_count mid new e
    → RegErr false h number None new.far e
untold_err h number old_count new_count mid new (access_fault.Dmi why) none f = record { left = tt; serving = tt }
untold_err h number old_count new_count mid new (access_fault.Memory address) none f = absurd f
untold_err h number old_count new_count mid new (access_fault.Register asked) none f =
    let end : new.far ≡ None = did_untold mid _ new f.ran.ran.did none in record { left = end; serving = untold_serving h new.far end }
untold_err h number old_count new_count mid new access_fault.StillBusy none f = record { left = tt; serving = tt }
untold_err h number old_count new_count mid new (access_fault.Run why) none f = absurd f
untold_err h number old_count new_count mid new (access_fault.Odd shown) none f = record { left = refl; serving = tt }

pub reg_err : (h number : ℕ) (far : Option Far) (coming : Option DmiComing) (old_count new_count : ℕ) (new : Tells) (e : AccessFault) → Plain number
    → IsReady far → Selects h far → IsHalted h far
    → ReadFailed number old_count new_count (tells far coming) new e → RegErr false h number far new.far e
reg_err h number far coming old_count new_count new e small ready selects halted (ReadFailed.asking f) =
    asking_err h number old_count new_count far (tells far coming) new e f
reg_err h number None coming old_count new_count new e small ready selects halted (ReadFailed.late mid early f) =
    untold_err h number old_count new_count mid new e (did_untold (tells None coming) _ mid early.ended.did refl) f
reg_err h number (Some c) coming old_count new_count new e small ready selects halted (ReadFailed.late mid early f) =
    apart_err h number c old_count new_count mid new e small ready halted
    (too_early_told number h (site_of c).unit.bus halted.hart (site_of c) halted.hart (tells (Some c) coming) mid small (first_told h c ready halted selects)
    early) f

pub if_register : (P Q : Type 0) (e : AccessFault) → (P → Q) → IfRegister P e → IfRegister Q e
if_register P Q (access_fault.Dmi why) f p = tt
if_register P Q (access_fault.Memory address) f p = tt
if_register P Q (access_fault.Register asked) f p = f p
if_register P Q access_fault.StillBusy f p = tt
if_register P Q (access_fault.Run why) f p = tt
if_register P Q (access_fault.Odd shown) f p = tt
