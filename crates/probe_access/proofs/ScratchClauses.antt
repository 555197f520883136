-- The clauses of the calls that save and put back x8 and x9, where the chip is told.
use Rattle.probe_run.specs.Told.{Serving}
use Rattle.std.proofs.Common.{◌≡◌, ◌∙◌, ◌<◌, ◌^◌, ℕ, true, Option, Some, None, is_some, refl, sym, ap, arith}
use Rattle.rv_model.specs.Board.{Hart}
use Rattle.rv_model.specs.DebugRegisters.{debug_written}
use Rattle.debug_model.specs.Dmi.{DmiComing}
use Rattle.debug_model.specs.Module.{Site}
use Rattle.debug_model.specs.Scan.{WhereTold}
use Rattle.debug_model.specs.SystemBus.{BusUnit}
use Rattle.debug_model.specs.Told.{Far, HartReady, IsHalted, IsReady, Selects, site_of}
use Rattle.probe_access.specs.declared.fault.AccessFault.{AccessFault}
use Rattle.probe_access.specs.declared.fault.AccessFault.TheVariants as access_fault
use Rattle.probe_run.specs.Acts.{Tells, tells}
use Rattle.probe_access.specs.MemoryRuns.{PutBack, PutBackFailed, SaveFailed, Saved}
use Rattle.probe_access.specs.Scratches.{PutBackAt, SavedAt, ScratchLeft}
use Rattle.probe_access.specs.RegisterAccess.{x8_number, x9_number}
use Rattle.probe_access.proofs.AccessEnd.{back_untold, saved_untold}
use Rattle.probe_access.proofs.AccessTold.{SavedTold, saved_told}
use Rattle.probe_access.proofs.AroundTold.{Clean, put_back_clean, save_clean}
use Rattle.probe_access.proofs.AroundUntold.{PlainMemory, put_back_plain, save_plain}
use Rattle.probe_access.proofs.LoadClauses.{Fits, fits_of}
use Rattle.probe_access.proofs.RegAnswers.{StoodTold, WrittenTold, stood_passed, stood_passed_but, written_told}
use Rattle.probe_access.proofs.RegClauses.{first_told, stood_serving, untold_serving}
use Rattle.probe_access.proofs.ScratchLemmas.{x8_value, x9_value}
use Rattle.probe_access.proofs.SetClauses.{set_serving, still_halted}
use Rattle.probe_access.proofs.WrittenReady.{written_ready}

pub record SaveOk (h x8 x9 : ℕ) (old new : Option Far) : Type 0 where
  pub saved_at : WhereTold (SavedAt h x8 x9) old new
  pub serving : Serving h new

pub save_ok : (h x8 x9 : ℕ) (far : Option Far) (coming : Option DmiComing) (new : Tells) → IsReady far → Selects h far → IsHalted h far
    → Saved x8 x9 (tells far coming) new → SaveOk h x8 x9 far new.far
save_ok h x8 x9 None coming new ready selects halted r =
    let end : new.far ≡ None = saved_untold x8 x9 (tells None coming) new r refl in record { saved_at = end; serving = untold_serving h new.far end }
save_ok h x8 x9 (Some f) coming new ready selects halted r =
    let s : Site = site_of f in
    let fits : Fits halted.hart = fits_of h s ready halted in
    let t : SavedTold x8 x9 h s.unit.bus halted.hart s halted.hart new.far =
    saved_told x8 x9 h s.unit.bus halted.hart s halted.hart (tells (Some f) coming) new (first_told h f ready halted selects) r in
    record {
      saved_at = record {
        far = t.then.far;
        is = t.then.is;
        hart = halted.hart;
        here = halted.is;
        x8_is = x8_value halted.hart ∙ ap Some (sym (t.x8_is fits.x8));
        x9_is = x9_value halted.hart ∙ ap Some (sym (t.x9_is fits.x9));
        passed = stood_passed h s halted.hart t.then.kept (site_of t.then.far) t.then.stood;
      };
      serving = stood_serving h f ready halted new.far t.then;
    }

pub record PutBackOk (h x8 x9 : ℕ) (old new : Option Far) : Type 0 where
  pub put_back_at : WhereTold (PutBackAt h x8 x9) old new
  pub serving : Serving h new

pub put_back_ok : (h x8 x9 : ℕ) (far : Option Far) (coming : Option DmiComing) (new : Tells) → x8 < 2 ^ 64 → x9 < 2 ^ 64 → IsReady far → Selects h far
    → IsHalted h far → PutBack x8 x9 (tells far coming) new → PutBackOk h x8 x9 far new.far
put_back_ok h x8 x9 None coming new small8 small9 ready selects halted r =
    let end : new.far ≡ None = back_untold x8 x9 (tells None coming) new r refl in record { put_back_at = end; serving = untold_serving h new.far end }
put_back_ok h x8 x9 (Some f) coming new small8 small9 ready selects halted r =
    let s : Site = site_of f in
    let x : Hart = halted.hart in
    let bus : BusUnit = s.unit.bus in
    let st : StoodTold h bus x s x (Some f) = first_told h f ready halted selects in
    let y : Hart = debug_written x x8_number x8 in
    let z : Hart = debug_written y x9_number x9 in
    let a : WrittenTold x8_number x8 h bus x s x st.kept r.mid.far =
    written_told x8_number x8 h bus x s x (tells (Some f) coming) r.mid (omega arith) st r.first in
    let b : WrittenTold x9_number x9 h bus y s x a.then.kept new.far = written_told x9_number x9 h bus y s x r.mid new (omega arith) a.then r.second in
    let fits : HartReady h z = written_ready h y x9_number x9 (written_ready h x x8_number x8 (ready.harts h x halted.is) small8) small9 in
    let still : is_some z.debug.halted ≡ true = still_halted y x9_number x9 (still_halted x x8_number x8 halted.halted) in
    record {
      put_back_at = record {
        far = b.then.far;
        is = b.then.is;
        hart = x;
        here = halted.is;
        passed =
            stood_passed_but h s z x b.then.kept (site_of b.then.far) b.then.stood;
      };
      serving = set_serving h f ready halted z new.far fits still b.then;
    }

-- ---- faults

pub clean_left : (f : Far) (e : AccessFault) → Clean e → ScratchLeft (Some f) e
clean_left f (access_fault.Dmi why) c = tt
clean_left f (access_fault.Memory at) c = c
clean_left f (access_fault.Register number) c = absurd c
clean_left f access_fault.StillBusy c = tt
clean_left f (access_fault.Run why) c = c
clean_left f (access_fault.Odd shown) c = absurd c

pub plain_left : (e : AccessFault) → PlainMemory 0 ⊥ e → ScratchLeft None e
plain_left (access_fault.Dmi why) p = tt
plain_left (access_fault.Memory at) p = p.1
plain_left (access_fault.Register number) p = refl
plain_left access_fault.StillBusy p = tt
plain_left (access_fault.Run why) p = p
plain_left (access_fault.Odd shown) p = refl

pub save_err : (h : ℕ) (far : Option Far) (coming : Option DmiComing) (old_count new_count : ℕ) (new : Tells) (e : AccessFault) → IsReady far → Selects h far
    → IsHalted h far → SaveFailed old_count new_count (tells far coming) new e → ScratchLeft far e
save_err h None coming old_count new_count new e ready selects halted f = plain_left e (save_plain 0 ⊥ old_count new_count (tells None coming) new e f)
save_err h (Some c) coming old_count new_count new e ready selects halted f =
    clean_left c e (save_clean h (site_of c).unit.bus halted.hart (site_of c) halted.hart old_count new_count (tells (Some c) coming) new e
    (first_told h c ready halted selects) f)

pub put_back_err : (h x8 x9 : ℕ) (far : Option Far) (coming : Option DmiComing) (old_count new_count : ℕ) (new : Tells) (e : AccessFault) → IsReady far
    → Selects h far → IsHalted h far → PutBackFailed x8 x9 old_count new_count (tells far coming) new e → ScratchLeft far e
put_back_err h x8 x9 None coming old_count new_count new e ready selects halted f =
    plain_left e (put_back_plain x8 x9 0 ⊥ old_count new_count (tells None coming) new e f)
put_back_err h x8 x9 (Some c) coming old_count new_count new e ready selects halted f =
    clean_left c e (put_back_clean x8 x9 h (site_of c).unit.bus halted.hart (site_of c) halted.hart old_count new_count (tells (Some c) coming) new e
    (first_told h c ready halted selects) f)
