-- The clauses of the call that reads dcsr, where the chip is told.
use Rattle.probe_run.specs.Told.{Serving}
use Rattle.std.proofs.Common.{◌≡◌, ◌∙◌, ℕ, Option, Some, None, refl, sym, ap, arith}
use Rattle.rv_model.specs.Board.{Hart}
use Rattle.rv_model.specs.DebugRegisters.{dcsr_number}
use Rattle.debug_model.specs.Dmi.{DmiComing}
use Rattle.debug_model.specs.Module.{Site}
use Rattle.debug_model.specs.Scan.{WhereTold}
use Rattle.debug_model.specs.SystemBus.{BusUnit}
use Rattle.debug_model.specs.Told.{Far, IsHalted, IsReady, Selects, site_of}
use Rattle.probe_access.specs.declared.fault.AccessFault.{AccessFault}
use Rattle.probe_run.specs.Acts.{Tells, tells}
use Rattle.probe_access.specs.Cuts.{IfCut, LeftAside, Leaves, Unchanged}
use Rattle.probe_access.specs.DcsrRuns.{AsksDcsr, DcsrRead, DcsrReadFailed}
use Rattle.probe_access.specs.Registers.{RegisterReadAt}
use Rattle.probe_access.specs.Scratches.{ScratchLeft}
use Rattle.probe_access.proofs.AroundTold.{apart_clean, behind_clean}
use Rattle.probe_access.proofs.AroundUntold.{apart_plain, behind_plain}
use Rattle.probe_access.proofs.CutClauses.{cut_left}
use Rattle.probe_access.proofs.CutDcsr.{dcsr_asking_hung}
use Rattle.probe_access.proofs.CutHarts.{apart_hung}
use Rattle.probe_access.proofs.CutHung.{Hung}
use Rattle.probe_access.proofs.CutSites.{cut_always}
use Rattle.probe_access.proofs.DcsrTold.{DcsrHeld, dcsr_early_told, dcsr_read_told, dcsr_untold}
use Rattle.probe_access.proofs.RegAnswers.{StoodTold, stood_passed}
use Rattle.probe_access.proofs.RegClauses.{first_told, stood_serving, untold_serving}
use Rattle.probe_access.proofs.ScratchClauses.{clean_left, plain_left}
use Rattle.probe_access.proofs.StopClauses.{dcsr_held, reads_dcsr, thin_as}

pub record DcsrOk (h word : ℕ) (old new : Option Far) : Type 0 where
  pub got : WhereTold (RegisterReadAt h dcsr_number word) old new
  pub serving : Serving h new

pub dcsr_ok : (h word : ℕ) (far : Option Far) (coming : Option DmiComing) (new : Tells) → IsReady far → Selects h far → IsHalted h far
    → DcsrRead word (tells far coming) new → DcsrOk h word far new.far
dcsr_ok h word None coming new ready selects halted r =
    let end : new.far ≡ None = dcsr_untold word (tells None coming) new r refl in record { got = end; serving = untold_serving h new.far end }
dcsr_ok h word (Some f) coming new ready selects halted r =
    let s : Site = site_of f in
    let x : Hart = halted.hart in
    let a : DcsrHeld word h s.unit.bus x s x new.far =
    dcsr_read_told word h s.unit.bus x s x (tells (Some f) coming) new (first_told h f ready halted selects) r in
    record {
      got = record {
        far = a.then.far;
        is = a.then.is;
        hart = x;
        here = halted.is;
        value_is = dcsr_held x ∙ ap Some (sym (thin_as x a.held word a.held_is a.word_is));
        passed = stood_passed h s x a.then.kept (site_of a.then.far) a.then.stood;
      };
      serving = stood_serving h f ready halted new.far a.then;
    }

-- ---- faults

dcsr_plain : (old_count new_count : ℕ) (old new : Tells) (e : AccessFault) → DcsrReadFailed old_count new_count old new e → ScratchLeft None e
dcsr_plain old_count new_count old new e (DcsrReadFailed.asking f) = plain_left e (behind_plain AsksDcsr _ _ 0 ⊥ old_count new_count old new e f)
dcsr_plain old_count new_count old new e (DcsrReadFailed.late mid early f) =
    plain_left e (apart_plain dcsr_number 0 ⊥ old_count new_count mid new e f)

dcsr_clean : (h : ℕ) (c : Far) (bus : BusUnit) (x : Hart) (s : Site) (old_count new_count : ℕ) (old new : Tells) (e : AccessFault)
    → StoodTold h bus x s x old.far → DcsrReadFailed old_count new_count old new e → ScratchLeft (Some c) e
dcsr_clean h c bus x s old_count new_count old new e st (DcsrReadFailed.asking f) =
    clean_left c e (behind_clean AsksDcsr _ _ old_count new_count old new e f)
dcsr_clean h c bus x s old_count new_count old new e st (DcsrReadFailed.late mid early f) =
    clean_left c e
    (apart_clean dcsr_number h bus x s x old_count new_count mid new e (record { small = omega arith; other = refl }) (reads_dcsr x) (dcsr_early_told h bus x s x old mid st early) f)

pub dcsr_err : (h : ℕ) (far : Option Far) (coming : Option DmiComing) (old_count new_count : ℕ) (new : Tells) (e : AccessFault) → IsReady far → Selects h far
    → IsHalted h far → DcsrReadFailed old_count new_count (tells far coming) new e → ScratchLeft far e
dcsr_err h None coming old_count new_count new e ready selects halted f = dcsr_plain old_count new_count (tells None coming) new e f
dcsr_err h (Some c) coming old_count new_count new e ready selects halted f =
    dcsr_clean h c (site_of c).unit.bus halted.hart (site_of c) old_count new_count (tells (Some c) coming) new e (first_told h c ready halted selects) f

-- ---- where it broke off

dcsr_hung : (h : ℕ) (bus : BusUnit) (y : Hart) (base : Site) (w : Hart) (old_count new_count : ℕ) (old new : Tells) (e : AccessFault)
    → StoodTold h bus y base w old.far → DcsrReadFailed old_count new_count old new e → IfCut (Hung (λ z. z ≡ y) h bus base new.far) e
dcsr_hung h bus y base w old_count new_count old new e st (DcsrReadFailed.asking f) = dcsr_asking_hung h bus y base w old_count new_count old new e st f
dcsr_hung h bus y base w old_count new_count old new e st (DcsrReadFailed.late mid early f) =
    apart_hung dcsr_number h bus y base w old_count new_count mid new e (record { small = omega arith; other = refl }) (dcsr_early_told h bus y base w old mid st early) f

pub dcsr_cut : (h : ℕ) (far : Option Far) (coming : Option DmiComing) (old_count new_count : ℕ) (new : Tells) (e : AccessFault) → IsReady far → Selects h far
    → IsHalted h far → DcsrReadFailed old_count new_count (tells far coming) new e
    → IfCut (Leaves (LeftAside Unchanged h) far new.far) e
dcsr_cut h None coming old_count new_count new e ready selects halted f = cut_always (Leaves (LeftAside Unchanged h) None new.far) e tt
dcsr_cut h (Some c) coming old_count new_count new e ready selects halted f =
    cut_left Unchanged h c halted new.far e (dcsr_hung h (site_of c).unit.bus halted.hart (site_of c) halted.hart old_count new_count (tells (Some c) coming)
    new e (first_told h c ready halted selects) f)
