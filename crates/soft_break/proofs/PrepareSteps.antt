-- Harts made to halt at an ebreak, one behind another.
use Rattle.std.proofs.Common.{◌≡◌, ◌≤◌, ◌<◌, ◌+◌, ℕ, suc, true, Result, Ok, Err, IfErr, IsErrAnd, sym, subst, refl, arith}
use Rattle.debug_model.specs.Kept.{DmiSeen, Keeps, StandsUnless}
use Rattle.debug_model.specs.Scan.{WhereTold}
use Rattle.soft_laws.specs.SoftDebugger.{most_harts}
use Rattle.probe_run.specs.declared.fault.RunFault.{RunFault}
use Rattle.probe_run.specs.declared.fault.RunFault.TheVariants as run_fault
use Rattle.probe_run.specs.declared.hart.Halted.{Halted}
use Rattle.probe_run.specs.declared.hart.Running.{Running}
use Rattle.probe_run.specs.declared.hart.Seen.{Seen}
use Rattle.probe_run.specs.declared.hart.Seen.TheVariants as seen
use Rattle.probe_run.specs.Acts.{Tells}
use Rattle.probe_run.specs.Happens.{Leaves, LookLeft, LooksAt}
use Rattle.probe_run.specs.Outcomes.{IsSeen, LookFails, LookedAt, run_why}
use Rattle.probe_run.specs.Looks.{seen_in}
use Rattle.probe_run.specs.Told.{Serving}
use Rattle.rv_model.specs.DebugRegisters.{dcsr_number}
use Rattle.abstract_debugger.specs.Debugger.{Seen as Sight}
use Rattle.probe_access.specs.declared.fault.AccessFault.{AccessFault}
use Rattle.probe_access.specs.Cuts as cuts
use Rattle.probe_access.specs.Cuts.{IfCut, LeftAside, MaybeWritten}
use Rattle.probe_access.specs.Faults.{access_why}
use Rattle.probe_access.specs.RegisterRuns.{WriteFailed}
use Rattle.probe_access.specs.Registers.{RegisterLeft}
use Rattle.probe_access.specs.StepRuns.{of_run}
use Rattle.soft_break.specs.Preparing.{EbreakFailed, EbreakSet, LookOf, PrepareFailed, RunsAt, SetBelow, WriteBroke, ebreak_halting}
use Rattle.soft_break.specs.Preparing.PrepareFailed.{in_look, in_setting}
use Rattle.soft_break.specs.Preparing.SetBelow.{one_more}

-- what a Look handed out
pub look_of : (h : ℕ) {s r : Seen} (old new : Tells) → s ≡ r → LookedAt h old new s → WhereTold (Leaves (LooksAt h s) h) old.far new.far → LookOf h r old new
look_of h old new is heard happened = subst (λ x. LookOf h x old new) is (record { heard = heard; happened = happened })

number_by : (h : ℕ) (x : Halted) (s : Sight) → IsSeen h s (seen.Halted x) → x.number ≡ h
number_by h x Sight.Absent is = absurd is
number_by h x (Sight.Running ack) is = absurd is
number_by h x (Sight.Halted ack) is = is

-- the hart that was seen halted is the one that was looked at
pub looked_number : (h : ℕ) (x : Halted) (old new : Tells) → LookOf h (seen.Halted x) old new → x.number ≡ h
looked_number h x old new look = number_by h x (seen_in look.heard.word) look.heard.shows

pub set_more : (h : ℕ) (x : Halted) (old mid looked new : Tells) → SetBelow old h mid → LookOf h (seen.Halted x) mid looked → EbreakSet x.number looked new
    → SetBelow old (h + 1) new
set_more h x old mid looked new below look set =
    subst (λ n. SetBelow old n new) (next h)
    (one_more x below look (subst (λ n. EbreakSet n looked new) (looked_number h x mid looked look) set))
  where
    next : (n : ℕ) → suc n ≡ n + 1
    next n = omega arith

pub setting_failed : (h count new_count old_count : ℕ) (x : Halted) (old mid looked new : Tells) (why : AccessFault) → h < most_harts → SetBelow old h mid
    → LookOf h (seen.Halted x) mid looked → old_count ≤ count → EbreakFailed x.number count new_count looked new why
    → PrepareFailed old_count new_count old new why
setting_failed h count new_count old_count x old mid looked new why few below look later failed =
    in_setting x few below look later (subst (λ n. EbreakFailed n count new_count looked new why) (looked_number h x mid looked look) failed)

-- ---- a Look that failed

pub run_access_why : (why : RunFault) → access_why (of_run why) ≡ run_why why
run_access_why (run_fault.Dmi why) = refl
run_access_why (run_fault.NoHalt looks) = refl
run_access_why (run_fault.NoAck looks) = refl

pub look_failed : (h count new_count old_count : ℕ) (old mid new : Tells) (fault : RunFault) → h < most_harts → SetBelow old h mid → old_count ≤ count
    → count ≤ new_count → LookFails h count new_count mid new fault → LookLeft h mid.far new.far fault
    → PrepareFailed old_count new_count old new (of_run fault)
look_failed h count new_count old_count old mid new fault few below later more heard left =
    in_look few below later (record { fault = fault; later = more; heard = heard; left = left; is = refl })

pub err_handed : {A : Type 0} (P : AccessFault → Type 0) (f : AccessFault) (result : Result A AccessFault) → IsErrAnd result (λ e. e ≡ f) → P f
    → IfErr result P
err_handed P f (Ok x) is p = tt
err_handed P f (Err e) is p = subst P (sym is) p

pub look_keeps : {A : Type 0} (old new : DmiSeen) (fault : RunFault) (result : Result A AccessFault) → old.fault_count ≤ new.fault_count → new.fixed ≡ old.fixed
    → IsErrAnd result (λ e. e ≡ of_run fault) → StandsUnless new (run_why fault) → Keeps access_why old new result
look_keeps old new fault (Ok x) later fixed is left = absurd is
look_keeps old new fault (Err e) later fixed is left = record {
  later = later;
  fixed = fixed;
  behind = subst (λ f. StandsUnless new (access_why f)) (sym is) (subst (StandsUnless new) (sym (run_access_why fault)) left);
}

pub write_broke : (h word value old_count new_count : ℕ) (old new : Tells) (why : AccessFault) → value ≡ ebreak_halting word → old_count ≤ new_count
    → Serving h old.far → WriteFailed dcsr_number value old_count new_count old new why → RegisterLeft true h dcsr_number old.far new.far why
    → IfCut (cuts.Leaves (LeftAside (MaybeWritten dcsr_number value) h) old.far new.far) why → WriteBroke h word old_count new_count old new why
write_broke h word value old_count new_count old new why is later at heard left cut = record {
  later = later;
  at = at;
  heard = subst (λ v. WriteFailed dcsr_number v old_count new_count old new why) is heard;
  left = left;
  cut = subst (λ v. IfCut (cuts.Leaves (LeftAside (MaybeWritten dcsr_number v) h) old.far new.far) why) is cut;
}

pub runs_at : (h : ℕ) (r : Running) (old mid new : Tells) → h < most_harts → SetBelow old h mid → LookOf h (seen.Running r) mid new → RunsAt h old new
runs_at h r old mid new few below look = record { below = few; mid = mid; set = below; running = r; look = look }
