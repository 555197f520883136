-- Where a single step broke off at a told chip.
use Rattle.std.proofs.Common.{◌≡◌, ◌∙◌, ℕ, true, false, Option, Some, None, ap, subst, inl, inr, ◌⊎◌}
use Rattle.debug_model.specs.declared.point.Point.TheVariants.{ResumeReq}
use Rattle.debug_model.specs.Module.{DebugModule, Site}
use Rattle.debug_model.specs.Scan.{WhereTold}
use Rattle.debug_model.specs.Told.{Far, site_of}
use Rattle.abstract_debugger.specs.Debugger.{sees_both}
use Rattle.probe_access.specs.declared.fault.AccessFault.{AccessFault}
use Rattle.probe_run.specs.declared.fault.RunFault.{RunFault}
use Rattle.probe_run.specs.declared.fault.RunFault.TheVariants as run_fault
use Rattle.probe_run.specs.Happens.{Leaves as RunLeaves, LeftBy, RunCut, StepLeft as RunLeft, StepsAt, target_of}
use Rattle.probe_access.specs.BlockCuts.{MaybeFlagged, StepCut}
use Rattle.probe_access.specs.BlockCuts.StepCut.{setting, running, clearing}
use Rattle.probe_access.specs.Cuts.{IfCut, IsLeft, LeftAside, Leaves}
use Rattle.probe_access.specs.SingleSteps.{FlaggedAt}
use Rattle.probe_access.specs.StepRuns.{of_run}
use Rattle.probe_access.proofs.CutSites.{if_cut}

-- ---- a single step

pub leaves_map : (R S : Site → Site → Type 0) (old new : Option Far) → ((s t : Site) → R s t → S s t) → Leaves R old new → Leaves S old new
leaves_map R S None new f p = tt
leaves_map R S (Some c) new f p = record { far = p.far; is = p.is; left = f (site_of c) (site_of p.far) p.left }

pub setting_cut : (h : ℕ) (old new : Option Far) (e : AccessFault) → IfCut (Leaves (LeftAside (MaybeFlagged true) h) old new) e
    → IfCut (Leaves (StepCut h) old new) e
setting_cut h old new e f = if_cut (Leaves (LeftAside (MaybeFlagged true) h) old new) (Leaves (StepCut h) old new) e
    (leaves_map (LeftAside (MaybeFlagged true) h) (StepCut h) old new (λ s t p. setting p)) f

pub left_bus : (m n : DebugModule) (h : ℕ) → (m ≡ n) ⊎ (m ≡ record n { hartsel = h }) → m.bus ≡ n.bus
left_bus m n h (inl e) = ap (λ (k : DebugModule). k.bus) e
left_bus m n h (inr e) = ap (λ (k : DebugModule). k.bus) e

running_by : (h : ℕ) (old mid new : Option Far) → WhereTold (FlaggedAt true h) old mid → WhereTold (LeftBy (RunCut (ResumeReq h) sees_both h) h) mid new
    → Leaves (StepCut h) old new
running_by h None mid new sets left = tt
running_by h (Some f) mid new sets left =
    let l : LeftBy (RunCut (ResumeReq h) sees_both h) h sets.far.live.chip new =
    subst (λ (m : Option Far). WhereTold (LeftBy (RunCut (ResumeReq h) sees_both h) h) m new) sets.is left in
    record {
      far = l.far;
      is = l.is;
      left = running (record {
        begun = target_of (site_of sets.far);
        sets = sets.rewrote;
        runs = l.happened;
        bus =
            left_bus (site_of l.far).unit (site_of sets.far).unit h l.unit ∙ sets.bus;
      });
    }

pub running_cut : (h : ℕ) (old mid new : Option Far) (why : RunFault) → WhereTold (FlaggedAt true h) old mid → RunLeft h mid new why
    → IfCut (Leaves (StepCut h) old new) (of_run why)
running_cut h old mid new (run_fault.Dmi why) sets left = running_by h old mid new sets left
running_cut h old mid new (run_fault.NoHalt looks) sets left = tt
running_cut h old mid new (run_fault.NoAck looks) sets left = tt

clearing_by : (h : ℕ) (a b c d : Option Far) → WhereTold (FlaggedAt true h) a b → WhereTold (RunLeaves (StepsAt h) h) b c
    → Leaves (LeftAside (MaybeFlagged false) h) c d → Leaves (StepCut h) a d
clearing_by h None b c d sets runs left = tt
clearing_by h (Some f) b c d sets runs left =
    let went : RunLeaves (StepsAt h) h sets.far.live.chip c = subst (λ (m : Option Far). WhereTold (RunLeaves (StepsAt h) h) m c) sets.is runs in
    let l : IsLeft (LeftAside (MaybeFlagged false) h) went.far.live.chip d =
    subst (λ (m : Option Far). Leaves (LeftAside (MaybeFlagged false) h) m d) went.is left in
    record {
      far = l.far;
      is = l.is;
      left = clearing (record {
        begun = target_of (site_of sets.far);
        ran = site_of went.far;
        sets = sets.rewrote;
        runs = went.happened;
        clears = l.left;
        bus = l.left.bus ∙ ap (λ (m : DebugModule). m.bus) went.unit ∙ sets.bus;
      });
    }

pub clearing_cut : (h : ℕ) (a b c d : Option Far) (e : AccessFault) → WhereTold (FlaggedAt true h) a b → WhereTold (RunLeaves (StepsAt h) h) b c
    → IfCut (Leaves (LeftAside (MaybeFlagged false) h) c d) e → IfCut (Leaves (StepCut h) a d) e
clearing_cut h a b c d e sets runs f = if_cut (Leaves (LeftAside (MaybeFlagged false) h) c d) (Leaves (StepCut h) a d) e (clearing_by h a b c d sets runs) f
