-- A reading of dcsr in front of a step: turns alone pass meanwhile, and the word that was read is what the hart's dcsr reads still.
use Rattle.std.proofs.Common.{◌≡◌, ◌∙◌, ◌++◌, ℕ, List, Bool, false, Option, Some, None, refl, sym, ap, subst, append_assoc, inl, slice_get}
use Rattle.std.proofs.lemmas.Option.{none-some, same_Some}
use Rattle.rv_model.specs.Board.{Board, Hart}
use Rattle.rv_model.specs.DebugRegisters.{dcsr_number, debug_value}
use Rattle.debug_model.specs.declared.point.Point.{Point}
use Rattle.debug_model.specs.Module.{Site}
use Rattle.debug_model.specs.Scan.{WhereTold}
use Rattle.debug_model.specs.Told.{Far, HartHalted, IsHalted, IsReady, SiteReady, site_of}
use Rattle.abstract_debugger.specs.Debugger.{Seen as Sight}
use Rattle.abstract_debugger.specs.Plan.{hart_over}
use Rattle.abstract_debugger.specs.Stands.{Rewrote, Target}
use Rattle.abstract_debugger.specs.Turns.{after_turns, turns}
use Rattle.abstract_debugger.proofs.FrozenLemmas.{frozen_stays}
use Rattle.abstract_debugger.proofs.StandsLemmas.{board_on, turns-append}
use Rattle.probe_run.specs.declared.fault.RunFault.TheVariants as run_fault
use Rattle.probe_run.specs.Happens.{target_of}
use Rattle.probe_run.specs.Sites.{put_hart}
use Rattle.probe_access.specs.declared.fault.AccessFault.{AccessFault}
use Rattle.probe_access.specs.declared.fault.AccessFault.TheVariants as access_fault
use Rattle.probe_access.specs.BlockCuts.{MaybeFlagged, StepCut}
use Rattle.probe_access.specs.BlockCuts.StepCut.{setting, running, clearing}
use Rattle.probe_access.specs.Cuts.{IfCut, IsLeft, LeftAside, Leaves, Unchanged}
use Rattle.probe_access.specs.Registers.{IsHartAt, RegisterReadAt, TurnsPassed}
use Rattle.probe_access.specs.Scratches.{ScratchLeft}
use Rattle.probe_access.specs.SingleSteps.{FlaggedAt, ReadsDcsr, StepLeft, StepMissedAt, SteppedAt}
use Rattle.probe_access.proofs.Aside.{Frozen}
use Rattle.probe_access.proofs.BlockCutClauses.{leaves_map}
use Rattle.probe_access.proofs.CutSites.{if_cut}
use Rattle.probe_access.proofs.StepLemmas.{rests_there}

abbrev pub WasRead : ℕ → ℕ → Option Far → Option Far → Type 0
WasRead h word old new = WhereTold (RegisterReadAt h dcsr_number word) old new

none_read : (h word : ℕ) (a b : Option Far) → WasRead h word a b → b ≡ None → a ≡ None
none_read h word None b p none = refl
none_read h word (Some f) b p none = absurd (none-some p.far (sym none ∙ p.is))

-- ---- the halted hart

still_there : (h : ℕ) (x : Hart) (s t : Site) → SiteReady s → HartHalted h s.board → IsHartAt h s.board x → TurnsPassed s t → IsHartAt h t.board x
still_there h x s t ready halted here p =
    let f : Frozen x = rests_there h x s ready halted here in
    ap (λ (b : Board). slice_get b.harts h) p.board
    ∙ frozen_stays h x s.board p.harts here (record { why = f.why; halted = f.halted; not_asked = f.not_asked })

pub still_reads : (h word : ℕ) (old new : Option Far) → IsReady old → IsHalted h old → WasRead h word old new → ReadsDcsr h word new
still_reads h word None new ready halted p = subst (ReadsDcsr h word) (sym p) tt
still_reads h word (Some f) new ready halted p =
    subst (ReadsDcsr h word) (sym p.is) (λ x here. subst (λ (y : Hart). debug_value y dcsr_number ≡ Some word)
    (same_Some p.hart x (sym (still_there h p.hart (site_of f) (site_of p.far) ready halted p.here p.passed) ∙ here)) p.value_is)

-- ---- turns in front

journal_behind : (first mid new : List Point) (harts more : List ℕ) → mid ≡ first ++ turns harts → new ≡ mid ++ turns more
    → new ≡ first ++ turns (harts ++ more)
journal_behind first mid new harts more before is =
    is ∙ ap (λ (j : List Point). j ++ turns more) before ∙ append_assoc first (turns harts) (turns more)
    ∙ ap (λ (j : List Point). first ++ j) (sym (turns-append harts more))

wrote_behind : (f : Hart → Hart) (h : ℕ) (s t : Site) (new : Target) → TurnsPassed s t → Rewrote f h (target_of t) new → Rewrote f h (target_of s) new
wrote_behind f h s t new p r = record {
  harts = p.harts ++ r.harts;
  board = r.board ∙ ap (hart_over f h) (board_on s.board t.board (after_turns r.harts t.board) p.harts r.harts p.board refl);
  journal = journal_behind s.journal t.journal new.journal p.harts r.harts p.journal r.journal;
}

aside_behind : (Y : Hart → Hart → Type 0) (h : ℕ) (s t u : Site) → SiteReady s → (halted : HartHalted h s.board) → TurnsPassed s t → LeftAside Y h t u
    → LeftAside Y h s u
aside_behind Y h s t u ready halted p l = record {
  hart = l.hart;
  here = subst (IsHartAt h s.board) (same_Some halted.hart l.hart (sym (still_there h halted.hart s t ready halted halted.is p) ∙ l.here)) halted.is;
  left = l.left;
  one = l.one;
  harts = p.harts ++ l.harts;
  board = l.board ∙ ap (put_hart h l.left) (board_on s.board t.board (after_turns l.harts t.board) p.harts l.harts p.board refl);
  journal = journal_behind s.journal t.journal u.journal p.harts l.harts p.journal l.journal;
  bus = l.bus ∙ p.bus;
}

-- ---- a write of the flag behind the reading

pub read_flagged : (on : Bool) (h word : ℕ) (a b c : Option Far) → WasRead h word a b → WhereTold (FlaggedAt on h) b c → WhereTold (FlaggedAt on h) a c
read_flagged on h word None b c reads sets = subst (λ (m : Option Far). WhereTold (FlaggedAt on h) m c) reads sets
read_flagged on h word (Some f) b c reads sets =
    let end : FlaggedAt on h reads.far.live.chip c = subst (λ (m : Option Far). WhereTold (FlaggedAt on h) m c) reads.is sets in
    record {
      far = end.far;
      is = end.is;
      rewrote = wrote_behind _ h (site_of f) (site_of reads.far) (target_of (site_of end.far)) reads.passed end.rewrote;
      bus = end.bus ∙ reads.passed.bus;
    }

maybe_cleared : (h : ℕ) (s t : Site) → LeftAside Unchanged h s t → LeftAside (MaybeFlagged false) h s t
maybe_cleared h s t l = record {
  hart = l.hart;
  here = l.here;
  left = l.left;
  one = inl l.one;
  harts = l.harts;
  board = l.board;
  journal = l.journal;
  bus = l.bus;
}

pub clearing_read_cut : (h : ℕ) (old new : Option Far) (e : AccessFault) → IfCut (Leaves (LeftAside Unchanged h) old new) e
    → IfCut (Leaves (LeftAside (MaybeFlagged false) h) old new) e
clearing_read_cut h old new e l =
    if_cut (Leaves (LeftAside Unchanged h) old new) (Leaves (LeftAside (MaybeFlagged false) h) old new) e
    (leaves_map (LeftAside Unchanged h) (LeftAside (MaybeFlagged false) h) old new (maybe_cleared h)) l

flag_behind : (h word : ℕ) (a b c : Option Far) → IsReady a → IsHalted h a → WasRead h word a b → Leaves (LeftAside (MaybeFlagged false) h) b c
    → Leaves (LeftAside (MaybeFlagged false) h) a c
flag_behind h word None b c ready halted reads l = tt
flag_behind h word (Some f) b c ready halted reads l =
    let end : IsLeft (LeftAside (MaybeFlagged false) h) reads.far.live.chip c =
    subst (λ (m : Option Far). Leaves (LeftAside (MaybeFlagged false) h) m c) reads.is l in
    record { far = end.far; is = end.is; left = aside_behind _ h (site_of f) (site_of reads.far) (site_of end.far) ready halted reads.passed end.left }

pub clearing_write_cut : (h word : ℕ) (a b c : Option Far) (e : AccessFault) → IsReady a → IsHalted h a → WasRead h word a b
    → IfCut (Leaves (LeftAside (MaybeFlagged false) h) b c) e → IfCut (Leaves (LeftAside (MaybeFlagged false) h) a c) e
clearing_write_cut h word a b c e ready halted reads l =
    if_cut (Leaves (LeftAside (MaybeFlagged false) h) b c) (Leaves (LeftAside (MaybeFlagged false) h) a c) e (flag_behind h word a b c ready halted reads) l

pub scratch_read : (h word : ℕ) (a b : Option Far) (e : AccessFault) → WasRead h word a b → ScratchLeft b e → ScratchLeft a e
scratch_read h word a b (access_fault.Dmi why) reads l = tt
scratch_read h word a b (access_fault.Memory at) reads l = l
scratch_read h word a b (access_fault.Register number) reads l = none_read h word a b reads l
scratch_read h word a b access_fault.StillBusy reads l = tt
scratch_read h word a b (access_fault.Run why) reads l = l
scratch_read h word a b (access_fault.Odd shown) reads l = none_read h word a b reads l

-- ---- a step behind the reading

pub read_step : (h word : ℕ) (a b c : Option Far) → WasRead h word a b → WhereTold (SteppedAt h) b c → WhereTold (SteppedAt h) a c
read_step h word None b c reads steps = subst (λ (m : Option Far). WhereTold (SteppedAt h) m c) reads steps
read_step h word (Some f) b c reads steps =
    let end : SteppedAt h reads.far.live.chip c = subst (λ (m : Option Far). WhereTold (SteppedAt h) m c) reads.is steps in
    record {
      far = end.far;
      is = end.is;
      happened = record {
        begun = end.happened.begun;
        ran = end.happened.ran;
        sets = wrote_behind _ h (site_of f) (site_of reads.far) end.happened.begun reads.passed end.happened.sets;
        runs = end.happened.runs;
        clears = end.happened.clears;
      };
      bus = end.bus ∙ reads.passed.bus;
    }

missed_behind : (h word : ℕ) (last : Sight) (a b c : Option Far) → WasRead h word a b → WhereTold (StepMissedAt h last) b c
    → WhereTold (StepMissedAt h last) a c
missed_behind h word last None b c reads missed = subst (λ (m : Option Far). WhereTold (StepMissedAt h last) m c) reads missed
missed_behind h word last (Some f) b c reads missed =
    let end : StepMissedAt h last reads.far.live.chip c = subst (λ (m : Option Far). WhereTold (StepMissedAt h last) m c) reads.is missed in
    record {
      far = end.far;
      is = end.is;
      happened = record {
        begun = end.happened.begun;
        sets = wrote_behind _ h (site_of f) (site_of reads.far) end.happened.begun reads.passed end.happened.sets;
        missed = end.happened.missed;
      };
      bus = end.bus ∙ reads.passed.bus;
    }

pub read_left : (h word : ℕ) (a b c : Option Far) (e : AccessFault) → WasRead h word a b → StepLeft h b c e → StepLeft h a c e
read_left h word a b c (access_fault.Dmi why) reads l = tt
read_left h word a b c (access_fault.Memory at) reads l = l
read_left h word a b c (access_fault.Register number) reads l = none_read h word a b reads l
read_left h word a b c access_fault.StillBusy reads l = tt
read_left h word a b c (access_fault.Run (run_fault.Dmi why)) reads l = l
read_left h word a b c (access_fault.Run (run_fault.NoHalt looks)) reads l = (l.0, (l.1.0, l.1.1, missed_behind h word l.1.0 a b c reads l.1.2))
read_left h word a b c (access_fault.Run (run_fault.NoAck looks)) reads l = (l.0, (l.1.0, l.1.1, missed_behind h word l.1.0 a b c reads l.1.2))
read_left h word a b c (access_fault.Odd shown) reads l = none_read h word a b reads l

-- ---- where it broke off

cut_behind : (h : ℕ) (s t u : Site) → SiteReady s → HartHalted h s.board → TurnsPassed s t → StepCut h t u → StepCut h s u
cut_behind h s t u ready halted p (setting l) = setting (aside_behind _ h s t u ready halted p l)
cut_behind h s t u ready halted p (running r) =
    running (record { begun = r.begun; sets = wrote_behind _ h s t r.begun p r.sets; runs = r.runs; bus = r.bus ∙ p.bus })
cut_behind h s t u ready halted p (clearing r) =
    clearing (record { begun = r.begun; ran = r.ran; sets = wrote_behind _ h s t r.begun p r.sets; runs = r.runs; clears = r.clears; bus = r.bus ∙ p.bus })

leaves_behind : (h word : ℕ) (a b c : Option Far) → IsReady a → IsHalted h a → WasRead h word a b → Leaves (StepCut h) b c → Leaves (StepCut h) a c
leaves_behind h word None b c ready halted reads l = tt
leaves_behind h word (Some f) b c ready halted reads l =
    let end : IsLeft (StepCut h) reads.far.live.chip c = subst (λ (m : Option Far). Leaves (StepCut h) m c) reads.is l in
    record { far = end.far; is = end.is; left = cut_behind h (site_of f) (site_of reads.far) (site_of end.far) ready halted reads.passed end.left }

pub read_step_cut : (h word : ℕ) (a b c : Option Far) (e : AccessFault) → IsReady a → IsHalted h a → WasRead h word a b → IfCut (Leaves (StepCut h) b c) e
    → IfCut (Leaves (StepCut h) a c) e
read_step_cut h word a b c e ready halted reads l =
    if_cut (Leaves (StepCut h) b c) (Leaves (StepCut h) a c) e (leaves_behind h word a b c ready halted reads) l

nothing_set : (h : ℕ) (s t : Site) → LeftAside Unchanged h s t → StepCut h s t
nothing_set h s t l = setting (record {
  hart = l.hart;
  here = l.here;
  left = l.left;
  one = inl l.one;
  harts = l.harts;
  board = l.board;
  journal = l.journal;
  bus = l.bus;
})

pub reading_cut : (h : ℕ) (old new : Option Far) (e : AccessFault) → IfCut (Leaves (LeftAside Unchanged h) old new) e → IfCut (Leaves (StepCut h) old new) e
reading_cut h old new e l =
    if_cut (Leaves (LeftAside Unchanged h) old new) (Leaves (StepCut h) old new) e (leaves_map (LeftAside Unchanged h) (StepCut h) old new (nothing_set h)) l
