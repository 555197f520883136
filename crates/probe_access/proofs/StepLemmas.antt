-- A hart whose step flag is written, by a word of its dcsr that was read earlier, is as it was but for the flag.
use Rattle.std.proofs.Common.{◌≡◌, ◌∙◌, ◌<◌, ℕ, List, Bool, true, Option, Some, None, slice_get, refl, sym, ap, subst, arith, inl, inr}
use Rattle.std.proofs.lemmas.Bool.{false≢true}
use Rattle.std.proofs.lemmas.Option.{same_Some}
use Rattle.rv_model.specs.declared.dcsr.Dcsr.{Dcsr}
use Rattle.rv_model.specs.Board.{Board, Hart}
use Rattle.rv_model.specs.Dcsr.{dcsr_of, dcsr_of_word, dcsr_value, with_dcsr}
use Rattle.rv_model.specs.DebugRegisters.{dcsr_number, debug_refuses, debug_value, debug_written}
use Rattle.rv_model.specs.Registers.{csr_read_only, csr_value, csr_written}
use Rattle.rv_model.proofs.DebugWordLemmas.{dcsr_read_back}
use Rattle.debug_model.specs.Module.{Site}
use Rattle.debug_model.specs.Scan.{WhereTold}
use Rattle.debug_model.specs.Told.{Far, HartHalted, IsHalted, IsReady, SiteReady, site_of}
use Rattle.abstract_debugger.specs.Stands.{Rewrote}
use Rattle.abstract_debugger.specs.Turns.{after_turns}
use Rattle.abstract_debugger.proofs.FrozenLemmas.{frozen_stays}
use Rattle.abstract_debugger.proofs.OverLemmas.{set-over}
use Rattle.probe_run.specs.Happens.{Leaves as RunLeaves, StepsAt, target_of}
use Rattle.probe_access.specs.declared.fault.AccessFault.{AccessFault}
use Rattle.probe_access.specs.declared.fault.AccessFault.TheVariants as access_fault
use Rattle.probe_access.specs.BlockCuts.{MaybeFlagged}
use Rattle.probe_access.specs.Cuts.{IfCut, LeftAside, Leaves, MaybeWritten}
use Rattle.probe_access.specs.Registers.{RegisterLeft, RegisterWrittenAt, TurnsPassedBut, reaches}
use Rattle.probe_access.specs.Scratches.{ScratchLeft}
use Rattle.probe_access.specs.SingleSteps.{FlaggedAt, KeepsEbreakm, ReadsDcsr, with_step}
use Rattle.probe_access.specs.StepRuns.{with_flag}
use Rattle.probe_access.proofs.Aside.{Frozen}
use Rattle.probe_access.proofs.CutSites.{if_cut}
use Rattle.probe_access.proofs.ReadyUnit.{Held, halted_held}
use Rattle.probe_access.proofs.StopClauses.{dcsr_held, small_shown}

-- ---- the flag in dcsr

abbrev pub flag_fields : Bool → Dcsr → Dcsr
flag_fields on d = record d { step = on; stepie = on }

cause_fits : (word : ℕ) → (dcsr_of_word word).cause < 8
unfolding dcsr_of_word
cause_fits word = omega arith

flag_read_back : (on : Bool) (word : ℕ) → dcsr_of_word (with_flag on word) ≡ flag_fields on (dcsr_of_word word)
flag_read_back on word = dcsr_read_back (flag_fields on (dcsr_of_word word)) (cause_fits word)

written_part : (x : Hart) (v : ℕ) → debug_written x dcsr_number v ≡ record { core = x.core; debug = with_dcsr (dcsr_of_word v) x.debug }
unfolding debug_written csr_written
written_part x v = refl

flag_written : (on : Bool) (x : Hart) (word : ℕ) → x.debug.ebreakm ≡ (dcsr_of_word word).ebreakm
    → debug_written x dcsr_number (with_flag on word) ≡ with_step on x
flag_written on x word same =
    written_part x (with_flag on word)
    ∙ ap (λ (d : Dcsr). let y : Hart = record { core = x.core; debug = with_dcsr d x.debug } in y) (flag_read_back on word)
    ∙ ap (λ b. let y : Hart = record { core = x.core; debug = record x.debug { ebreakm = b; stepie = on; step = on } } in y) (sym same)

-- ---- a hart that was changed while turns passed it by

pub passed_rewrote : (f : Hart → Hart) (h : ℕ) (x : Hart) (s t : Site) → slice_get s.board.harts h ≡ Some x → Frozen x → TurnsPassedBut h (f x) s t
    → Rewrote f h (target_of s) (target_of t)
passed_rewrote f h x s t here frozen p = record {
  harts = p.harts;
  board =
      p.board
      ∙ ap (λ (hs : List Hart). let b : Board = record { harts = hs; memory = (after_turns p.harts s.board).memory } in b)
      (set-over f (after_turns p.harts s.board).harts h x
      (frozen_stays h x s.board p.harts here (record { why = frozen.why; halted = frozen.halted; not_asked = frozen.not_asked })));
  journal = p.journal;
}

-- the halted hart of a chip that is ready
pub rests_there : (h : ℕ) (x : Hart) (s : Site) → SiteReady s → HartHalted h s.board → slice_get s.board.harts h ≡ Some x → Frozen x
rests_there h x s ready halted here =
    let held : Held h halted.hart s = halted_held h s ready halted in
    subst (λ (y : Hart). Frozen y) (same_Some halted.hart x (sym halted.is ∙ here)) held.frozen

-- ---- the flag of a told chip

pub flag_at : (on : Bool) (h word : ℕ) (old new : Option Far) → IsReady old → IsHalted h old → KeepsEbreakm h word old
    → WhereTold (RegisterWrittenAt h dcsr_number (with_flag on word)) old new → WhereTold (FlaggedAt on h) old new
flag_at on h word None new ready halted keeps p = p
flag_at on h word (Some f) new ready halted keeps p = record {
  far = p.far;
  is = p.is;
  rewrote = passed_rewrote (with_step on) h p.hart (site_of f) (site_of p.far) p.here (rests_there h p.hart (site_of f) ready halted p.here)
      (subst (λ (y : Hart). TurnsPassedBut h y (site_of f) (site_of p.far)) (flag_written on p.hart word (keeps p.hart p.here)) p.passed);
  bus = p.passed.bus;
}

-- ---- a fault in it

flag_as : (on : Bool) (word : ℕ) (x y : Hart) → x.debug.ebreakm ≡ (dcsr_of_word word).ebreakm → MaybeWritten dcsr_number (with_flag on word) x y
    → MaybeFlagged on x y
flag_as on word x y same (inl e) = inl e
flag_as on word x y same (inr e) = inr (e ∙ flag_written on x word same)

flag_left_off : (on : Bool) (h word : ℕ) (old new : Option Far) → KeepsEbreakm h word old
    → Leaves (LeftAside (MaybeWritten dcsr_number (with_flag on word)) h) old new → Leaves (LeftAside (MaybeFlagged on) h) old new
flag_left_off on h word None new keeps p = tt
flag_left_off on h word (Some f) new keeps p = record {
  far = p.far;
  is = p.is;
  left = record {
    hart = p.left.hart;
    here = p.left.here;
    left = p.left.left;
    one = flag_as on word p.left.hart p.left.left (keeps p.left.hart p.left.here) p.left.one;
    harts = p.left.harts;
    board = p.left.board;
    journal = p.left.journal;
    bus = p.left.bus;
  };
}

pub flag_cut : (on : Bool) (h word : ℕ) (old new : Option Far) (e : AccessFault) → KeepsEbreakm h word old
    → IfCut (Leaves (LeftAside (MaybeWritten dcsr_number (with_flag on word)) h) old new) e → IfCut (Leaves (LeftAside (MaybeFlagged on) h) old new) e
flag_cut on h word old new e keeps p =
    if_cut (Leaves (LeftAside (MaybeWritten dcsr_number (with_flag on word)) h) old new) (Leaves (LeftAside (MaybeFlagged on) h) old new) e
    (flag_left_off on h word old new keeps) p

-- a register that each hart has is not refused
not_refused : (write : Bool) (h number asked : ℕ) (old new : Option Far) → ((y : Hart) → reaches write y number ≡ true)
    → RegisterLeft write h number old new (access_fault.Register asked) → old ≡ None
not_refused write h number asked None new there p = refl
not_refused write h number asked (Some f) new there p = absurd (false≢true (sym p.denied ∙ there p.hart))

pub never_refused : (write : Bool) (h number : ℕ) (old new : Option Far) (e : AccessFault) → ((y : Hart) → reaches write y number ≡ true)
    → RegisterLeft write h number old new e → ScratchLeft old e
never_refused write h number old new (access_fault.Dmi why) there p = tt
never_refused write h number old new (access_fault.Memory at) there p = p
never_refused write h number old new (access_fault.Register asked) there p = not_refused write h number asked old new there p
never_refused write h number old new access_fault.StillBusy there p = tt
never_refused write h number old new (access_fault.Run why) there p = p
never_refused write h number old new (access_fault.Odd shown) there p = p

pub writes_dcsr : (y : Hart) → reaches true y dcsr_number ≡ true
unfolding debug_value csr_value debug_refuses csr_read_only
writes_dcsr y = refl

-- ---- the word that was read

-- what dcsr reads as keeps the hart's ebreakm
pub read_keeps : (h word : ℕ) (told : Option Far) → ReadsDcsr h word told → KeepsEbreakm h word told
read_keeps h word None reads = tt
read_keeps h word (Some f) reads = λ x here.
    let same : dcsr_value x.debug ≡ word = same_Some (dcsr_value x.debug) word (sym (dcsr_held x) ∙ reads x here) in
    sym (ap (λ (d : Dcsr). d.ebreakm) (ap dcsr_of_word (sym same) ∙ dcsr_read_back (dcsr_of x.debug) (small_shown x.debug.halted)))
