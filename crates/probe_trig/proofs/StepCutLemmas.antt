-- Where stepping over and letting go broke off, stage by stage.
use Rattle.std.proofs.Common.{
  ◌≡◌,
  ◌∙◌,
  ℕ,
  zero,
  suc,
  Bool,
  true,
  false,
  List,
  [],
  ◌∷◌,
  set,
  Option,
  Some,
  None,
  option_map,
  slice_get,
  refl,
  sym,
  ap,
  subst,
  append-nil,
}
use Rattle.std.proofs.lemmas.Option.{none-some, same_Some}
use Rattle.rv_model.specs.Board.{Board, Hart}
use Rattle.debug_model.specs.Dmi.{DmiComing}
use Rattle.debug_model.specs.declared.point.Point.TheVariants.{ResumeReq}
use Rattle.debug_model.specs.Module.{Site}
use Rattle.debug_model.specs.Scan.{WhereTold}
use Rattle.debug_model.specs.Told.{Far, IsHalted, IsReady, site_of}
use Rattle.abstract_debugger.specs.Debugger.{sees_ack}
use Rattle.abstract_debugger.specs.Laws.{IsFrozen, IsFrozenAt}
use Rattle.abstract_debugger.specs.Slots.{over}
use Rattle.abstract_debugger.specs.Stands.{Rewrote, Target, WentOn}
use Rattle.abstract_debugger.specs.Turns.{after_turns}
use Rattle.abstract_debugger.proofs.FrozenLemmas.{stays_same}
use Rattle.abstract_debugger.proofs.OverLemmas.{slice_get-over_same}
use Rattle.abstract_debugger.proofs.StandsLemmas.{rewrote_then}
use Rattle.probe_access.specs.declared.fault.AccessFault.{AccessFault}
use Rattle.probe_access.specs.BlockCuts.{MaybeFlagged, StepCut}
use Rattle.probe_access.specs.BlockCuts.StepCut.{setting, running, clearing}
use Rattle.probe_access.specs.Cuts.{IfCut, LeftAside, Leaves}
use Rattle.probe_access.specs.SingleSteps.{StepsOnce, SteppedAt, with_step}
use Rattle.probe_access.specs.StepRuns.{of_run}
use Rattle.probe_access.proofs.CutSites.{if_cut}
use Rattle.probe_run.specs.declared.fault.RunFault.{RunFault}
use Rattle.probe_run.specs.declared.fault.RunFault.TheVariants as run_fault
use Rattle.probe_run.specs.Acts.{Tells, tells}
use Rattle.probe_run.specs.Happens.{LeftBy, ResumeLeft, RunCut, target_of}
use Rattle.probe_trig.specs.declared.change.Change.TheVariants.{Hold}
use Rattle.probe_trig.specs.Going.{IsThroughAt}
use Rattle.probe_trig.specs.Runs.{ChangesAny}
use Rattle.probe_trig.specs.Slots.{AtHarts}
use Rattle.probe_trig.specs.StepCuts.{BackCut, GoCut, LeavesAt, OverAlone, OverAside, OverCut}
use Rattle.probe_trig.specs.StepCuts.GoCut.{in_hold, in_over, in_resume}
use Rattle.probe_trig.specs.StepCuts.StepCutAt.{before_step, in_step, behind_step}
use Rattle.probe_trig.specs.Stepping.{EndsAny}
use Rattle.probe_trig.specs.Transfers.{FailedIn}
use Rattle.probe_trig.proofs.Calls.{changes_all}
use Rattle.probe_trig.proofs.Ends.{over_back, rewrote_behind}
use Rattle.probe_trig.proofs.OverRegisters.{mild_changes, mild_cut, mild_ends, over_changed, over_flag, over_flagged, over_then}
use Rattle.probe_trig.proofs.Overs.{HeldAt, begun_by, steps_at}
use Rattle.probe_trig.proofs.Told.{becomes, board_with, frozen_halted}
use Rattle.probe_access.proofs.BlockCutClauses.{left_bus}

-- ---- one behind the other, where a chip is told

cut_map : (R S : Target → Target → Type 0) (x y : Option Far) → ((a b : Target) → R a b → S a b) → LeavesAt R x y → LeavesAt S x y
cut_map R S None y f r = tt
cut_map R S (Some x) y f r = record { far = r.far; is = r.is; happened = f (target_of (site_of x)) (target_of (site_of r.far)) r.happened; bus = r.bus }

cut_then : (P R S : Target → Target → Type 0) (x y z : Option Far) → ((a b c : Target) → P a b → R b c → S a c) → WhereTold (AtHarts P) x y → LeavesAt R y z
    → LeavesAt S x z
cut_then P R S None y z f p r = tt
cut_then P R S (Some x) y z f p r =
    let t : AtHarts R p.far.live.chip z = subst (λ o. LeavesAt R o z) p.is r in
    record {
      far = t.far;
      is = t.is;
      happened = f (target_of (site_of x)) (target_of (site_of p.far)) (target_of (site_of t.far)) p.happened t.happened;
      bus = t.bus ∙ p.bus;
    }

-- ---- what is left of it

put_over : (h : ℕ) (y : Hart) (hs : List Hart) → set hs h y ≡ over h (becomes y) hs
put_over h y [] = refl
put_over zero y (x ∷ hs) = refl
put_over (suc h) y (x ∷ hs) = ap (λ zs. x ∷ zs) (put_over h y hs)

stood : (t : Target) → WentOn t t
stood t = record { harts = []; board = refl; journal = sym (append-nil t.journal) }

aside_wrote : (Y : Hart → Hart → Type 0) (h : ℕ) (s t : Site) (l : LeftAside Y h s t) → Rewrote (becomes l.left) h (target_of s) (target_of t)
aside_wrote Y h s t l =
    record {
      harts = l.harts;
      board = l.board ∙ ap (board_with (after_turns l.harts s.board)) (put_over h l.left (after_turns l.harts s.board).harts);
      journal = l.journal;
    }

aside_left : (Y : Hart → Hart → Type 0) (h : ℕ) (s t : Site) → ((x y : Hart) → Y x y → OverAlone x y) → LeftAside Y h s t
    → OverAside h (target_of s) (target_of t)
aside_left Y h s t f l = record {
  mid = target_of s;
  went = stood (target_of s);
  hart = l.hart;
  here = l.here;
  left = l.left;
  one = f l.hart l.left l.one;
  wrote = aside_wrote Y h s t l;
}

pub leaves_aside : (h : ℕ) (x y : Option Far) → Leaves (LeftAside OverAlone h) x y → LeavesAt (OverAside h) x y
leaves_aside h None y p = tt
leaves_aside h (Some f) y p =
    record { far = p.far; is = p.is; happened = aside_left OverAlone h (site_of f) (site_of p.far) (λ x z d. d) p.left; bus = p.left.bus }

-- the hart that f made this of
record CameOf (f : Hart → Hart) (y : Hart) (o : Option Hart) : Type 0 where
  hart : Hart
  is : o ≡ Some hart
  made : f hart ≡ y

came_of : (f : Hart → Hart) (y : Hart) (o : Option Hart) → option_map f o ≡ Some y → CameOf f y o
came_of f y None e = absurd (none-some y e)
came_of f y (Some x) e = record { hart = x; is = refl; made = same_Some (f x) y e }

-- a hart that is frozen there
record FrozenLeft (h : ℕ) (old new : Target) : Type 0 where
  hart : Hart
  here : slice_get old.board.harts h ≡ Some hart
  frozen : IsFrozen hart.debug
  left : Hart
  one : OverAlone hart left
  wrote : Rewrote (becomes left) h old new

leaves_frozen : (h : ℕ) (x y : Option Far) → IsReady x → IsHalted h x → Leaves (LeftAside OverAlone h) x y → LeavesAt (FrozenLeft h) x y
leaves_frozen h None y ready halted p = tt
leaves_frozen h (Some f) y ready halted p = record {
  far = p.far;
  is = p.is;
  happened = record {
    hart = p.left.hart;
    here = p.left.here;
    frozen = subst (λ (z : Hart). IsFrozen z.debug) (same_Some halted.hart p.left.hart (sym halted.is ∙ p.left.here)) (frozen_halted h f ready halted);
    left = p.left.left;
    one = p.left.one;
    wrote = aside_wrote OverAlone h (site_of f) (site_of p.far) p.left;
  };
  bus = p.left.bus;
}

frozen_flag : (on : Bool) (x z : Hart) → with_step on x ≡ z → IsFrozen z.debug → IsFrozen x.debug
frozen_flag on x z e f =
    let k : IsFrozen (with_step on x).debug = subst (λ (u : Hart). IsFrozen u.debug) (sym e) f in
    record { why = k.why; halted = k.halted; not_asked = k.not_asked }

-- behind the flag that was cleared
clear_left : (h : ℕ) (ran mid new : Target) → Rewrote (with_step false) h ran mid → FrozenLeft h mid new → OverAside h ran new
clear_left h ran mid new clears l =
    let b : Board = after_turns clears.harts ran.board in
    let t : Target = record { board = b; journal = mid.journal } in
    let there : slice_get (over h (with_step false) b.harts) h ≡ Some l.hart = ap (λ (c : Board). slice_get c.harts h) (sym clears.board) ∙ l.here in
    let came : CameOf (with_step false) l.hart (slice_get b.harts h) =
    came_of (with_step false) l.hart (slice_get b.harts h) (sym (slice_get-over_same (with_step false) h b.harts) ∙ there) in
    let first : Rewrote (with_step false) h t mid = record { harts = []; board = clears.board; journal = sym (append-nil mid.journal) } in
    let frozen : IsFrozenAt h b = λ x here. frozen_flag false x l.hart (over_back (with_step false) h x l.hart b.harts there here) l.frozen in
    record {
      mid = t;
      went = record { harts = clears.harts; board = refl; journal = clears.journal };
      hart = came.hart;
      here = came.is;
      left = l.left;
      one = over_then came.hart l.hart l.left (subst (OverAlone came.hart) came.made (over_flag false came.hart)) l.one;
      wrote = rewrote_then (with_step false) (becomes l.left) h t mid new frozen
          (λ x f. record { why = f.why; halted = f.halted; not_asked = f.not_asked }) first l.wrote;
    }

-- behind the slots that were held
held_left : (some : Bool) (h : ℕ) (old mid new : Target) → HeldAt some h old mid → OverAside h mid new → OverAside h old new
held_left some h old mid new held d =
    let w : Rewrote (changes_all Hold) h old mid = held.changed.wrote in
    let now : slice_get mid.board.harts h ≡ option_map (changes_all Hold) (slice_get old.board.harts h) =
    ap (λ (b : Board). slice_get b.harts h) w.board ∙ slice_get-over_same (changes_all Hold) h (after_turns w.harts old.board).harts
    ∙ ap (option_map (changes_all Hold)) (stays_same h old.board w.harts held.frozen) in
    let still : IsFrozenAt h mid.board = λ x here. frozen_held x (came_of (changes_all Hold) x (slice_get old.board.harts h) (sym now ∙ here)) in
    let there : option_map (changes_all Hold) (slice_get old.board.harts h) ≡ Some d.hart =
    sym now ∙ sym (stays_same h mid.board d.went.harts still) ∙ ap (λ (b : Board). slice_get b.harts h) (sym d.went.board) ∙ d.here in
    let came : CameOf (changes_all Hold) d.hart (slice_get old.board.harts h) = came_of (changes_all Hold) d.hart (slice_get old.board.harts h) there in
    record {
      mid = old;
      went = stood old;
      hart = came.hart;
      here = came.is;
      left = d.left;
      one = over_then came.hart d.hart d.left (subst (OverAlone came.hart) came.made (over_changed Hold came.hart)) d.one;
      wrote = rewrote_then (changes_all Hold) (becomes d.left) h old mid new held.frozen keeps w
          (rewrote_behind (becomes d.left) h mid d.mid new d.went d.wrote);
    }
  where
    keeps : (x : Hart) → IsFrozen x.debug → IsFrozen (changes_all Hold x).debug
    keeps x f = record { why = f.why; halted = f.halted; not_asked = f.not_asked }

    frozen_held : (y : Hart) → CameOf (changes_all Hold) y (slice_get old.board.harts h) → IsFrozen y.debug
    frozen_held y c = subst (λ (z : Hart). IsFrozen z.debug) c.made (keeps c.hart (held.frozen c.hart c.is))

-- ---- a step, and its end

step_at : (h : ℕ) (s t : Site) → StepCut h s t → BackCut h (target_of s) (target_of t)
step_at h s t (setting l) = before_step (aside_left (MaybeFlagged true) h s t (over_flagged true) l)
step_at h s t (running r) = in_step (record { begun = r.begun; set_so = r.sets; runs = r.runs })
step_at h s t (clearing c) =
    behind_step (record {
      begun = c.begun;
      set_so = c.sets;
      ran = target_of c.ran;
      steps = c.runs;
      left = aside_left (MaybeFlagged false) h c.ran t (over_flagged false) c.clears;
    })

step_bus : (h : ℕ) (s t : Site) → StepCut h s t → t.unit.bus ≡ s.unit.bus
step_bus h s t (setting l) = l.bus
step_bus h s t (running r) = r.bus
step_bus h s t (clearing c) = c.bus

leaves_back : (h : ℕ) (x y : Option Far) → Leaves (StepCut h) x y → LeavesAt (BackCut h) x y
leaves_back h None y p = tt
leaves_back h (Some f) y p = record {
  far = p.far;
  is = p.is;
  happened = step_at h (site_of f) (site_of p.far) p.left;
  bus = step_bus h (site_of f) (site_of p.far) p.left;
}

pub back_in_step : (h : ℕ) (x y : Option Far) (e : AccessFault) → IfCut (Leaves (StepCut h) x y) e → IfCut (LeavesAt (BackCut h) x y) e
back_in_step h x y e = if_cut (Leaves (StepCut h) x y) (LeavesAt (BackCut h) x y) e (leaves_back h x y)

pub back_in_end : (h old_count new_count : ℕ) (x y : Option Far) (coming : Option DmiComing) (new : Tells) (e : AccessFault) → WhereTold (SteppedAt h) x y
    → IsReady y → IsHalted h y
    → FailedIn EndsAny h old_count new_count (tells y coming) new e → IfCut (LeavesAt (BackCut h) x new.far) e
back_in_end h old_count new_count x y coming new e steps ready halted f =
    if_cut (Leaves (LeftAside OverAlone h) y new.far) (LeavesAt (BackCut h) x new.far) e
    (λ p. cut_then (StepsOnce h) (FrozenLeft h) (BackCut h) x y new.far
    (λ a b c s l. behind_step (record { begun = s.begun; set_so = s.sets; ran = s.ran; steps = s.runs; left = clear_left h s.ran b c s.clears l }))
    (steps_at h x y steps) (leaves_frozen h y new.far ready halted p))
    (mild_cut EndsAny h old_count new_count y coming new e mild_ends ready halted f)

-- ---- stepping over

held_cut : (some : Bool) (h : ℕ) (old mid new : Target) → HeldAt some h old mid → BackCut h mid new → OverCut h old new
held_cut some h old mid new held (before_step d) = before_step (held_left some h old mid new held d)
held_cut some h old mid new held (in_step r) = in_step (record { begun = r.begun; set_so = begun_by some h old mid r.begun held r.set_so; runs = r.runs })
held_cut some h old mid new held (behind_step r) =
    behind_step (record { begun = r.begun; set_so = begun_by some h old mid r.begun held r.set_so; ran = r.ran; steps = r.steps; left = r.left })

pub over_in_hold : (h old_count new_count : ℕ) (far : Option Far) (coming : Option DmiComing) (new : Tells) (e : AccessFault) → IsReady far → IsHalted h far
    → FailedIn (ChangesAny Hold) h old_count new_count (tells far coming) new e → IfCut (LeavesAt (OverCut h) far new.far) e
over_in_hold h old_count new_count far coming new e ready halted f =
    if_cut (Leaves (LeftAside OverAlone h) far new.far) (LeavesAt (OverCut h) far new.far) e
    (λ p. cut_map (OverAside h) (OverCut h) far new.far (λ a b d. before_step d) (leaves_aside h far new.far p))
    (mild_cut (ChangesAny Hold) h old_count new_count far coming new e (mild_changes Hold) ready halted f)

pub over_in_back : (some : Bool) (h : ℕ) (x y z : Option Far) (e : AccessFault) → WhereTold (AtHarts (HeldAt some h)) x y → IfCut (LeavesAt (BackCut h) y z) e
    → IfCut (LeavesAt (OverCut h) x z) e
over_in_back some h x y z e held = if_cut (LeavesAt (BackCut h) y z) (LeavesAt (OverCut h) x z) e
    (cut_then (HeldAt some h) (BackCut h) (OverCut h) x y z (held_cut some h) held)

-- ---- letting go

pub go_in_hold : (h old_count new_count : ℕ) (far : Option Far) (coming : Option DmiComing) (new : Tells) (e : AccessFault) → IsReady far → IsHalted h far
    → FailedIn (ChangesAny Hold) h old_count new_count (tells far coming) new e → IfCut (LeavesAt (GoCut h) far new.far) e
go_in_hold h old_count new_count far coming new e ready halted f =
    if_cut (Leaves (LeftAside OverAlone h) far new.far) (LeavesAt (GoCut h) far new.far) e
    (λ p. cut_map (OverAside h) (GoCut h) far new.far (λ a b d. in_hold d) (leaves_aside h far new.far p))
    (mild_cut (ChangesAny Hold) h old_count new_count far coming new e (mild_changes Hold) ready halted f)

pub go_in_back : (h : ℕ) (x y z : Option Far) (e : AccessFault) → WhereTold (AtHarts (HeldAt true h)) x y → IfCut (LeavesAt (BackCut h) y z) e
    → IfCut (LeavesAt (GoCut h) x z) e
go_in_back h x y z e held =
    if_cut (LeavesAt (BackCut h) y z) (LeavesAt (GoCut h) x z) e
    (cut_then (HeldAt true h) (BackCut h) (GoCut h) x y z (λ a b c k r. in_over (sym k.changed.some_is) (held_cut true h a b c k r)) held)

resume_by : (h : ℕ) (x y z : Option Far) → WhereTold (AtHarts (IsThroughAt h)) x y → WhereTold (LeftBy (RunCut (ResumeReq h) sees_ack h) h) y z
    → LeavesAt (GoCut h) x z
resume_by h None y z t left = tt
resume_by h (Some x) y z t left =
    let l : LeftBy (RunCut (ResumeReq h) sees_ack h) h t.far.live.chip z = subst (λ o. WhereTold (LeftBy (RunCut (ResumeReq h) sees_ack h) h) o z) t.is left in
    record {
      far = l.far;
      is = l.is;
      happened = in_resume (record { mid = target_of (site_of t.far); through = t.happened; runs = l.happened });
      bus = left_bus (site_of l.far).unit (site_of t.far).unit h l.unit ∙ t.bus;
    }

pub go_in_resume : (h : ℕ) (x y z : Option Far) (why : RunFault) → WhereTold (AtHarts (IsThroughAt h)) x y → ResumeLeft h y z why
    → IfCut (LeavesAt (GoCut h) x z) (of_run why)
go_in_resume h x y z (run_fault.Dmi why) t left = resume_by h x y z t left
go_in_resume h x y z (run_fault.NoHalt looks) t left = tt
go_in_resume h x y z (run_fault.NoAck looks) t left = tt
