-- The clauses of the call that reads mip, where the chip is told.
use Rattle.probe_run.specs.Told.{Serving}
use Rattle.std.proofs.Common.{◌≡◌, ◌∙◌, ℕ, List, [], Bool, true, false, Option, Some, None, Result, IfErr, refl, sym, ap, subst, arith}
use Rattle.rv_model.specs.Board.{Board, Hart}
use Rattle.rv_model.specs.Memory.{Memory}
use Rattle.rv_model.specs.Registers.{mip_number, mip_value}
use Rattle.debug_model.specs.declared.dmi.DmiFault.{DmiFault}
use Rattle.debug_model.specs.Dmi.{DmiComing}
use Rattle.debug_model.specs.Module.{Site}
use Rattle.debug_model.specs.Scan.{WhereTold}
use Rattle.debug_model.specs.SystemBus.{BusUnit}
use Rattle.debug_model.specs.Told.{Far, HartHalted, IsHalted, IsReady, Selects, SiteReady, site_of}
use Rattle.abstract_debugger.specs.Turns.{after_turns}
use Rattle.probe_access.specs.declared.fault.AccessFault.{AccessFault}
use Rattle.probe_access.specs.declared.fault.AccessFault.TheVariants as access_fault
use Rattle.probe_run.specs.Acts.{Tells, tells}
use Rattle.probe_access.specs.Accesses.{unchanged}
use Rattle.probe_access.specs.CommandRuns.{CommandFailed, error_shown}
use Rattle.probe_access.specs.Cuts.{AccessLeftOff, IfCut, Leaves, LoadLeaves, Unchanged}
use Rattle.probe_access.specs.Pending.{CutWhere, PendingReadAt, RegisterCutAt, is_mip}
use Rattle.probe_access.specs.RegisterAccess.{transfer_word}
use Rattle.probe_access.specs.RegisterRuns.{ReadApart, ReadApartFailed, ReadApartFailedAt}
use Rattle.probe_access.specs.RegisterRuns.ReadApartFailedAt.{in_command, in_words}
use Rattle.probe_access.proofs.AccessEnd.{AccessEnd, access_end, access_serving, one_access, ready_before}
use Rattle.probe_access.proofs.Along.{did_untold}
use Rattle.probe_access.proofs.Aside.{Frozen, accessed, passed}
use Rattle.probe_access.proofs.CutAccess.{HungInside, InsideAt}
use Rattle.probe_access.proofs.CutAccess.InsideAt.{not_yet, made}
use Rattle.probe_access.proofs.CutClauses.{access_left_by}
use Rattle.probe_access.proofs.CutHarts.{words_hung}
use Rattle.probe_access.proofs.CutHung.{Hung, hung_stood}
use Rattle.probe_access.proofs.CutSites.{CommandCutAt, CommandCutTold, command_cut_told, cut_always, if_cut}
use Rattle.probe_access.proofs.CutSites.CommandCutAt.{unsent, sent, ended}
use Rattle.probe_access.proofs.PendingTold.{
  PendingRan,
  PendingStage,
  PendingTold,
  Waiting,
  mip_going,
  mip_seen,
  mip_words,
  pending_command,
  pending_ends,
  pending_ran,
  pending_starts,
  pending_told,
  stood_waiting,
}
use Rattle.probe_access.proofs.PendingTold.PendingStage.{waits, was_read}
use Rattle.probe_access.proofs.ReadyTurns.{Passed, passed_turns}
use Rattle.probe_access.proofs.ReadyUnit.{Kept, unit_of}
use Rattle.probe_access.proofs.RegAnswers.{StoodTold}
use Rattle.probe_access.proofs.RegClauses.{RegErr, first_told, untold_err, untold_serving}
use Rattle.probe_access.proofs.RegisterTold.WordPuts.{no_more}

-- ---- it was read

pub record PendingOk (h value : ℕ) (old new : Option Far) : Type 0 where
  pub got : WhereTold (PendingReadAt h value) old new
  pub serving : Serving h new

apart_untold : (value : ℕ) (old new : Tells) → ReadApart mip_number value old new → old.far ≡ None → new.far ≡ None
apart_untold value old new r is = did_untold r.mid _ new r.words.did (did_untold old _ r.mid r.ran.ran.did is)

pub pending_ok : (h value : ℕ) (far : Option Far) (coming : Option DmiComing) (new : Tells) → IsReady far → Selects h far → IsHalted h far
    → ReadApart mip_number value (tells far coming) new → PendingOk h value far new.far
pending_ok h value None coming new ready selects halted r =
    let end : new.far ≡ None = apart_untold value (tells None coming) new r refl in
    record { got = end; serving = untold_serving h new.far end }
pending_ok h value (Some f) coming new ready selects halted r =
    let s : Site = site_of f in
    let x : Hart = halted.hart in
    let t : PendingTold value h s.unit.bus x s x new.far =
    pending_told value h s.unit.bus x s x (tells (Some f) coming) new (first_told h f ready halted selects) r in
    let memory : Memory = (passed t.before s).board.memory in
    let e : AccessEnd memory t.before s (site_of t.then.far) = access_end h x memory t.before s new.far t.then in
    let p : Passed s (passed t.before s) = passed_turns t.before s in
    record {
      got = record {
        far = t.then.far;
        is = t.then.is;
        hart = x;
        here = halted.is;
        before = p.harts;
        behind = e.behind;
        value_is = mip_seen x (after_turns p.harts s.board).memory ∙ ap (λ (b : Board). Some (mip_value x.core b.memory)) (sym p.board)
            ∙ ap Some (sym t.value_is);
        access = one_access memory unchanged t.before s (site_of t.then.far) e refl;
      };
      serving = access_serving h f ready halted memory t.before new.far (ready_before t.before s ready).memory t.then;
    }

-- ---- it is never refused, and shows no other error

three_not_zero : (n : ℕ) → n ≡ 3 → n ≡ 0 → ⊥
three_not_zero n a b = omega arith

told_err : (h old_count new_count : ℕ) (f : Far) (coming : Option DmiComing) (new : Tells) (e : AccessFault) → (ready : SiteReady (site_of f))
    → (halted : HartHalted h (site_of f).board) → (site_of f).unit.hartsel ≡ h
    → ReadApartFailed mip_number old_count new_count (tells (Some f) coming) new e → RegErr false h mip_number (Some f) new.far e
told_err h old_count new_count f coming new (access_fault.Dmi why) ready halted selects g = record { left = tt; serving = tt }
told_err h old_count new_count f coming new (access_fault.Memory address) ready halted selects g = absurd g
told_err h old_count new_count f coming new (access_fault.Register asked) ready halted selects g =
    let p : PendingRan g.ran.last h (site_of f).unit.bus halted.hart (site_of f) halted.hart new.far =
    pending_command g.ran.last h (site_of f).unit.bus halted.hart (site_of f) halted.hart (tells (Some f) coming) new (first_told h f ready halted selects)
    g.ran.ran in
    absurd (three_not_zero (error_shown g.ran.last) g.ran.error_is p.error_is)
told_err h old_count new_count f coming new access_fault.StillBusy ready halted selects g = record { left = tt; serving = tt }
told_err h old_count new_count f coming new (access_fault.Run why) ready halted selects g = absurd g
told_err h old_count new_count f coming new (access_fault.Odd shown) ready halted selects g =
    let p : PendingRan g.last h (site_of f).unit.bus halted.hart (site_of f) halted.hart new.far =
    pending_command g.last h (site_of f).unit.bus halted.hart (site_of f) halted.hart (tells (Some f) coming) new (first_told h f ready halted selects) g.ran in
    absurd (g.some p.error_is)

pub pending_err : (h : ℕ) (far : Option Far) (coming : Option DmiComing) (old_count new_count : ℕ) (new : Tells) (e : AccessFault) → IsReady far
    → Selects h far → IsHalted h far
    → ReadApartFailed mip_number old_count new_count (tells far coming) new e → RegErr false h mip_number far new.far e
pending_err h None coming old_count new_count new e ready selects halted f =
    untold_err h mip_number old_count new_count (tells None coming) new e refl f
pending_err h (Some c) coming old_count new_count new e ready selects halted f = told_err h old_count new_count c coming new e ready halted selects f

-- ---- where it broke off

abbrev Same : Hart → Hart → Type 0
Same y z = z ≡ y

stage_hung : (k : Kept) (h : ℕ) (bus : BusUnit) (y : Hart) (base t : Site) → PendingStage k h bus y base t → InsideAt (Same y) LoadLeaves h bus base t
stage_hung k h bus y base t (waits harts is) =
    not_yet (record { unit = mip_going k h bus; bus_is = refl; hart = y; one = refl; harts = harts; at = is })
stage_hung k h bus y base t (was_read before harts is) =
    made before (passed before base).board.memory refl
    (record { unit = unit_of (mip_words y (passed before base).board.memory k) h bus; bus_is = refl; hart = y; one = refl; harts = harts; at = is })

command_hung : (h : ℕ) (bus : BusUnit) (y : Hart) (base : Site) (w : Hart) (k : Kept) (t : Site) → Waiting h bus y base w
    → CommandCutAt (transfer_word false mip_number) h bus y base w k t → InsideAt (Same y) LoadLeaves h bus base t
command_hung h bus y base w k t r (unsent u) = not_yet (hung_stood (Same y) h bus y base w u.kept t refl u.stood)
command_hung h bus y base w k t r (sent e) =
    stage_hung k h bus y base t
    (subst (λ u. PendingStage k h bus y base u) (sym e.is)
    (pending_ran e.during k h bus y base w _ r (waits e.harts (pending_starts k h bus y base w e.harts r))))
command_hung h bus y base w k t r (ended last mid not_busy error c cut) =
    absurd (error (pending_ends last k h bus y base w mid r c not_busy).end.error_is)

command_left : (h : ℕ) (bus : BusUnit) (y : Hart) (base : Site) (w : Hart) (old_count new_count : ℕ) (old new : Tells) (e : AccessFault)
    → StoodTold h bus y base w old.far → CommandFailed [] (transfer_word false mip_number) old_count new_count old new e
    → IfCut (HungInside (Same y) LoadLeaves h bus base new.far) e
command_left h bus y base w old_count new_count old new e st f =
    if_cut (CommandCutTold (transfer_word false mip_number) h bus y base w st.kept new.far) (HungInside (Same y) LoadLeaves h bus base new.far) e
    (λ c. record {
      far = c.far;
      is = c.is;
      inside = command_hung h bus y base w st.kept (site_of c.far) (stood_waiting h bus y base w st.kept (site_of st.far) st.stood) c.cut;
    })
    (command_cut_told [] (transfer_word false mip_number) h bus y base w st.kept old_count new_count old new e st (no_more st.kept) f)

-- behind the access
words_left : (h : ℕ) (bus : BusUnit) (y : Hart) (base : Site) (before : List ℕ) (told : Option Far)
    → Hung (Same y) h bus (accessed (passed before base).board.memory (passed before base)) told → HungInside (Same y) LoadLeaves h bus base told
words_left h bus y base before told p =
    record { far = p.far; is = p.is; inside = made before (passed before base).board.memory refl p.hung }

link_left : (h : ℕ) (bus : BusUnit) (y : Hart) (base : Site) (w : Hart) (old_count new_count : ℕ) (old new : Tells) (why : DmiFault)
    → StoodTold h bus y base w old.far → ReadApartFailedAt mip_number old_count new_count old new (access_fault.Dmi why)
    → HungInside (Same y) LoadLeaves h bus base new.far
link_left h bus y base w old_count new_count old new why st (in_command _ f) =
    command_left h bus y base w old_count new_count old new (access_fault.Dmi why) st f
link_left h bus y base w old_count new_count old new why st (in_words mid ran _ f) =
    let p : PendingRan ran.last h bus y base w mid.far = pending_command ran.last h bus y base w old mid st ran.ran in
    let m : Memory = (passed p.before base).board.memory in
    let next : Site = accessed m (passed p.before base) in
    let then : StoodTold h bus y next w mid.far = record { far = p.far; is = p.is; kept = mip_words y m p.words; stood = p.stood } in
    words_left h bus y base p.before new.far (words_hung h bus y next w old_count new_count mid new.far why then f)

apart_left : (h : ℕ) (bus : BusUnit) (y : Hart) (base : Site) (w : Hart) (old_count new_count : ℕ) (old new : Tells) (e : AccessFault)
    → StoodTold h bus y base w old.far → ReadApartFailed mip_number old_count new_count old new e
    → IfCut (HungInside (Same y) LoadLeaves h bus base new.far) e
apart_left h bus y base w old_count new_count old new (access_fault.Dmi why) st f = link_left h bus y base w old_count new_count old new why st f
apart_left h bus y base w old_count new_count old new (access_fault.Memory at) st f = tt
apart_left h bus y base w old_count new_count old new (access_fault.Register asked) st f = tt
apart_left h bus y base w old_count new_count old new access_fault.StillBusy st f =
    command_left h bus y base w old_count new_count old new access_fault.StillBusy st f
apart_left h bus y base w old_count new_count old new (access_fault.Run why) st f = tt
apart_left h bus y base w old_count new_count old new (access_fault.Odd shown) st f = tt

pub pending_cut : (h : ℕ) (far : Option Far) (coming : Option DmiComing) (old_count new_count : ℕ) (new : Tells) (e : AccessFault) → IsReady far
    → Selects h far → IsHalted h far
    → ReadApartFailed mip_number old_count new_count (tells far coming) new e → IfCut (Leaves (AccessLeftOff Unchanged LoadLeaves h) far new.far) e
pending_cut h None coming old_count new_count new e ready selects halted f = cut_always (Leaves (AccessLeftOff Unchanged LoadLeaves h) None new.far) e tt
pending_cut h (Some c) coming old_count new_count new e ready selects halted f =
    let s : Site = site_of c in
    let x : Hart = halted.hart in
    if_cut (HungInside (Same x) LoadLeaves h s.unit.bus s new.far) (Leaves (AccessLeftOff Unchanged LoadLeaves h) (Some c) new.far) e
    (λ p. record { far = p.far; is = p.is; left = access_left_by Unchanged LoadLeaves h s halted (site_of p.far) p.inside })
    (apart_left h s.unit.bus x s x old_count new_count (tells (Some c) coming) new e (first_told h c ready halted selects) f)

-- ---- by the number

pub cut_by : (b : Bool) (number h : ℕ) (old new : Option Far) (r : Result ℕ AccessFault) → is_mip number ≡ b
    → IfErr r (IfCut (Leaves (CutWhere b h) old new)) → IfErr r (IfCut (Leaves (RegisterCutAt number h) old new))
cut_by b number h old new r is f = subst (λ x. IfErr r (IfCut (Leaves (CutWhere x h) old new))) (sym is) f
