-- What a call that broke off leaves of a told chip, by the board and the journal.
use Rattle.std.proofs.Common.{◌≡◌, ◌∙◌, ◌<◌, ◌^◌, ◌++◌, ℕ, List, [], ◌∷◌, Option, Some, None, refl, sym, ap, subst, append_assoc, arith}
use Rattle.rv_model.specs.declared.size.Size.{Size}
use Rattle.rv_model.specs.Board.{Board, Hart}
use Rattle.rv_model.specs.DebugRegisters.{dcsr_number, debug_written}
use Rattle.rv_model.specs.Memory.{Memory}
use Rattle.debug_model.specs.declared.point.Point.{Point}
use Rattle.debug_model.specs.declared.point.Point.TheVariants.{Access}
use Rattle.debug_model.specs.Dmi.{DmiComing}
use Rattle.debug_model.specs.Module.{Site}
use Rattle.debug_model.specs.SystemBus.{BusUnit}
use Rattle.debug_model.specs.Told.{Far, HartHalted, IsHalted, IsReady, Selects, site_of}
use Rattle.abstract_debugger.specs.Turns.{after_turns, turns}
use Rattle.probe_access.specs.declared.fault.AccessFault.{AccessFault}
use Rattle.probe_run.specs.Acts.{Tells, tells}
use Rattle.probe_run.specs.Sites.{put_hart}
use Rattle.probe_access.specs.Accesses.{with_memory}
use Rattle.probe_access.specs.Cuts.{AccessLeftOff, IfCut, IsLeft, LeftAside, Leaves, LoadLeaves, MaybePutBack, MaybeWritten, Scratched, StoreLeaves, Unchanged}
use Rattle.probe_access.specs.Cuts.AccessLeftOff.{before_it, behind_it}
use Rattle.probe_access.specs.MemoryRuns.{AroundFailed, LoadRunFailed, PutBackFailed, SaveFailed, StoreFailedInside, StoredInside}
use Rattle.probe_access.specs.RegisterRuns.{ReadFailed, WriteFailed}
use Rattle.probe_access.specs.Stops.{StopApartFailed, StopFailed, dpc_number}
use Rattle.probe_access.specs.RegisterAccess.{x9_number}
use Rattle.probe_access.proofs.Plain.{Plain}
use Rattle.probe_access.proofs.Aside.{accessed, passed}
use Rattle.probe_access.proofs.CutAccess.{AnyScratch, HungInside, InsideAt, around_hung, load_hung, store_cut}
use Rattle.probe_access.proofs.CutAccess.InsideAt.{not_yet, made}
use Rattle.probe_access.proofs.CutStop.{stop_asking_hung}
use Rattle.probe_access.proofs.StopTold.{stop_early_told}
use Rattle.probe_access.proofs.CutHarts.{apart_hung, back_hung, read_hung, save_hung, write_hung}
use Rattle.probe_access.proofs.CutSites.{cut_always, if_cut}
use Rattle.probe_access.proofs.LoadClauses.{fits_of}
use Rattle.probe_access.proofs.ReadyTurns.{Passed, passed_turns}
use Rattle.probe_access.proofs.RegAnswers.{ReadTold, StoodTold, apart_told}
use Rattle.probe_access.proofs.RegClauses.{first_told}
use Rattle.probe_access.proofs.ScratchLemmas.{with_core_x, x8_written, x9_written}
use Rattle.probe_access.proofs.WordAccess.{StoreFaults}
use Rattle.probe_access.proofs.CutHung.{Hung, HungAt}

-- ---- hart h aside

pub left_aside : (Y : Hart → Hart → Type 0) (h : ℕ) (s : Site) (x : Hart) (t : Site) → (halted : HartHalted h s.board) → HungAt (Y halted.hart) h s.unit.bus s t
    → LeftAside Y h s t
left_aside Y h s x t halted p =
    let q : Passed s (passed p.harts s) = passed_turns p.harts s in
    record {
      hart = halted.hart;
      here = halted.is;
      left = p.hart;
      one = p.one;
      harts = q.harts;
      board = ap (λ (u : Site). u.board) p.at ∙ ap (put_hart h p.hart) q.board;
      journal = ap (λ (u : Site). u.journal) p.at ∙ q.journal;
      bus = ap (λ (u : Site). u.unit.bus) p.at ∙ p.bus_is;
    }

pub hung_left : (Y : Hart → Hart → Type 0) (h : ℕ) (f : Far) (halted : HartHalted h (site_of f).board) (told : Option Far)
    → Hung (Y halted.hart) h (site_of f).unit.bus (site_of f) told → IsLeft (LeftAside Y h) f.live.chip told
hung_left Y h f halted told p = record { far = p.far; is = p.is; left = left_aside Y h (site_of f) halted.hart (site_of p.far) halted p.hung }

pub cut_left : (Y : Hart → Hart → Type 0) (h : ℕ) (c : Far) (halted : HartHalted h (site_of c).board) (new : Option Far) (e : AccessFault)
    → IfCut (Hung (Y halted.hart) h (site_of c).unit.bus (site_of c) new) e
    → IfCut (Leaves (LeftAside Y h) (Some c) new) e
cut_left Y h c halted new e f = if_cut (Hung (Y halted.hart) h (site_of c).unit.bus (site_of c) new) (Leaves (LeftAside Y h) (Some c) new) e
    (hung_left Y h c halted new) f

-- ---- registers

pub reg_cut : (h number : ℕ) (far : Option Far) (coming : Option DmiComing) (old_count new_count : ℕ) (new : Tells) (e : AccessFault) → Plain number
    → IsReady far → Selects h far → IsHalted h far
    → ReadFailed number old_count new_count (tells far coming) new e → IfCut (Leaves (LeftAside Unchanged h) far new.far) e
reg_cut h number None coming old_count new_count new e small ready selects halted f = cut_always (Leaves (LeftAside Unchanged h) None new.far) e tt
reg_cut h number (Some c) coming old_count new_count new e small ready selects halted f =
    cut_left Unchanged h c halted new.far e
    (read_hung number h (site_of c).unit.bus halted.hart (site_of c) halted.hart old_count new_count (tells (Some c) coming) new e small
    (first_told h c ready halted selects) f)

pub set_reg_cut : (h number value : ℕ) (far : Option Far) (coming : Option DmiComing) (old_count new_count : ℕ) (new : Tells) (e : AccessFault)
    → number < 2 ^ 16 → IsReady far → Selects h far → IsHalted h far
    → WriteFailed number value old_count new_count (tells far coming) new e → IfCut (Leaves (LeftAside (MaybeWritten number value) h) far new.far) e
set_reg_cut h number value None coming old_count new_count new e small ready selects halted f =
    cut_always (Leaves (LeftAside (MaybeWritten number value) h) None new.far) e tt
set_reg_cut h number value (Some c) coming old_count new_count new e small ready selects halted f =
    cut_left (MaybeWritten number value) h c halted new.far e
    (write_hung number value h (site_of c).unit.bus halted.hart (site_of c) halted.hart old_count new_count (tells (Some c) coming) new e small
    (first_told h c ready halted selects) f)

-- ---- reads of several registers

pub save_cut : (h : ℕ) (far : Option Far) (coming : Option DmiComing) (old_count new_count : ℕ) (new : Tells) (e : AccessFault) → IsReady far → Selects h far
    → IsHalted h far → SaveFailed old_count new_count (tells far coming) new e
    → IfCut (Leaves (LeftAside Unchanged h) far new.far) e
save_cut h None coming old_count new_count new e ready selects halted f = cut_always (Leaves (LeftAside Unchanged h) None new.far) e tt
save_cut h (Some c) coming old_count new_count new e ready selects halted f =
    cut_left Unchanged h c halted new.far e (save_hung h (site_of c).unit.bus halted.hart (site_of c) halted.hart old_count new_count (tells (Some c) coming)
    new e (first_told h c ready halted selects) f)

pub restore_cut : (h x8 x9 : ℕ) (far : Option Far) (coming : Option DmiComing) (old_count new_count : ℕ) (new : Tells) (e : AccessFault) → IsReady far
    → Selects h far → IsHalted h far → PutBackFailed x8 x9 old_count new_count (tells far coming) new e
    → IfCut (Leaves (LeftAside (MaybePutBack x8 x9) h) far new.far) e
restore_cut h x8 x9 None coming old_count new_count new e ready selects halted f = cut_always (Leaves (LeftAside (MaybePutBack x8 x9) h) None new.far) e tt
restore_cut h x8 x9 (Some c) coming old_count new_count new e ready selects halted f =
    cut_left (MaybePutBack x8 x9) h c halted new.far e
    (back_hung x8 x9 h (site_of c).unit.bus halted.hart (site_of c) halted.hart old_count new_count (tells (Some c) coming) new e
    (first_told h c ready halted selects) f)

stop_hung : (h : ℕ) (bus : BusUnit) (y : Hart) (base : Site) (w : Hart) (old_count new_count : ℕ) (old new : Tells) (e : AccessFault)
    → StoodTold h bus y base w old.far → StopFailed old_count new_count old new e → IfCut (Hung (λ z. z ≡ y) h bus base new.far) e
stop_hung h bus y base w old_count new_count old new e st (StopFailed.asking f) = stop_asking_hung h bus y base w old_count new_count old new e st f
stop_hung h bus y base w old_count new_count old new e st (StopFailed.late mid early (StopApartFailed.at_dpc f)) =
    apart_hung dpc_number h bus y base w old_count new_count mid new e (record { small = omega arith; other = refl }) (stop_early_told h bus y base w old mid st early) f
stop_hung h bus y base w old_count new_count old new e st (StopFailed.late mid early (StopApartFailed.at_dcsr pc then r f)) =
    let a : ReadTold dpc_number pc h bus y base w then.far =
    apart_told dpc_number pc h bus y base w mid then (record { small = omega arith; other = refl }) (stop_early_told h bus y base w old mid st early) r in
    apart_hung dcsr_number h bus y base w old_count new_count then new e (record { small = omega arith; other = refl }) a.then f

pub stop_cut : (h : ℕ) (far : Option Far) (coming : Option DmiComing) (old_count new_count : ℕ) (new : Tells) (e : AccessFault) → IsReady far → Selects h far
    → IsHalted h far → StopFailed old_count new_count (tells far coming) new e
    → IfCut (Leaves (LeftAside Unchanged h) far new.far) e
stop_cut h None coming old_count new_count new e ready selects halted f = cut_always (Leaves (LeftAside Unchanged h) None new.far) e tt
stop_cut h (Some c) coming old_count new_count new e ready selects halted f =
    cut_left Unchanged h c halted new.far e (stop_hung h (site_of c).unit.bus halted.hart (site_of c) halted.hart old_count new_count (tells (Some c) coming)
    new e (first_told h c ready halted selects) f)

-- ---- accesses to memory

pub scratch_as : (x y : Hart) → AnyScratch x y → Scratched x y
scratch_as x y a = record {
  x8 = a.p;
  x9 = a.q;
  is =
      a.is ∙ sym (ap (λ (z : Hart). debug_written z x9_number a.q) (x8_written x a.p) ∙ x9_written (with_core_x x 8 a.p) a.q);
}

pub access_left_by : (Y : Hart → Hart → Type 0) (N : Memory → Memory → Type 0) (h : ℕ) (s : Site) (halted : HartHalted h s.board) (t : Site)
    → InsideAt (Y halted.hart) N h s.unit.bus s t → AccessLeftOff Y N h s t
access_left_by Y N h s halted t (not_yet p) = before_it (left_aside Y h s halted.hart t halted p)
access_left_by Y N h s halted t (made before n left p) =
    let b : Site = accessed n (passed before s) in
    let first : Passed s (passed before s) = passed_turns before s in
    let last : Passed b (passed p.harts b) = passed_turns p.harts b in
    behind_it (record {
      hart = halted.hart;
      here = halted.is;
      left = p.hart;
      one = p.one;
      before = first.harts;
      behind = last.harts;
      memory = n;
      made = subst (λ (c : Board). N c.memory n) first.board left;
      board = ap (λ (u : Site). u.board) p.at ∙ ap (put_hart h p.hart) (last.board ∙ ap (λ (c : Board). after_turns last.harts (with_memory n c)) first.board);
      journal =
          ap (λ (u : Site). u.journal) p.at ∙ last.journal ∙ ap (λ (j : List Point). (j ++ Access ∷ []) ++ turns last.harts) first.journal
          ∙ append_assoc (s.journal ++ turns first.harts) (Access ∷ []) (turns last.harts);
      bus = ap (λ (u : Site). u.unit.bus) p.at ∙ p.bus_is;
    })

scratch_inside : (x : Hart) (N : Memory → Memory → Type 0) (h : ℕ) (bus : BusUnit) (s t : Site) → InsideAt (AnyScratch x) N h bus s t
    → InsideAt (Scratched x) N h bus s t
scratch_inside x N h bus s t (not_yet p) =
    not_yet (record { unit = p.unit; bus_is = p.bus_is; hart = p.hart; one = scratch_as x p.hart p.one; harts = p.harts; at = p.at })
scratch_inside x N h bus s t (made before n left p) =
    made before n left (record { unit = p.unit; bus_is = p.bus_is; hart = p.hart; one = scratch_as x p.hart p.one; harts = p.harts; at = p.at })

pub access_left : (N : Memory → Memory → Type 0) (h : ℕ) (s : Site) (halted : HartHalted h s.board) (t : Site)
    → InsideAt (AnyScratch halted.hart) N h s.unit.bus s t → AccessLeftOff Scratched N h s t
access_left N h s halted t p = access_left_by Scratched N h s halted t (scratch_inside halted.hart N h s.unit.bus s t p)

access_is_left : (N : Memory → Memory → Type 0) (h : ℕ) (c : Far) (halted : HartHalted h (site_of c).board) (new : Option Far) (e : AccessFault)
    → IfCut (HungInside (AnyScratch halted.hart) N h (site_of c).unit.bus (site_of c) new) e
    → IfCut (Leaves (AccessLeftOff Scratched N h) (Some c) new) e
access_is_left N h c halted new e f =
    if_cut (HungInside (AnyScratch halted.hart) N h (site_of c).unit.bus (site_of c) new) (Leaves (AccessLeftOff Scratched N h) (Some c) new) e
    (λ p. record { far = p.far; is = p.is; left = access_left N h (site_of c) halted (site_of p.far) p.inside }) f

pub load_left_off : (size : Size) (address h : ℕ) (far : Option Far) (coming : Option DmiComing) (old_count new_count : ℕ) (new : Tells) (e : AccessFault)
    → address < 2 ^ 64 → IsReady far → Selects h far → IsHalted h far
    → LoadRunFailed size address old_count new_count (tells far coming) new e → IfCut (Leaves (AccessLeftOff Scratched LoadLeaves h) far new.far) e
load_left_off size address h None coming old_count new_count new e small ready selects halted f =
    cut_always (Leaves (AccessLeftOff Scratched LoadLeaves h) None new.far) e tt
load_left_off size address h (Some c) coming old_count new_count new e small ready selects halted f =
    let all = (fits_of h (site_of c) ready halted).all in
    access_is_left LoadLeaves h c halted new.far e
    (load_hung size address h (site_of c).unit.bus halted.hart (site_of c) old_count new_count (tells (Some c) coming) new e all small
    (first_told h c ready halted selects) f)

pub store_left_off : (size : Size) (address value h : ℕ) (far : Option Far) (coming : Option DmiComing) (old_count new_count : ℕ) (new : Tells)
    (e : AccessFault) → address < 2 ^ 64 → IsReady far → Selects h far → IsHalted h far
    → AroundFailed (StoredInside size address value) (StoreFailedInside size address value) old_count new_count (tells far coming) new e
    → IfCut (Leaves (AccessLeftOff Scratched (StoreLeaves size address value) h) far new.far) e
store_left_off size address value h None coming old_count new_count new e small ready selects halted f =
    cut_always (Leaves (AccessLeftOff Scratched (StoreLeaves size address value) h) None new.far) e tt
store_left_off size address value h (Some c) coming old_count new_count new e small ready selects halted f =
    let all = (fits_of h (site_of c) ready halted).all in
    access_is_left (StoreLeaves size address value) h c halted new.far e
    (around_hung (StoredInside size address value) (StoreFailedInside size address value) (StoreFaults size address) (StoreLeaves size address value) address h
    (site_of c).unit.bus halted.hart (site_of c) old_count new_count (tells (Some c) coming) new e all
    (store_cut size address value h (site_of c).unit.bus halted.hart (site_of c) all small) (first_told h c ready halted selects) f)
