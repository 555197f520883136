-- Where an access to memory by the program buffer broke off: before it was made, or behind it.
use Rattle.std.proofs.Common.{◌≡◌, ◌∙◌, ◌<◌, ◌^◌, ℕ, List, [], length, set, true, Option, Some, None, refl, sym, ap, subst, arith, inl, inr}
use Rattle.std.proofs.Math.Seq.{set-set}
use Rattle.rv_model.specs.declared.size.Size.{Size}
use Rattle.rv_model.specs.Board.{Hart}
use Rattle.rv_model.specs.Core.{x_of}
use Rattle.rv_model.specs.DebugRegisters.{debug_written}
use Rattle.rv_model.specs.Memory.{Memory, after_store}
use Rattle.rv_model.proofs.MemoryLemmas.{after_store_refused}
use Rattle.debug_model.specs.Addresses.{abstractcs_address, command_address}
use Rattle.debug_model.specs.declared.cmderr.Cmderr.TheVariants.{Fine, Exception}
use Rattle.debug_model.specs.declared.dmi_op.DmiOp.TheVariants.{Write}
use Rattle.debug_model.specs.Dmi.{SiteCut}
use Rattle.debug_model.specs.Module.{Site, after_write}
use Rattle.debug_model.specs.SystemBus.{BusUnit}
use Rattle.debug_model.specs.Told.{Far, site_of}
use Rattle.probe_access.specs.declared.fault.AccessFault.{AccessFault}
use Rattle.probe_run.specs.Acts.{Tells}
use Rattle.probe_access.specs.CommandRuns.{error_shown}
use Rattle.probe_access.specs.Cuts.{IfCut, LoadLeaves, StoreLeaves}
use Rattle.probe_access.specs.MemoryRuns.{AroundFailed, LoadRunFailed, PerformFailed, StoreFailedInside, StoredInside, program_set, TakeFailed}
use Rattle.probe_access.specs.MemoryRuns.AroundFailed.{behind, in_restore, in_restore_behind, in_save, inside}
use Rattle.probe_access.specs.MemoryRuns.LoadRunFailed.{
  in_restore_behind as load_restoring_behind,
  in_save as load_saving,
  performing as load_performing,
  refused as load_refused,
  taking as load_taking,
}
use Rattle.probe_access.specs.MemoryRuns.PerformFailed.{in_run, faulted, oddly}
use Rattle.probe_access.specs.MemoryRuns.StoreFailedInside.{performing as store_performing, writing as store_writing}
use Rattle.probe_access.specs.RegisterAccess.{load_word, program_command, program_word, store_word, x8_number, x9_number}
use Rattle.probe_access.proofs.AccessSteps.{Running, Stage, WordDid, all_of, program_of, rest_of, running, stage_ran}
use Rattle.probe_access.proofs.AccessSteps.Stage.{at_transfer, at_start, in_middle, at_end, at_fault}
use Rattle.probe_access.proofs.AccessTold.{Faulted, SavedTold, program_puts, saved_told, set_up, set_up_hart}
use Rattle.probe_access.proofs.AroundTold.{FaultInside, OnlyMemory, recovered}
use Rattle.probe_access.proofs.Aside.{Frozen, accessed, aside, passed}
use Rattle.probe_access.proofs.CutHarts.{PutBack, Written, back_hung, clear_cut, read_hung, save_hung, write_hung}
use Rattle.probe_access.proofs.CutSites.{CommandCutAt, CommandCutTold, command_cut_told, if_cut, recovers_uncut}
use Rattle.probe_access.proofs.CutSites.CommandCutAt.{unsent, sent, ended}
use Rattle.probe_access.proofs.LoadClauses.{LoadWent, load_decides, load_faulted, load_went, x8_read}
use Rattle.probe_access.proofs.PerformTold.{PerformEnd, held_behind, program_ends, program_runs, program_starts, programmed}
use Rattle.probe_access.proofs.PerformTold.PerformEnd.{ran_well, ran_badly}
use Rattle.probe_access.proofs.ReadyUnit.{Held, Kept, unit_of, unit_with}
use Rattle.probe_access.proofs.RegAnswers.{StoodTold, WrittenTold, written_told}
use Rattle.probe_access.proofs.ScratchLemmas.{after_load, after_store_scratched, scratched, set_itself, with_core_x, x8_scratched, x8_written, x9_written}
use Rattle.probe_access.proofs.StoreClauses.{StoreWent, aimed, aimed_at, aimed_value, store_badly, store_went, valued}
use Rattle.probe_access.proofs.TransferLemmas.{command_starts, hart_behind, written_frozen}
use Rattle.probe_access.proofs.Turns.{set-swap, stays_passed}
use Rattle.probe_access.proofs.WordAccess.{LoadFaults, Loads, StoreFaults, Stores, store_did}
use Rattle.probe_access.proofs.WordLemmas.{program_back}
use Rattle.probe_run.specs.Opening.{clears_cmderr}
use Rattle.probe_access.proofs.CutHung.{Hung, HungAt, hung_map, hung_stood}
use Rattle.probe_access.proofs.CutSwap.{swap_hung}
use Rattle.probe_access.proofs.SwapTold.{unswapped_told}

-- ---- before or behind the access

pub data InsideAt (Y : Hart → Type 0) (N : Memory → Memory → Type 0) (h : ℕ) (bus : BusUnit) (base t : Site) : Type 0 where
  not_yet : HungAt Y h bus base t → InsideAt Y N h bus base t
  made : (before : List ℕ) (n : Memory) → N (passed before base).board.memory n → HungAt Y h bus (accessed n (passed before base)) t → InsideAt Y N h bus base t

pub record HungInside (Y : Hart → Type 0) (N : Memory → Memory → Type 0) (h : ℕ) (bus : BusUnit) (base : Site) (told : Option Far) : Type 0 where
  pub far : Far
  pub is : told ≡ Some far
  pub inside : InsideAt Y N h bus base (site_of far)

outside : (X Y : Hart → Type 0) (N : Memory → Memory → Type 0) (h : ℕ) (bus : BusUnit) (base : Site) (told : Option Far) → ((z : Hart) → X z → Y z)
    → Hung X h bus base told → HungInside Y N h bus base told
outside X Y N h bus base told f p = let q : Hung Y h bus base told = hung_map X Y h bus base told f p in
    record { far = q.far; is = q.is; inside = not_yet q.hung }

behind_access : (X Y : Hart → Type 0) (N : Memory → Memory → Type 0) (h : ℕ) (bus : BusUnit) (base : Site) (before : List ℕ) (n : Memory) (told : Option Far)
    → N (passed before base).board.memory n → ((z : Hart) → X z → Y z)
    → Hung X h bus (accessed n (passed before base)) told → HungInside Y N h bus base told
behind_access X Y N h bus base before n told left f p =
    let q : Hung Y h bus (accessed n (passed before base)) told = hung_map X Y h bus (accessed n (passed before base)) told f p in
    record { far = q.far; is = q.is; inside = made before n left q.hung }

-- ---- the program

-- what a word leaves of the hart and of memory
pub record Fits (P : Memory → Hart → Memory → Type 0) (Q : Memory → Type 0) (Y : Hart → Type 0) (N : Memory → Memory → Type 0) (y : Hart) : Type 0 where
  pub first : Y y
  pub hart : (m : Memory) (z : Hart) (n : Memory) → P m z n → Y z
  pub memory : (m : Memory) (z : Hart) (n : Memory) → P m z n → N m n
  pub refused : (m : Memory) → Q m → N m m

stage_hung : (P : Memory → Hart → Memory → Type 0) (Q : Memory → Type 0) (Y : Hart → Type 0) (N : Memory → Memory → Type 0) (k : Kept) (h : ℕ) (bus : BusUnit)
    (x y : Hart) (base t : Site) → Y x → Fits P Q Y N y → Stage P Q k h bus x y base t → InsideAt Y N h bus base t
stage_hung P Q Y N k h bus x y base t one f (at_transfer harts is) =
    not_yet (record { unit = running k (all_of k) h bus; bus_is = refl; hart = x; one = one; harts = harts; at = is })
stage_hung P Q Y N k h bus x y base t one f (at_start harts is) =
    not_yet (record { unit = running k (program_of k) h bus; bus_is = refl; hart = y; one = f.first; harts = harts; at = is })
stage_hung P Q Y N k h bus x y base t one f (in_middle before harts z n p fz is) =
    made before n (f.memory (passed before base).board.memory z n p)
    (record { unit = running k (rest_of k) h bus; bus_is = refl; hart = z; one = f.hart (passed before base).board.memory z n p; harts = harts; at = is })
stage_hung P Q Y N k h bus x y base t one f (at_end before harts z n p fz is) =
    made before n (f.memory (passed before base).board.memory z n p)
    (record { unit = unit_of k h bus; bus_is = refl; hart = z; one = f.hart (passed before base).board.memory z n p; harts = harts; at = is })
stage_hung P Q Y N k h bus x y base t one f (at_fault before harts q is) =
    made before (passed before base).board.memory (f.refused (passed before base).board.memory q)
    (record { unit = unit_with k Exception [] h bus; bus_is = refl; hart = y; one = f.first; harts = harts; at = is })

program_end_cut : (P : Memory → Hart → Memory → Type 0) (Q : Memory → Type 0) (Y : Hart → Type 0) (N : Memory → Memory → Type 0) (last : ℕ) (k : Kept) (h : ℕ)
    (bus : BusUnit) (x y : Hart) (base : Site) (w : Hart) (mid t : Site) → Fits P Q Y N y
    → Running P Q k h bus x y base w → (error_shown last ≡ 0 → ⊥) → PerformEnd P Q last k h bus y base mid
    → SiteCut (Write abstractcs_address clears_cmderr) mid t → InsideAt Y N h bus base t
program_end_cut P Q Y N last k h bus x y base w mid t f r error (ran_well before z n p fz end) cut = absurd (error end.error_is)
program_end_cut P Q Y N last k h bus x y base w mid t f r error (ran_badly before q end) cut =
    let m : Memory = (passed before base).board.memory in
    made before m (f.refused m q) (clear_cut Y last h bus y (accessed m (passed before base)) w k mid t end.error_is (held_behind h w base before m r.held)
    r.frozen r.idle f.first end.done_at cut)

program_cut : (P : Memory → Hart → Memory → Type 0) (Q : Memory → Type 0) (Y : Hart → Type 0) (N : Memory → Memory → Type 0) (h : ℕ) (bus : BusUnit) (x : Hart)
    (base : Site) (w : Hart) (k : Kept) (t : Site) → Y x
    → Fits P Q Y N (hart_behind true x8_number k x) → Held h w base → Frozen x → bus.pending ≡ None → k.progbuf1 ≡ 0x00100073
    → ((m : Memory) → WordDid P Q k.progbuf0 (hart_behind true x8_number k x) m) → CommandCutAt program_word h bus x base w k t → InsideAt Y N h bus base t
program_cut P Q Y N h bus x base w k t one f held fx idle ebreak decides (unsent u) = not_yet (hung_stood Y h bus x base w u.kept t one u.stood)
program_cut P Q Y N h bus x base w k t one f held fx idle ebreak decides (sent e) =
    let y : Hart = hart_behind true x8_number k x in
    let r : Running P Q (programmed k) h bus x y base w = program_runs P Q h bus x base w k held fx idle ebreak decides in
    let start : Site = after_write command_address program_word (aside (unit_of k h bus) h x (passed e.harts base)) in
    let starts : start ≡ aside (running (programmed k) (all_of (programmed k)) h bus) h x (passed e.harts base) =
    command_starts program_word (program_command x8_number) Fine k h bus x (passed e.harts base) w (stays_passed h e.harts base w held.here held.frozen)
    program_back (program_starts x fx) in
    stage_hung P Q Y N (programmed k) h bus x y base t one f
    (subst (λ u. Stage P Q (programmed k) h bus x y base u) (sym e.is)
    (stage_ran e.during P Q (programmed k) h bus x y base w start r (at_transfer e.harts starts)))
program_cut P Q Y N h bus x base w k t one f held fx idle ebreak decides (ended last mid not_busy error c cut) =
    let y : Hart = hart_behind true x8_number k x in
    let r : Running P Q (programmed k) h bus x y base w = program_runs P Q h bus x base w k held fx idle ebreak decides in
    program_end_cut P Q Y N last (programmed k) h bus x y base w mid t f r error (program_ends P Q last k h bus x y base w mid r c not_busy) cut

-- ---- the whole instruction

perform_hung : (P : Memory → Hart → Memory → Type 0) (Q : Memory → Type 0) (Y : Hart → Type 0) (N : Memory → Memory → Type 0) (word address h : ℕ)
    (bus : BusUnit) (y : Hart) (base : Site) (w : Hart) (old_count new_count : ℕ) (old new : Tells) (e : AccessFault)
    → Y y → Fits P Q Y N (debug_written y x8_number address) → StoodTold h bus y base w old.far
    → (Frozen (debug_written y x8_number address) → (m : Memory) → WordDid P Q word (debug_written y x8_number address) m)
    → PerformFailed word address old_count new_count old new e → IfCut (HungInside Y N h bus base new.far) e
perform_hung P Q Y N word address h bus y base w old_count new_count old new _ one f st decides (in_run e g) =
    let k : Kept = set_up word address st.kept in
    let is : hart_behind true x8_number k y ≡ debug_written y x8_number address = set_up_hart word address y st.kept in
    if_cut (CommandCutTold program_word h bus y base w k new.far) (HungInside Y N h bus base new.far) e
    (λ c. record {
      far = c.far;
      is = c.is;
      inside = program_cut P Q Y N h bus y base w k (site_of c.far) one (subst (λ (z : Hart). Fits P Q Y N z) (sym is) f) st.stood.held st.stood.frozen
          st.stood.idle refl
          (subst (λ (z : Hart). (m : Memory) → WordDid P Q word z m) (sym is) (decides (written_frozen y x8_number address st.stood.frozen))) c.cut;
    })
    (command_cut_told (program_set word address) program_word h bus y base w k old_count new_count old new e st (program_puts word address h bus y st.kept) g)
perform_hung P Q Y N word address h bus y base w old_count new_count old new _ one f st decides (faulted p) = tt
perform_hung P Q Y N word address h bus y base w old_count new_count old new _ one f st decides (oddly shown r) = tt

-- ---- a hart with any x8 and x9

pub record AnyScratch (x z : Hart) : Type 0 where
  pub p : ℕ
  pub q : ℕ
  pub is : z ≡ scratched p q x

abbrev hart_with : Hart → List ℕ → Hart
hart_with x xs = record {
  core = record {
    id = x.core.id;
    x = xs;
    pc = x.core.pc;
    mstatus = x.core.mstatus;
    mie = x.core.mie;
    mtvec = x.core.mtvec;
    mscratch = x.core.mscratch;
    mepc = x.core.mepc;
    mcause = x.core.mcause;
    mtval = x.core.mtval;
  };
  debug = x.debug;
}

eight_itself : (x : Hart) (q : ℕ) → length x.core.x ≡ 32 → scratched (x_of x.core 8) q x ≡ with_core_x x 9 q
eight_itself x q all = ap (λ (xs : List ℕ). hart_with x (set xs 9 q)) (set_itself x.core.x 8 (omega arith))

pub itself : (x : Hart) → length x.core.x ≡ 32 → AnyScratch x x
itself x all = record {
  p = x_of x.core 8;
  q = x_of x.core 9;
  is =
      sym (eight_itself x (x_of x.core 9) all ∙ ap (hart_with x) (set_itself x.core.x 9 (omega arith)));
}

pub any_same : (x y z : Hart) → z ≡ y → AnyScratch x y → AnyScratch x z
any_same x y z e a = record { p = a.p; q = a.q; is = e ∙ a.is }

any_x8 : (x : Hart) (p q v : ℕ) → AnyScratch x (debug_written (scratched p q x) x8_number v)
any_x8 x p q v = record {
  p = v;
  q = q;
  is =
      x8_written (scratched p q x) v
      ∙ ap (hart_with x) (set-swap (set x.core.x 8 p) 9 8 q v (λ e. omega arith) ∙ ap (λ (xs : List ℕ). set xs 9 q) (set-set x.core.x 8 p v));
}

any_x9 : (x : Hart) (p q v : ℕ) → AnyScratch x (debug_written (scratched p q x) x9_number v)
any_x9 x p q v = record { p = p; q = v; is = x9_written (scratched p q x) v ∙ ap (hart_with x) (set-set (set x.core.x 8 p) 9 q v) }

pub any_written8 : (x y : Hart) (v : ℕ) → AnyScratch x y → AnyScratch x (debug_written y x8_number v)
any_written8 x y v a = any_same x (debug_written (scratched a.p a.q x) x8_number v) (debug_written y x8_number v)
    (ap (λ (z : Hart). debug_written z x8_number v) a.is) (any_x8 x a.p a.q v)

any_written9 : (x y : Hart) (v : ℕ) → AnyScratch x y → AnyScratch x (debug_written y x9_number v)
any_written9 x y v a = any_same x (debug_written (scratched a.p a.q x) x9_number v) (debug_written y x9_number v)
    (ap (λ (z : Hart). debug_written z x9_number v) a.is) (any_x9 x a.p a.q v)

pub any_back : (x y : Hart) (x8 x9 : ℕ) (z : Hart) → AnyScratch x y → PutBack x8 x9 y z → AnyScratch x z
any_back x y x8 x9 z a (inl (inl e)) = any_same x y z e a
any_back x y x8 x9 z a (inl (inr e)) = any_same x (debug_written y x8_number x8) z e (any_written8 x y x8 a)
any_back x y x8 x9 z a (inr e) = any_same x (debug_written (debug_written y x8_number x8) x9_number x9) z e
    (any_written9 x (debug_written y x8_number x8) x9 (any_written8 x y x8 a))

-- ---- the whole access

-- what is Ok inside: the access was made
pub record MadeInside (N : Memory → Memory → Type 0) (h : ℕ) (bus : BusUnit) (x : Hart) (base : Site) (told : Option Far) : Type 0 where
  pub before : List ℕ
  pub memory : Memory
  pub left : N (passed before base).board.memory memory
  pub hart : Hart
  pub any : AnyScratch x hart
  pub then : StoodTold h bus hart (accessed memory (passed before base)) x told

pub record CutInside (R : Tells → Tells → Type 0) (F : ℕ → ℕ → Tells → Tells → AccessFault → Type 0) (Q : Memory → Type 0) (N : Memory → Memory → Type 0)
    (address h : ℕ) (bus : BusUnit) (x : Hart) (base : Site) : Type 0 where
  pub well : (first last : Tells) → StoodTold h bus x base x first.far → R first last → MadeInside N h bus x base last.far
  pub badly : (old_count new_count : ℕ) (first last : Tells) (e : AccessFault) → StoodTold h bus x base x first.far → F old_count new_count first last e
      → OnlyMemory address (FaultInside Q h bus x base last.far) e
  pub cut : (old_count new_count : ℕ) (first last : Tells) (e : AccessFault) → StoodTold h bus x base x first.far → F old_count new_count first last e
      → IfCut (HungInside (AnyScratch x) N h bus base last.far) e
  pub refused : (m : Memory) → Q m → N m m

pub around_hung : (R : Tells → Tells → Type 0) (F : ℕ → ℕ → Tells → Tells → AccessFault → Type 0) (Q : Memory → Type 0) (N : Memory → Memory → Type 0)
    (address h : ℕ) (bus : BusUnit) (x : Hart) (base : Site) (old_count new_count : ℕ) (old new : Tells) (e : AccessFault)
    → length x.core.x ≡ 32 → CutInside R F Q N address h bus x base → StoodTold h bus x base x old.far → AroundFailed R F old_count new_count old new e
    → IfCut (HungInside (AnyScratch x) N h bus base new.far) e
around_hung R F Q N address h bus x base old_count new_count old new e all i st (in_save f) =
    if_cut (Hung (λ z. z ≡ x) h bus base new.far) (HungInside (AnyScratch x) N h bus base new.far) e
    (outside (λ z. z ≡ x) (AnyScratch x) N h bus base new.far (λ z s. any_same x x z s (itself x all)))
    (save_hung h bus x base x old_count new_count old new e st f)
around_hung R F Q N address h bus x base old_count new_count old new e all i st (inside x8 x9 first saved f loses) =
    let sv : SavedTold x8 x9 h bus x base x first.far = saved_told x8 x9 h bus x base x old first st saved in i.cut old_count new_count first new e sv.then f
around_hung R F Q N address h bus x base old_count new_count old new e all i st (behind x8 x9 first last was_count is_count saved f recovers back) =
    recovers_uncut (HungInside (AnyScratch x) N h bus base new.far) e recovers
around_hung R F Q N address h bus x base old_count new_count old new e all i st (in_restore x8 x9 first last saved r f) =
    let sv : SavedTold x8 x9 h bus x base x first.far = saved_told x8 x9 h bus x base x old first st saved in
    let ok : MadeInside N h bus x base last.far = i.well first last sv.then r in
    let b : Site = accessed ok.memory (passed ok.before base) in
    if_cut (Hung (PutBack x8 x9 ok.hart) h bus b new.far) (HungInside (AnyScratch x) N h bus base new.far) e
    (behind_access (PutBack x8 x9 ok.hart) (AnyScratch x) N h bus base ok.before ok.memory new.far ok.left (λ z p. any_back x ok.hart x8 x9 z ok.any p))
    (back_hung x8 x9 h bus ok.hart b x old_count new_count last new e ok.then f)
around_hung R F Q N address h bus x base old_count new_count old new e all i st
    (in_restore_behind x8 x9 first last was_count is_count was saved f recovers back) =
    let sv : SavedTold x8 x9 h bus x base x first.far = saved_told x8 x9 h bus x base x old first st saved in
    let g : FaultInside Q h bus x base last.far =
    recovered address (FaultInside Q h bus x base last.far) was recovers (i.badly was_count is_count first last was sv.then f) in
    let m : Memory = (passed g.fault.before base).board.memory in
    if_cut (Hung (PutBack x8 x9 (scratched g.p g.q x)) h bus (accessed m (passed g.fault.before base)) new.far)
    (HungInside (AnyScratch x) N h bus base new.far) e
    (behind_access (PutBack x8 x9 (scratched g.p g.q x)) (AnyScratch x) N h bus base g.fault.before m new.far (i.refused m g.fault.did)
    (λ z p. any_back x (scratched g.p g.q x) x8 x9 z (record { p = g.p; q = g.q; is = refl }) p))
    (back_hung x8 x9 h bus (scratched g.p g.q x) (accessed m (passed g.fault.before base)) x old_count new_count last new e g.fault.then back)

-- ---- a load

any_loaded : (x : Hart) (p : ℕ) → length x.core.x ≡ 32 → AnyScratch x (with_core_x x 8 p)
any_loaded x p all = record { p = p; q = x_of x.core 9; is = x8_scratched x p all }

load_fits : (size : Size) (a : ℕ) (x : Hart) → length x.core.x ≡ 32
    → Fits (Loads size a (debug_written x x8_number a)) (LoadFaults size a) (AnyScratch x) LoadLeaves (debug_written x x8_number a)
load_fits size a x all = record {
  first = any_written8 x x a (itself x all);
  hart = λ m z n l. any_same x (with_core_x x 8 l.value) z (l.hart ∙ after_load x a l.value) (any_loaded x l.value all);
  memory = λ m z n l. l.memory;
  refused = λ m q. refl;
}

-- behind the access, with this in x8
behind_load : (X : Hart → Type 0) (p h : ℕ) (bus : BusUnit) (x : Hart) (base : Site) (before : List ℕ) (told : Option Far) (e : AccessFault)
    → length x.core.x ≡ 32
    → ((z : Hart) → X z → AnyScratch x z) → IfCut (Hung X h bus (accessed (passed before base).board.memory (passed before base)) told) e
    → IfCut (HungInside (AnyScratch x) LoadLeaves h bus base told) e
behind_load X p h bus x base before told e all f g =
    let m : Memory = (passed before base).board.memory in
    if_cut (Hung X h bus (accessed m (passed before base)) told) (HungInside (AnyScratch x) LoadLeaves h bus base told) e
    (behind_access X (AnyScratch x) LoadLeaves h bus base before m told refl f) g

any_put : (x y : Hart) (v : ℕ) (z : Hart) → AnyScratch x y → Written x8_number v y z → AnyScratch x z
any_put x y v z a (inl e) = any_same x y z e a
any_put x y v z a (inr e) = any_same x (debug_written y x8_number v) z e (any_written8 x y v a)

take_hung : (x8 h : ℕ) (bus : BusUnit) (y : Hart) (base : Site) (w : Hart) (old_count new_count : ℕ) (old new : Tells) (e : AccessFault)
    → StoodTold h bus y base w old.far → TakeFailed x8 old_count new_count old new e → IfCut (Hung (Written x8_number x8 y) h bus base new.far) e
take_hung x8 h bus y base w old_count new_count old new e st (TakeFailed.swapping f) =
    swap_hung x8_number x8 h bus y base w old_count new_count old new e (record { small = omega arith; other = refl }) st f
take_hung x8 h bus y base w old_count new_count old new e st (TakeFailed.reading mid early f) =
    if_cut (Hung (λ z. z ≡ y) h bus base new.far) (Hung (Written x8_number x8 y) h bus base new.far) e
    (hung_map (λ z. z ≡ y) (Written x8_number x8 y) h bus base new.far (λ z is. inl is))
    (read_hung x8_number h bus y base w old_count new_count mid new e (record { small = omega arith; other = refl })
    (unswapped_told x8_number x8 h bus y base w old mid (record { small = omega arith; other = refl }) st early) f)
take_hung x8 h bus y base w old_count new_count old new e st (TakeFailed.writing value mid last early read f) =
    write_hung x8_number x8 h bus y base w old_count new_count last new e (omega arith)
    (x8_read value h bus y base w mid last (unswapped_told x8_number x8 h bus y base w old mid (record { small = omega arith; other = refl }) st early) read) f

pub load_hung : (size : Size) (a h : ℕ) (bus : BusUnit) (x : Hart) (base : Site) (old_count new_count : ℕ) (old new : Tells) (e : AccessFault)
    → length x.core.x ≡ 32 → a < 2 ^ 64
    → StoodTold h bus x base x old.far → LoadRunFailed size a old_count new_count old new e → IfCut (HungInside (AnyScratch x) LoadLeaves h bus base new.far) e
load_hung size a h bus x base old_count new_count old new _ all small st (load_saving e f) =
    if_cut (Hung (λ z. z ≡ x) h bus base new.far) (HungInside (AnyScratch x) LoadLeaves h bus base new.far) e
    (outside (λ z. z ≡ x) (AnyScratch x) LoadLeaves h bus base new.far (λ z s. any_same x x z s (itself x all)))
    (read_hung x8_number h bus x base x old_count new_count old new e (record { small = omega arith; other = refl }) st f)
load_hung size a h bus x base old_count new_count old new _ all small st (load_performing e x8 first saved f loses) =
    perform_hung (Loads size a (debug_written x x8_number a)) (LoadFaults size a) (AnyScratch x) LoadLeaves (load_word size) a h bus x base x old_count
    new_count first new e (itself x all)
    (load_fits size a x all) (x8_read x8 h bus x base x old first st saved) (λ fy m. load_decides size a x m all small fy) f
load_hung size a h bus x base old_count new_count old new _ all small st (load_refused x8 first last saved p back) = tt
load_hung size a h bus x base old_count new_count old new _ all small st (load_restoring_behind e x8 first last saved p back) =
    let f : Faulted (LoadFaults size a) h bus (with_core_x x 8 a) base x last.far =
    load_faulted size a h bus x base first last all small (x8_read x8 h bus x base x old first st saved) p in
    let y : Hart = with_core_x x 8 a in
    behind_load (Written x8_number x8 y) a h bus x base f.before new.far e all (λ z p. any_put x y x8 z (any_loaded x a all) p)
    (write_hung x8_number x8 h bus y (accessed (passed f.before base).board.memory (passed f.before base)) x old_count new_count last new e (omega arith)
    f.then back)
load_hung size a h bus x base old_count new_count old new _ all small st (load_taking e x8 first mid saved p f) =
    let w : LoadWent size a h bus x base mid.far = load_went size a h bus x base first mid all small (x8_read x8 h bus x base x old first st saved) p in
    let y : Hart = with_core_x x 8 w.value in
    behind_load (Written x8_number x8 y) w.value h bus x base w.before new.far e all (λ z p. any_put x y x8 z (any_loaded x w.value all) p)
    (take_hung x8 h bus y (accessed (passed w.before base).board.memory (passed w.before base)) x old_count new_count mid new e w.then f)

-- ---- a store

pub valued_scratch : (x : Hart) (v : ℕ) → length x.core.x ≡ 32 → AnyScratch x (valued x v)
valued_scratch x v all = any_written9 x x v (itself x all)

store_fits : (size : Size) (a v : ℕ) (x : Hart) → length x.core.x ≡ 32
    → Fits (Stores size a v (aimed x a v)) (StoreFaults size a) (AnyScratch x) (StoreLeaves size a v) (aimed x a v)
store_fits size a v x all = record {
  first = any_written8 x (valued x v) a (valued_scratch x v all);
  hart = λ m z n l. record { p = a; q = v; is = l.hart ∙ after_store_scratched x a v };
  memory = λ m z n l. l.memory;
  refused = λ m q. sym (after_store_refused m a size v q.why q.is);
}

pub value_y : (x : Hart) (v : ℕ) (z : Hart) → length x.core.x ≡ 32 → Written x9_number v x z → AnyScratch x z
value_y x v z all (inl e) = any_same x x z e (itself x all)
value_y x v z all (inr e) = any_same x (valued x v) z e (valued_scratch x v all)

store_inside_hung : (size : Size) (a v h : ℕ) (bus : BusUnit) (x : Hart) (base : Site) (old_count new_count : ℕ) (first last : Tells) (e : AccessFault)
    → length x.core.x ≡ 32 → a < 2 ^ 64 → StoodTold h bus x base x first.far
    → StoreFailedInside size a v old_count new_count first last e → IfCut (HungInside (AnyScratch x) (StoreLeaves size a v) h bus base last.far) e
store_inside_hung size a v h bus x base old_count new_count first last e all small st (store_writing f) =
    if_cut (Hung (Written x9_number v x) h bus base last.far) (HungInside (AnyScratch x) (StoreLeaves size a v) h bus base last.far) e
    (outside (Written x9_number v x) (AnyScratch x) (StoreLeaves size a v) h bus base last.far (λ z p. value_y x v z all p))
    (write_hung x9_number v h bus x base x old_count new_count first last e (omega arith) st f)
store_inside_hung size a v h bus x base old_count new_count first last e all small st (store_performing mid x9 f) =
    let wr : WrittenTold x9_number v h bus x base x st.kept mid.far = written_told x9_number v h bus x base x first mid (omega arith) st x9 in
    perform_hung (Stores size a v (aimed x a v)) (StoreFaults size a) (AnyScratch x) (StoreLeaves size a v) (store_word size) a h bus (valued x v) base x
    old_count new_count mid last e (valued_scratch x v all) (store_fits size a v x all) wr.then
    (λ fy m. store_did size a v (aimed x a v) m fy (aimed_at x a v all small) (aimed_value x a v all)) f

store_made : (size : Size) (a v h : ℕ) (bus : BusUnit) (x : Hart) (base : Site) (first last : Tells) → length x.core.x ≡ 32 → a < 2 ^ 64
    → StoodTold h bus x base x first.far → StoredInside size a v first last → MadeInside (StoreLeaves size a v) h bus x base last.far
store_made size a v h bus x base first last all small st i =
    let w : StoreWent size a v h bus x base last.far = store_went size a v h bus x base first last all small st i in
    record {
      before = w.before;
      memory = after_store (passed w.before base).board.memory a size v;
      left = refl;
      hart = scratched a v x;
      any =
          record { p = a; q = v; is = refl };
      then = w.then;
    }

pub store_cut : (size : Size) (a v h : ℕ) (bus : BusUnit) (x : Hart) (base : Site) → length x.core.x ≡ 32 → a < 2 ^ 64
    → CutInside (StoredInside size a v) (StoreFailedInside size a v) (StoreFaults size a) (StoreLeaves size a v) a h bus x base
store_cut size a v h bus x base all small = record {
  well = λ first last st r. store_made size a v h bus x base first last all small st r;
  badly = λ oc nc first last e st g. store_badly size a v h bus x base oc nc first last e all small st g;
  cut = λ oc nc first last e st g. store_inside_hung size a v h bus x base oc nc first last e all small st g;
  refused = λ m q. sym (after_store_refused m a size v q.why q.is);
}
