-- What the calls of the layers below did at a told chip, as steps of the abstract debugger's plan: registers, slots and memory.
use Rattle.std.proofs.Common.{◌≡◌, ◌≢◌, ◌∙◌, ◌++◌, ◌&&◌, ℕ, suc, Bool, true, false, not, List, [], ◌∷◌, map, Option, Some, None, Result, Ok, Err}
use Rattle.std.proofs.Common.{slice_get, refl, sym, ap, subst, if◌then◌else◌}
use Rattle.std.specs.Prelude.{is_some, unwrap_or, ◌==◌, ⊤}
use Rattle.std.specs.List.{list_any}
use Rattle.std.proofs.lemmas.Bool.{false≢true, ne_eqb}
use Rattle.std.proofs.lemmas.Option.{same_Some}
use Rattle.rv_model.specs.declared.version.Version.{Version}
use Rattle.rv_model.specs.declared.dcsr.Dcsr.{Dcsr}
use Rattle.rv_model.specs.declared.mem_fault.MemFault.{MemFault}
use Rattle.rv_model.specs.declared.mem_fault.MemFault.TheVariants.{Misaligned, Outside}
use Rattle.rv_model.specs.declared.size.Size.{Size}
use Rattle.rv_model.specs.declared.slot.Slot.{Slot}
use Rattle.rv_model.specs.Board.{Board, DebugPart, Hart, Machine}
use Rattle.rv_model.specs.Core.{Core}
use Rattle.rv_model.specs.Dcsr.{dcsr_of, dcsr_of_word, dcsr_value, dcsr_word, with_dcsr}
use Rattle.rv_model.specs.DebugRegisters.{dcsr_number, debug_csr_value, debug_csr_written, debug_refuses, debug_seen, debug_value, debug_written, value_or}
use Rattle.rv_model.specs.Memory.{Memory, after_store, is_aligned, is_inside, loaded, store_answer}
use Rattle.rv_model.specs.Registers.{csr_read_only, csr_value, csr_written, mip_number, mip_value, pc_number, reg_value, reg_written}
use Rattle.rv_model.specs.Size.{count_of}
use Rattle.rv_model.specs.TriggerWords.{tdata1_number, tdata2_number, trigger_csr_written, tselect_number}
use Rattle.rv_model.specs.Undebugged.{with_bytes}
use Rattle.rv_model.proofs.DebugWordLemmas.{dcsr_read_back}
use Rattle.debug_model.specs.declared.point.Point.TheVariants.{Access}
use Rattle.debug_model.specs.Module.{Site}
use Rattle.abstract_debugger.specs.Debugger.{mip_here, mip_line, showing_mip}
use Rattle.abstract_debugger.specs.Debugger.{arming, arming_at, by_load, by_store, freeing, is_free_slot, register_line, saying, slot_lines, slots_shown_at, slots_shown_of, value_here}
use Rattle.abstract_debugger.specs.Laws.{IsFrozen}
use Rattle.abstract_debugger.specs.Lines.{Line}
use Rattle.abstract_debugger.specs.Plan.{Plan, ebreak_halts, register_set, slot_changed, with_debug_part}
use Rattle.abstract_debugger.specs.Plan.Change.{EbreakHalts, FreeSlot, WriteMem, WriteReg}
use Rattle.abstract_debugger.specs.Plan.Plan.{change, say, see, take}
use Rattle.abstract_debugger.specs.Slots.{any_hit, first_free, hits_forgotten, hits_of, slots_at, slots_here, trigger_has_hit, use_of, uses_here, with_slots}
use Rattle.abstract_debugger.specs.Slots.Use.{Armed, Unused}
use Rattle.abstract_debugger.specs.Stands.{Deals, Origin, Pointed, Rewrote, Target}
use Rattle.abstract_debugger.specs.Trace.{What}
use Rattle.abstract_debugger.specs.Transcript.{replay}
use Rattle.abstract_debugger.specs.Turns.{after_turns, turns}
use Rattle.abstract_debugger.specs.Ways.{Way}
use Rattle.abstract_debugger.specs.Ways.Way.{Ready, Still}
use Rattle.abstract_debugger.proofs.DealsLemmas.{deals_armed, deals_at_plan, deals_ebreak, deals_freed, deals_frozen, deals_loaded, deals_ready}
use Rattle.abstract_debugger.proofs.DealsLemmas.{deals_register, deals_seen, deals_stored, deals_went_on, target_frozen, if_false, if_true}
use Rattle.abstract_debugger.proofs.FrozenLemmas.{stays_same}
use Rattle.abstract_debugger.proofs.SlotLemmas.{CanArm}
use Rattle.abstract_debugger.proofs.StandsLemmas.{rewrote_then, shown}
use Rattle.probe_access.specs.Accesses.{with_memory}
use Rattle.probe_access.specs.Registers.{TurnsPassed, TurnsPassedBut, reaches}
use Rattle.probe_access.proofs.Aside.{Frozen}
use Rattle.probe_access.proofs.PendingTold.{mip_seen, mip_there}
use Rattle.probe_access.proofs.StepLemmas.{passed_rewrote}
use Rattle.probe_access.proofs.StopClauses.{dcsr_held, small_shown}
use Rattle.probe_run.specs.Happens.{target_of}
use Rattle.debug_model.specs.declared.slot_use.SlotUse.{SlotUse}
use Rattle.probe_trig.specs.declared.slot_view.SlotView.{SlotView}
use Rattle.probe_trig.specs.Slots.{ArmedAt, ForgotAt, FreedAt, FullAt, UnusedAt, ViewedAt}
use Rattle.probe_session.specs.Calls.{IsOfCores}
use Rattle.probe_session.specs.Steps.{any_in, lines_by, lines_of_view, with_ebreakm}
use Rattle.probe_session.proofs.RegisterLemmas.{of_harts}
use Rattle.probe_session.proofs.Tolds.{same_hart, sees_hart, went_by}
use Rattle.abstract_debugger.proofs.ScriptLemmas.{first_free-there, used_there}
use Rattle.abstract_debugger.specs.SlotUses.{use_named}

-- ---- a register that is read

core_first : (a b : Option ℕ) (v : ℕ) → is_some a ≡ true → value_or a b ≡ Some v → unwrap_or a 0 ≡ v
core_first (Some w) b v there is = same_Some w v is
core_first None b v there is = absurd (false≢true there)

pub value_is : (number v : ℕ) (x : Hart) → IsOfCores number → debug_value x number ≡ Some v → value_here (Some x) number ≡ v
unfolding debug_value
value_is number v x of is = core_first (reg_value x.core number) (debug_csr_value x.debug number) v (of x.core) is

pub read_deals : (m : Machine) (h number v : ℕ) (o : Origin) (next : ℕ → Plan) (lines : List Line) (s t : Site) (x : Hart) → IsOfCores number
    → slice_get s.board.harts h ≡ Some x → debug_value x number ≡ Some v → TurnsPassed s t
    → Deals m h Still o (see (λ b. next (value_here (slice_get b.harts h) number))) lines (target_of s) → Deals m h Still o (next v) lines (target_of t)
read_deals m h number v o next lines s t x of here is passed d =
    deals_went_on m h Still o (next v) lines (target_of s) (target_of t)
    (sees_hart m h o (λ y. next (value_here y number)) (next v) lines (target_of s) x here (ap next (value_is number v x of is)) d) (went_by s t passed)

-- one of several lines
split_say : (m : Machine) (h : ℕ) (o : Origin) (line : Option Hart → Line) (rest : Board → Plan) (lines : List Line) (t : Target)
    → Deals m h Still o (see (λ b. say (line (slice_get b.harts h)) (rest b))) lines t
    → Deals m h Still o (say (line (slice_get t.board.harts h)) (see rest)) lines t
unfolding replay
split_say m h o line rest lines t d = record {
  stands = record {
    world = d.stands.world;
    rest = d.stands.rest;
    replayed = λ more. d.stands.replayed more
        ∙ ap (λ (y : Option Hart). replay (say (line y) (see rest)) d.stands.world (turns d.stands.rest ++ more))
        (sym (shown o h (see (λ b. say (line (slice_get b.harts h)) (rest b))) lines t d.stands
        (deals_frozen m h Still o (see (λ b. say (line (slice_get b.harts h)) (rest b))) lines t tt d)));
    board = d.stands.board;
    spoken = d.stands.spoken;
  };
  knows = d.knows;
}

pub read_next_deals : (m : Machine) (h number v : ℕ) (numbers : List ℕ) (o : Origin) (next : Plan) (lines : List Line) (s t : Site) (x : Hart)
    → IsOfCores number → slice_get s.board.harts h ≡ Some x → debug_value x number ≡ Some v → TurnsPassed s t
    → Deals m h Still o (see (λ b. saying (map (register_line h b) (number ∷ numbers)) next)) lines (target_of s)
    → Deals m h Still o (say (Line.Register number v) (see (λ b. saying (map (register_line h b) numbers) next))) lines (target_of t)
read_next_deals m h number v numbers o next lines s t x of here is passed d =
    deals_went_on m h Still o _ lines (target_of s) (target_of t)
    (deals_at_plan m h Still o _ _ lines (target_of s)
    (ap (λ n. say (Line.Register number n) (see (λ b. saying (map (register_line h b) numbers) next)))
    (ap (λ (y : Option Hart). value_here y number) here ∙ value_is number v x of is))
    (split_say m h o (λ y. Line.Register number (value_here y number)) (λ b. saying (map (register_line h b) numbers) next) lines (target_of s) d))
    (went_by s t passed)

-- ---- a register that is refused

both_true : (a : Bool) → a ≡ true → (a && not (false && false)) ≡ true
both_true a is = ap (λ (b : Bool). b && not (false && false)) is

pub never_refused : (number : ℕ) (x : Hart) → IsOfCores number → reaches false x number ≡ false → ⊥
never_refused number x of denied = false≢true (sym denied ∙ ap (λ (b : Bool). b && true) (of_harts number of x))

-- mip neither
pub pending_never_refused : (x : Hart) → reaches false x mip_number ≡ false → ⊥
pending_never_refused x denied = false≢true (sym denied ∙ ap (λ (v : Option ℕ). is_some v && true) (mip_there x))

-- ---- a register that is written

frozen_of : (x : Hart) → IsFrozen x.debug → Frozen x
frozen_of x f = record { why = f.why; halted = f.halted; not_asked = f.not_asked }

-- no register of the debug part is one of the core
not_core : (number other : ℕ) (x : Hart) → IsOfCores number → reg_value x.core other ≡ None → number ≡ other → ⊥
not_core number other x of none is = false≢true (sym (ap is_some none) ∙ ap (λ n. is_some (reg_value x.core n)) (sym is) ∙ of x.core)

dcsr_none : (c : Core) → reg_value c dcsr_number ≡ None
unfolding csr_value
dcsr_none c = refl

tselect_none : (c : Core) → reg_value c tselect_number ≡ None
unfolding csr_value
tselect_none c = refl

tdata1_none : (c : Core) → reg_value c tdata1_number ≡ None
unfolding csr_value
tdata1_none c = refl

tdata2_none : (c : Core) → reg_value c tdata2_number ≡ None
unfolding csr_value
tdata2_none c = refl

pub part_stays : (number v : ℕ) (x : Hart) → IsOfCores number → debug_csr_written x.debug number v ≡ x.debug
unfolding trigger_csr_written
part_stays number v x of =
    let a : (number == dcsr_number) ≡ false = ne_eqb number dcsr_number (not_core number dcsr_number x of (dcsr_none x.core)) in
    let b : (number == tselect_number) ≡ false = ne_eqb number tselect_number (not_core number tselect_number x of (tselect_none x.core)) in
    let c : (number == tdata1_number) ≡ false = ne_eqb number tdata1_number (not_core number tdata1_number x of (tdata1_none x.core)) in
    let d : (number == tdata2_number) ≡ false = ne_eqb number tdata2_number (not_core number tdata2_number x of (tdata2_none x.core)) in
    rw (a, b, c, d) refl

pub written_as_set : (number v : ℕ) (x : Hart) → IsOfCores number → number ≢ pc_number → debug_written x number v ≡ register_set number v x
unfolding debug_written
written_as_set number v x of other =
    let a : (number == pc_number) ≡ false = ne_eqb number pc_number other in
    ap (λ (p : DebugPart). let y : Hart = record { core = reg_written x.core number v; debug = p } in y) (part_stays number v x of) ∙ sym (rw a refl)

wrote_reg : (m : Machine) (h number v : ℕ) (o : Origin) (p : Plan) (lines : List Line) (s t : Site) (x : Hart) (f : Hart → Hart)
    → slice_get s.board.harts h ≡ Some x → debug_written x number v ≡ f x → TurnsPassedBut h (debug_written x number v) s t
    → Deals m h Still o p lines (target_of s) → Rewrote f h (target_of s) (target_of t)
wrote_reg m h number v o p lines s t x f here is passed d =
    passed_rewrote f h x s t here (frozen_of x (target_frozen m h Still o p lines (target_of s) tt d x here)) (subst (λ y. TurnsPassedBut h y s t) is passed)

pub read_only_is : (number : ℕ) → debug_refuses number ≡ csr_read_only number
unfolding debug_refuses
read_only_is number = refl

pub write_deals : (m : Machine) (h number v : ℕ) (o : Origin) (refused next : Plan) (lines : List Line) (s t : Site) (x : Hart) → IsOfCores number
    → number ≢ pc_number → slice_get s.board.harts h ≡ Some x → debug_refuses number ≡ false
    → TurnsPassedBut h (debug_written x number v) s t → Deals m h Still o (if csr_read_only number then refused else change (WriteReg h number v) next) lines
    (target_of s) → Deals m h Still o next lines (target_of t)
write_deals m h number v o refused next lines s t x of other here takes passed d =
    deals_register m h number v o next lines (target_of s) (target_of t)
    (deals_at_plan m h Still o _ _ lines (target_of s) (if_false (csr_read_only number) refused (change (WriteReg h number v) next)
    (sym (read_only_is number) ∙ takes)) d)
    (wrote_reg m h number v o _ lines s t x (register_set number v) here (written_as_set number v x of other) passed d)

pub write_refused_deals : (m : Machine) (h number : ℕ) (o : Origin) (refused p : Plan) (lines : List Line) (s t : Site) (x : Hart) → IsOfCores number
    → reaches true x number ≡ false → TurnsPassed s t
    → Deals m h Still o (if csr_read_only number then refused else p) lines (target_of s) → Deals m h Still o refused lines (target_of t)
write_refused_deals m h number o refused p lines s t x of denied passed d =
    deals_went_on m h Still o refused lines (target_of s) (target_of t)
    (deals_at_plan m h Still o _ _ lines (target_of s) (if_true (csr_read_only number) refused p
    (sym (read_only_is number) ∙ refuses (is_some (debug_value x number)) (debug_refuses number) (of_harts number of x) denied)) d) (went_by s t passed)
  where
    refuses : (a r : Bool) → a ≡ true → (a && not (true && r)) ≡ false → r ≡ true
    refuses a true there is = refl
    refuses a false there is = absurd (false≢true (sym is ∙ ap (λ (b : Bool). b && true) there))

-- pc, and then the hits of the slots
pc_written : (v : ℕ) (x : Hart) → debug_written x pc_number v ≡ record { core = reg_written x.core pc_number v; debug = x.debug }
unfolding debug_written trigger_csr_written
pc_written v x = refl

pc_then : (v : ℕ) (x : Hart) → with_debug_part (with_slots hits_forgotten) (record { core = reg_written x.core pc_number v; debug = x.debug })
    ≡ register_set pc_number v x
pc_then v x = refl

abbrev pc_set : ℕ → Hart → Hart
pc_set v x = record { core = reg_written x.core pc_number v; debug = x.debug }

pub write_pc_deals : (m : Machine) (h v : ℕ) (o : Origin) (refused next : Plan) (lines : List Line) (s t : Site) (new : Target) (x : Hart)
    → slice_get s.board.harts h ≡ Some x → debug_refuses pc_number ≡ false
    → TurnsPassedBut h (debug_written x pc_number v) s t → ForgotAt h (target_of t) new
    → Deals m h Still o (if csr_read_only pc_number then refused else change (WriteReg h pc_number v) next) lines (target_of s)
    → Deals m h Still o next lines new
write_pc_deals m h v o refused next lines s t new x here takes passed forgot d =
    deals_register m h pc_number v o next lines (target_of s) new
    (deals_at_plan m h Still o _ _ lines (target_of s) (if_false (csr_read_only pc_number) refused (change (WriteReg h pc_number v) next)
    (sym (read_only_is pc_number) ∙ takes)) d)
    (rewrote_then (pc_set v) (with_debug_part (with_slots hits_forgotten)) h (target_of s) (target_of t) new
    (target_frozen m h Still o _ lines (target_of s) tt d) (λ y f. record { why = f.why; halted = f.halted; not_asked = f.not_asked })
    (wrote_reg m h pc_number v o _ lines s t x (pc_set v) here (pc_written v x) passed d) forgot)

-- ---- dcsr

ebreakm_fields : Bool → Dcsr → Dcsr
ebreakm_fields on d = record d { ebreakm = on }

dcsr_part : (x : Hart) (v : ℕ) → debug_written x dcsr_number v ≡ record { core = x.core; debug = with_dcsr (dcsr_of_word v) x.debug }
unfolding debug_written csr_written
dcsr_part x v = refl

ebreak_read_back : (on : Bool) (x : Hart) → dcsr_of_word (with_ebreakm on (dcsr_value x.debug)) ≡ ebreakm_fields on (dcsr_of x.debug)
unfolding ebreakm_fields
ebreak_read_back on x =
    ap (λ (d : Dcsr). dcsr_of_word (dcsr_word (ebreakm_fields on d))) (dcsr_read_back (dcsr_of x.debug) (small_shown x.debug.halted))
    ∙ dcsr_read_back (ebreakm_fields on (dcsr_of x.debug)) (small_shown x.debug.halted)

ebreak_written : (on : Bool) (x : Hart) → debug_written x dcsr_number (with_ebreakm on (dcsr_value x.debug)) ≡ with_debug_part (ebreak_halts on) x
unfolding ebreakm_fields
ebreak_written on x =
    dcsr_part x (with_ebreakm on (dcsr_value x.debug)) ∙ ap (λ (d : Dcsr). let y : Hart = record { core = x.core; debug = with_dcsr d x.debug } in y)
    (ebreak_read_back on x)

pub ebreak_deals : (m : Machine) (h word : ℕ) (on : Bool) (o : Origin) (next : Plan) (lines : List Line) (s r t : Site) (x y : Hart)
    → slice_get s.board.harts h ≡ Some x → debug_value x dcsr_number ≡ Some word → TurnsPassed s r
    → slice_get r.board.harts h ≡ Some y → TurnsPassedBut h (debug_written y dcsr_number (with_ebreakm on word)) r t
    → Deals m h Still o (change (EbreakHalts h on) next) lines (target_of s) → Deals m h Still o next lines (target_of t)
ebreak_deals m h word on o next lines s r t x y here is passed there written d =
    let p : Plan = change (EbreakHalts h on) next in
    let mid : Deals m h Still o p lines (target_of r) = deals_went_on m h Still o p lines (target_of s) (target_of r) d (went_by s r passed) in
    let same : x ≡ y = same_Some x y (sym here ∙ sym (same_hart m h o p lines (target_of s) (target_of r) d (went_by s r passed)) ∙ there) in
    let word_is : word ≡ dcsr_value y.debug = same_Some word (dcsr_value y.debug) (sym is ∙ ap (λ (z : Hart). debug_value z dcsr_number) same ∙ dcsr_held y) in
    deals_ebreak m h on o next lines (target_of r) (target_of t) mid
    (wrote_reg m h dcsr_number (with_ebreakm on word) o p lines r t y (with_debug_part (ebreak_halts on)) there
    (ap (λ n. debug_written y dcsr_number (with_ebreakm on n)) word_is ∙ ebreak_written on y) written mid)

-- ---- slots

lines_same : (v : Version) (first : ℕ) (slots : List Slot) → slot_lines v first slots ≡ lines_by first (map (use_of v) slots) (hits_of slots)
lines_same v first [] = refl
lines_same v first (s ∷ slots) = ap (λ l. Line.Slot first (use_of v s) (trigger_has_hit s.trigger) ∷ l) (lines_same v (suc first) slots)

hart_lines_same : (o : Option Hart) → slots_shown_of o ≡ lines_by 0 (uses_here o) (hits_of (slots_here o))
hart_lines_same (Some x) = lines_same x.debug.version 0 x.debug.slots
hart_lines_same None = refl

pub slots_deals : (m : Machine) (h : ℕ) (view : SlotView) (o : Origin) (next : Plan) (lines : List Line) (old new : Target) → ViewedAt view h old new
    → Deals m h Still o (see (λ b. saying (slots_shown_at h b) next)) lines old
    → Deals m h Still o (saying (lines_of_view view) next) lines new
slots_deals m h view o next lines old new v d =
    deals_went_on m h Still o _ lines old new
    (deals_at_plan m h Still o _ _ lines old
    (ap (λ l. saying l next)
    (hart_lines_same (slice_get old.board.harts h) ∙ ap (λ us. lines_by 0 us (hits_of (slots_at h old.board))) (sym v.shows.uses_are)
    ∙ ap (λ hs. lines_by 0 (map use_named view.used) hs) (sym v.shows.hits_are)))
    (deals_seen m h Still o (λ y. saying (slots_shown_of y) next) lines old tt d)) v.went

hits_plan : (m : Machine) (h : ℕ) (view : SlotView) (o : Origin) (held free : Plan) (lines : List Line) (old new : Target) → ViewedAt view h old new
    → Deals m h Still o (see (λ b. if any_hit (slots_at h b) then held else free)) lines old
    → Deals m h Still o (if any_in view then held else free) lines old
hits_plan m h view o held free lines old new v d =
    deals_at_plan m h Still o _ _ lines old (ap (λ hs. if list_any (λ b. b) hs then held else free) (sym v.shows.hits_are))
    (deals_seen m h Still o (λ y. if any_hit (slots_here y) then held else free) lines old tt d)

pub hits_deals : (m : Machine) (h : ℕ) (view : SlotView) (o : Origin) (held free : Plan) (lines : List Line) (old new : Target) → any_in view ≡ true
    → ViewedAt view h old new
    → Deals m h Still o (see (λ b. if any_hit (slots_at h b) then held else free)) lines old → Deals m h Still o held lines new
hits_deals m h view o held free lines old new is v d =
    deals_went_on m h Still o held lines old new (deals_at_plan m h Still o _ _ lines old (if_true (any_in view) held free is)
    (hits_plan m h view o held free lines old new v d)) v.went

pub no_hits_deals : (m : Machine) (h : ℕ) (view : SlotView) (o : Origin) (held free : Plan) (lines : List Line) (old new : Target) → any_in view ≡ false
    → ViewedAt view h old new
    → Deals m h Still o (see (λ b. if any_hit (slots_at h b) then held else free)) lines old → Deals m h Ready o free lines new
no_hits_deals m h view o held free lines old new is v d =
    deals_went_on m h Ready o free lines old new
    (deals_ready m h o free lines old (ap (list_any (λ b. b)) (sym v.shows.hits_are) ∙ is)
    (deals_at_plan m h Still o _ _ lines old (if_false (any_in view) held free is) (hits_plan m h view o held free lines old new v d))) v.went

pub armed_deals : (m : Machine) (h slot : ℕ) (meant : SlotUse) (what : What) (o : Origin) (next : Plan) (lines : List Line) (old new : Target)
    → use_named meant ≡ Armed what → CanArm what → ArmedAt meant slot h old new
    → Deals m h Still o (arming h what next) lines old → Deals m h Still o (say (Line.Slot slot (Armed what) false) next) lines new
armed_deals m h slot meant what o next lines old new is can a d =
    let same : a.what ≡ what = cc (a.what_is, is) in
    deals_armed m h slot what o (say (Line.Slot slot (Armed what) false) next) lines old new can
    (λ x here. first_free-there x.debug.slots slot (sym (ap (λ (y : Option Hart). first_free (slots_here y)) here) ∙ a.lowest))
    (deals_at_plan m h Still o _ _ lines old (ap (λ (k : Option ℕ). arming_at k h what next) a.lowest)
    (deals_seen m h Still o (λ y. arming_at (first_free (slots_here y)) h what next) lines old tt d))
    (subst (λ w. Rewrote (with_debug_part (slot_changed slot w)) h old new) same a.wrote)

pub full_deals : (m : Machine) (h : ℕ) (what : What) (o : Origin) (next : Plan) (lines : List Line) (old new : Target) → FullAt h old new
    → Deals m h Still o (arming h what next) lines old → Deals m h Still o (say Line.NoFreeSlot next) lines new
full_deals m h what o next lines old new a d =
    deals_went_on m h Still o _ lines old new
    (deals_at_plan m h Still o _ _ lines old (ap (λ (k : Option ℕ). arming_at k h what next) a.none)
    (deals_seen m h Still o (λ y. arming_at (first_free (slots_here y)) h what next) lines old tt d)) a.went

abbrev freeing_by : ℕ → ℕ → Plan → Bool → Plan
freeing_by h slot next free = if free then say (Line.SlotNotInUse slot) next else change (FreeSlot h slot) (say (Line.Slot slot Unused false) next)

pub freed_deals : (m : Machine) (h slot : ℕ) (o : Origin) (next : Plan) (lines : List Line) (old new : Target) → FreedAt slot h old new
    → Deals m h Still o (freeing h slot next) lines old
    → Deals m h Still o (say (Line.Slot slot Unused false) next) lines new
freed_deals m h slot o next lines old new a d =
    deals_freed m h slot o (say (Line.Slot slot Unused false) next) lines old new
    (λ x here. used_there (slice_get x.debug.slots slot) (ap (λ (y : Option Hart). is_free_slot (slice_get (slots_here y) slot)) (sym here) ∙ a.in_use))
    (deals_at_plan m h Still o _ _ lines old (ap (freeing_by h slot next) a.in_use)
    (deals_seen m h Still o (λ y. freeing_by h slot next (is_free_slot (slice_get (slots_here y) slot))) lines old tt d)) a.wrote

pub unused_deals : (m : Machine) (h slot : ℕ) (o : Origin) (next : Plan) (lines : List Line) (old new : Target) → UnusedAt slot h old new
    → Deals m h Still o (freeing h slot next) lines old
    → Deals m h Still o (say (Line.SlotNotInUse slot) next) lines new
unused_deals m h slot o next lines old new a d =
    deals_went_on m h Still o _ lines old new
    (deals_at_plan m h Still o _ _ lines old (ap (freeing_by h slot next) a.free)
    (deals_seen m h Still o (λ y. freeing_by h slot next (is_free_slot (slice_get (slots_here y) slot))) lines old tt d)) a.went

-- ---- memory

-- one access that left this memory, among turns
pub record OneAccessed (f : Memory → Memory) (before behind : List ℕ) (s t : Site) : Type 0 where
  pub board : t.board ≡ after_turns behind (with_memory (f (after_turns before s.board).memory) (after_turns before s.board))
  pub journal : t.journal ≡ (s.journal ++ turns before) ++ Access ∷ turns behind

abbrev pointed_by : (before behind : List ℕ) (s t : Site) → OneAccessed (λ m. m) before behind s t → Pointed Access (target_of s) (target_of t)
pointed_by before behind s t a = record { before = before; behind = behind; board = a.board; journal = a.journal }

pub load_deals : (m : Machine) (h : ℕ) (way : Way) (size : Size) (address v : ℕ) (o : Origin) (faulted : Plan) (read : ℕ → Plan) (lines : List Line)
    (before behind : List ℕ) (s t : Site)
    → loaded (after_turns before s.board).memory address size ≡ Ok v → OneAccessed (λ k. k) before behind s t
    → Deals m h way o (take Access (see (λ b. by_load (loaded b.memory address size) faulted read))) lines (target_of s)
    → Deals m h way o (read v) lines (target_of t)
load_deals m h way size address v o faulted read lines before behind s t is a d =
    deals_at_plan m h way o _ (read v) lines (target_of t) (ap (λ r. by_load r faulted read) is)
    (deals_loaded m h way o (λ b. by_load (loaded b.memory address size) faulted read) lines (target_of s) (target_of t) d (pointed_by before behind s t a))

-- mip, of the memory that an access met
pub pending_deals : (m : Machine) (h v : ℕ) (o : Origin) (next : Plan) (lines : List Line) (before behind : List ℕ) (s t : Site) (x : Hart)
    → slice_get s.board.harts h ≡ Some x → debug_seen x (after_turns before s.board).memory mip_number ≡ Some v → OneAccessed (λ k. k) before behind s t
    → Deals m h Still o (showing_mip h next) lines (target_of s) → Deals m h Still o (say (Line.Register mip_number v) next) lines (target_of t)
pending_deals m h v o next lines before behind s t x here is a d =
    let b : Board = after_turns before s.board in
    let there : slice_get b.harts h ≡ Some x = stays_same h s.board before (target_frozen m h Still o (showing_mip h next) lines (target_of s) tt d) ∙ here in
    let value : mip_value x.core b.memory ≡ v = same_Some (mip_value x.core b.memory) v (sym (mip_seen x b.memory) ∙ is) in
    deals_at_plan m h Still o _ (say (Line.Register mip_number v) next) lines (target_of t)
    (ap (λ n. say (Line.Register mip_number n) next) (ap (λ (y : Option Hart). mip_here y b.memory) there ∙ value))
    (deals_loaded m h Still o (λ c. say (mip_line h c) next) lines (target_of s) (target_of t) d (pointed_by before behind s t a))

pub load_none_deals : (m : Machine) (h : ℕ) (way : Way) (size : Size) (address : ℕ) (why : MemFault) (o : Origin) (faulted : Plan) (read : ℕ → Plan)
    (lines : List Line) (before behind : List ℕ) (s t : Site)
    → loaded (after_turns before s.board).memory address size ≡ Err why → OneAccessed (λ k. k) before behind s t
    → Deals m h way o (take Access (see (λ b. by_load (loaded b.memory address size) faulted read))) lines (target_of s)
    → Deals m h way o faulted lines (target_of t)
load_none_deals m h way size address why o faulted read lines before behind s t is a d =
    deals_at_plan m h way o _ faulted lines (target_of t) (ap (λ r. by_load r faulted read) is)
    (deals_loaded m h way o (λ b. by_load (loaded b.memory address size) faulted read) lines (target_of s) (target_of t) d (pointed_by before behind s t a))

abbrev answer : Bool → Bool → Result ⊤ MemFault
answer a i = if a then (if i then Ok tt else Err Outside) else Err Misaligned

stored_by : (k n : Memory) (a i : Bool) → answer a i ≡ Ok tt → (if a && i then n else k) ≡ n
stored_by k n true true e = refl
stored_by k n true false e = cc
stored_by k n false i e = cc

stored_bytes : (k : Memory) (address : ℕ) (size : Size) (v : ℕ) → store_answer k address size ≡ Ok tt
    → after_store k address size v ≡ with_bytes k address (count_of size) v
unfolding store_answer after_store
stored_bytes k address size v is = stored_by k (with_bytes k address (count_of size) v) (is_aligned address size) (is_inside k address size) is

pub store_deals : (m : Machine) (h : ℕ) (way : Way) (size : Size) (address v : ℕ) (o : Origin) (faulted next : Plan) (lines : List Line)
    (before behind : List ℕ) (s t : Site)
    → store_answer (after_turns before s.board).memory address size ≡ Ok tt → OneAccessed (λ k. after_store k address size v) before behind s t
    → Deals m h way o (take Access (see (λ b. by_store (store_answer b.memory address size) faulted (change (WriteMem address (count_of size) v) next)))) lines
    (target_of s) → Deals m h way o next lines (target_of t)
store_deals m h way size address v o faulted next lines before behind s t is a d =
    let b : Board = after_turns before s.board in
    deals_stored m h way o address (count_of size) v (λ b. by_store (store_answer b.memory address size) faulted
    (change (WriteMem address (count_of size) v) next)) next lines (target_of s) (target_of t) d
    (record {
      before = before;
      behind = behind;
      board = a.board ∙ ap (λ k. after_turns behind (with_memory k b)) (stored_bytes b.memory address size v is);
      journal = a.journal;
    })
    (ap (λ r. by_store r faulted (change (WriteMem address (count_of size) v) next)) is)

pub store_none_deals : (m : Machine) (h : ℕ) (way : Way) (size : Size) (address : ℕ) (why : MemFault) (o : Origin) (faulted stored : Plan) (lines : List Line)
    (before behind : List ℕ) (s t : Site)
    → store_answer (after_turns before s.board).memory address size ≡ Err why → OneAccessed (λ k. k) before behind s t
    → Deals m h way o (take Access (see (λ b. by_store (store_answer b.memory address size) faulted stored))) lines (target_of s)
    → Deals m h way o faulted lines (target_of t)
store_none_deals m h way size address why o faulted stored lines before behind s t is a d =
    deals_at_plan m h way o _ faulted lines (target_of t) (ap (λ r. by_store r faulted stored) is)
    (deals_loaded m h way o (λ b. by_store (store_answer b.memory address size) faulted stored) lines (target_of s) (target_of t) d
    (pointed_by before behind s t a))
