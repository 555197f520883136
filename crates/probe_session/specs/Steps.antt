-- One step of a session along the abstract debugger's plan: a line that is said, something that follows without a call, or an answered call.
-- A plan goes on by what the call answered, so that a line that a step leads to shows what was answered and nothing else.
-- It is this project's own.
use Rattle.std.specs.Prelude.{◌≡◌, ◌≢◌, ◌<◌, ℕ, suc, Bool, true, false, List, [], ◌∷◌, length, map, take, slice_get, if◌then◌else◌}
use Rattle.std.specs.List.{list_any}
use Rattle.rv_model.specs.declared.cause.Cause.TheVariants as halted_by
use Rattle.rv_model.specs.declared.size.Size.{Size}
use Rattle.rv_model.specs.Cause.{cause_number}
use Rattle.rv_model.specs.Registers.{csr_read_only, mip_number, pc_number}
use Rattle.debug_model.specs.declared.command.Path.{Path}
use Rattle.debug_model.specs.Tap.{idcode}
use Rattle.abstract_debugger.specs.Debugger.{arming, by_state, freeing, going, halted_of, halting, look, one}
use Rattle.abstract_debugger.specs.Debugger.{register_line, saying, showing_mip, slots_shown_at, stop_line, value_here}
use Rattle.abstract_debugger.specs.Lines.{Line}
use Rattle.abstract_debugger.specs.Plan.{Plan, is_step}
use Rattle.abstract_debugger.specs.Plan.Change.{EbreakHalts, WriteReg}
use Rattle.abstract_debugger.specs.Slots.{Use, any_hit, slots_at}
use Rattle.abstract_debugger.specs.Slots.Use.{Armed, Unused}
use Rattle.abstract_debugger.specs.Trace.{What}
use Rattle.abstract_debugger.proofs.SlotLemmas.{CanArm}
use Rattle.debug_model.specs.declared.slot_use.SlotUse.{SlotUse}
use Rattle.probe_trig.specs.declared.slot_view.SlotView.{SlotView}
use Rattle.rv_model.specs.Dcsr.{dcsr_of_word, dcsr_word}
use Rattle.rv_model.specs.DebugRegisters.{dcsr_number}
use Rattle.abstract_debugger.specs.Plan.Plan.{change, say, see}
use Rattle.abstract_debugger.specs.Ways.{Way}
use Rattle.abstract_debugger.specs.Ways.Way.{Idle, Still}
use Rattle.abstract_debugger.specs.SlotUses.{hits_in, use_named}
use Rattle.probe_run.specs.declared.hart.Seen.{Seen}
use Rattle.probe_run.specs.declared.hart.Seen.TheVariants as seen
use Rattle.probe_run.specs.Acts.{Tells}
use Rattle.probe_session.specs.Calls.{FoundStop, Gave, GaveNone, Got, GotNone, GotPending, HaltMade, HitsForgotten, Identified, IsOfCores, StepFromMade}
use Rattle.probe_session.specs.Calls.{NoneFree, NotUsed, PendingNone, StepMade, StepOverMade, ResumeMade, LookMade, SlotFreed, SlotTaken, Viewed}
use Rattle.probe_trig.specs.Stepping.{shows_step}
use Rattle.probe_access.specs.Blocks.{element_at, value_at}
use Rattle.probe_session.specs.BlockCalls.{BlockLoaded, BlockLoadedNone, BlockStored, BlockStoredNone}
use Rattle.probe_session.specs.Blocks.{Loads, Stores, loading, storing}
use Rattle.probe_session.specs.Known.{IsWhole}
use Rattle.probe_session.specs.Places.{Place, at_say, idle, may_say, place, ready, says_refused, spot, still}

-- where a command stands behind its Look
abbrev pub behind_look : Seen → ℕ → (absent running halted : Plan) → Place
behind_look seen.Absent h absent running halted = idle absent
behind_look (seen.Running r) h absent running halted = idle running
behind_look (seen.Halted x) h absent running halted = still h halted

-- dcsr's number for a halt by a trigger, beside which the slots with a hit are shown
abbrev pub trigger_cause : ℕ
trigger_cause = cause_number halted_by.Trigger

-- behind a step: was it a whole one?
abbrev pub behind_step : ℕ → (stepped other : Plan) → Plan
behind_step h stepped other = see (λ b. if is_step (halted_of (slice_get b.harts h)) then stepped else other)

-- has any slot a hit?
abbrev pub any_in : SlotView → Bool
any_in view = list_any (λ b. b) (hits_in view.hits)

-- a line for each slot
abbrev pub lines_by : ℕ → List Use → List Bool → List Line
lines_by first [] hits = []
lines_by first (u ∷ uses) [] = []
lines_by first (u ∷ uses) (b ∷ hits) = Line.Slot first u b ∷ lines_by (suc first) uses hits

abbrev pub lines_of_view : SlotView → List Line
lines_of_view view = lines_by 0 (map use_named view.used) (hits_in view.hits)

-- a word of dcsr with ebreakm so, and its other fields as they were
abbrev pub with_ebreakm : Bool → ℕ → ℕ
with_ebreakm on word = dcsr_word (record (dcsr_of_word word) { ebreakm = on })

-- with these lines said; a session that tells of no chip goes on by what it has heard
pub data Step : Place → Tells → List Line → Place → Tells → Type 0 where
  -- without a call
  same : {way : Way} {h : ℕ} {p q : Plan} {t : Tells} → p ≡ q → Step (place way h p) t [] (place way h q) t
  rests : {heard : Bool} {h : ℕ} {p : Plan} {t : Tells} → Step (spot heard Still h p) t [] (spot heard Idle 0 p) t
  unspent : {h : ℕ} {p : Plan} {t : Tells} → Step (ready h p) t [] (still h p) t
  overlooks : {way : Way} {h : ℕ} {p : Plan} {t : Tells} → Step (place way h (see (λ _. p))) t [] (place way h p) t
  says : {heard : Bool} {way : Way} {h : ℕ} {line : Line} {next : Plan} {t : Tells} → may_say heard line ≡ true
      → Step (spot heard way h (say line next)) t (line ∷ []) (place way h next) t
  -- the transport
  identifies : {number : ℕ} {next : Plan} {old new : Tells} → Identified number old new
      → Step (idle (say (Line.Idcode idcode) next)) old [] (at_say (Line.Idcode number) next) new
  -- Looks
  looks : {h : ℕ} {s : Seen} (absent running halted : Plan) {old new : Tells} → LookMade h old new s
      → Step (idle (look h (by_state absent running halted))) old [] (behind_look s h absent running halted) new
  -- run control
  halts : {h : ℕ} (next : Plan) {old new : Tells} → HaltMade h old new → Step (idle (halting h next)) old [] (still h next) new
  resumes : {h : ℕ} (next : Plan) {old new : Tells} → ResumeMade h old new → Step (ready h (going h next)) old [] (idle next) new
  steps_over : {h : ℕ} (stepped other : Plan) {old new : Tells} → StepOverMade h old new
      → Step (still h (one h stepped other)) old [] (still h (behind_step h stepped other)) new
  finds_step : {h word : ℕ} (stepped other : Plan) {old new : Tells} → Got h dcsr_number word old new → shows_step word ≡ true
      → Step (still h (behind_step h stepped other)) old [] (ready h stepped) new
  finds_other : {h word : ℕ} (stepped other : Plan) {old new : Tells} → Got h dcsr_number word old new → shows_step word ≡ false
      → Step (still h (behind_step h stepped other)) old [] (still h other) new
  -- behind a whole step no slot has a hit, so that none is visited; behind any other stop some may
  finds_none_hit : {h word : ℕ} {p : Plan} {old new : Tells} → Got h dcsr_number word old new → shows_step word ≡ true
      → Step (still h p) old [] (ready h p) new
  -- so it is where that is known, and not read again
  knows_none_hit : {h : ℕ} {p : Plan} {t : Tells} → IsWhole h t.far → Step (still h p) t [] (ready h p) t
  finds_maybe_hit : {h word : ℕ} {p : Plan} {old new : Tells} → Got h dcsr_number word old new → shows_step word ≡ false
      → Step (still h p) old [] (still h p) new
  steps : {h : ℕ} (stepped other : Plan) {old new : Tells} → StepMade h old new
      → Step (ready h (one h stepped other)) old [] (still h (behind_step h stepped other)) new
  -- dcsr was read in front of it, and the step is from its word on
  steps_from : {h word : ℕ} (stepped other : Plan) {before old new : Tells} → Got h dcsr_number word before old → StepFromMade h word old new
      → Step (ready h (one h stepped other)) old [] (still h (behind_step h stepped other)) new
  holds_none : {h : ℕ} (held free : Plan) {t : Tells} → Step (ready h (see (λ b. if any_hit (slots_at h b) then held else free))) t [] (ready h free) t
  ends_either_way : {h : ℕ} {p : Plan} {t : Tells} → Step (still h (behind_step h p p)) t [] (still h p) t
  views_hits : {h : ℕ} {view : SlotView} (held free : Plan) {old new : Tells} → Viewed h view old new → any_in view ≡ true
      → Step (still h (see (λ b. if any_hit (slots_at h b) then held else free))) old [] (still h held) new
  views_none : {h : ℕ} {view : SlotView} (held free : Plan) {old new : Tells} → Viewed h view old new → any_in view ≡ false
      → Step (still h (see (λ b. if any_hit (slots_at h b) then held else free))) old [] (ready h free) new
  stands : {h pc cause : ℕ} (next : Plan) {old new : Tells} → FoundStop h pc cause old new → cause ≢ trigger_cause
      → Step (still h (stop_line h next)) old [] (still h (say (Line.Halted pc cause []) next)) new
  stands_by_trigger : {h pc : ℕ} {view : SlotView} (next : Plan) {old mid new : Tells} → FoundStop h pc trigger_cause old mid → Viewed h view mid new
      → Step (still h (stop_line h next)) old [] (still h (say (Line.Halted pc trigger_cause (hits_in view.hits)) next)) new
  -- registers
  reads : {h number value : ℕ} (next : ℕ → Plan) {old new : Tells} → Got h number value old new → IsOfCores number
      → Step (still h (see (λ b. next (value_here (slice_get b.harts h) number)))) old [] (still h (next value)) new
  reads_next : {h number value : ℕ} (numbers : List ℕ) (next : Plan) {old new : Tells} → Got h number value old new → IsOfCores number
      → Step (still h (see (λ b. saying (map (register_line h b) (number ∷ numbers)) next))) old []
      (still h (say (Line.Register number value) (see (λ b. saying (map (register_line h b) numbers) next)))) new
  reads_none : {h number : ℕ} (next : Plan) {old new : Tells} → GotNone h number old new → IsOfCores number
      → Step (still h (see (λ b. say (register_line h b number) next))) old [] (spot true Still h (say (Line.RegisterRefused number) next)) new
  -- mip, by the access that the plan takes there
  reads_pending : {h value : ℕ} (next : Plan) {old new : Tells} → GotPending h value old new
      → Step (still h (showing_mip h next)) old [] (still h (say (Line.Register mip_number value) next)) new
  reads_no_pending : {h : ℕ} (next : Plan) {old new : Tells} → PendingNone h old new
      → Step (still h (showing_mip h next)) old [] (spot true Still h (say (Line.RegisterRefused mip_number) next)) new
  writes : {h number value : ℕ} (refused next : Plan) {old new : Tells} → Gave h number value old new → IsOfCores number → number ≢ pc_number
      → Step (still h (if csr_read_only number then refused else change (WriteReg h number value) next)) old [] (still h next) new
  writes_pc : {h value : ℕ} (refused next : Plan) {old mid new : Tells} → Gave h pc_number value old mid → HitsForgotten h mid new
      → Step (still h (if csr_read_only pc_number then refused else change (WriteReg h pc_number value) next)) old [] (still h next) new
  writes_none : {h number value : ℕ} (refused written : Plan) {old new : Tells} → GaveNone h number value old new → IsOfCores number
      → Step (still h (if csr_read_only number then refused else written)) old [] (spot (says_refused number refused) Still h refused) new
  sets_ebreakm : {h word : ℕ} {on : Bool} (next : Plan) {old mid new : Tells} → Got h dcsr_number word old mid
      → Gave h dcsr_number (with_ebreakm on word) mid new
      → Step (still h (change (EbreakHalts h on) next)) old [] (still h next) new
  -- slots
  shows_slots : {h : ℕ} {view : SlotView} (next : Plan) {old new : Tells} → Viewed h view old new
      → Step (still h (see (λ b. saying (slots_shown_at h b) next))) old [] (still h (saying (lines_of_view view) next)) new
  arms : {h slot : ℕ} {meant : SlotUse} (what : What) (next : Plan) {old new : Tells} → SlotTaken h meant slot old new
      → use_named meant ≡ Armed what → CanArm what
      → Step (still h (arming h what next)) old [] (still h (say (Line.Slot slot (Armed what) false) next)) new
  arms_none : {h : ℕ} {meant : SlotUse} (what : What) (next : Plan) {old new : Tells} → NoneFree h meant old new
      → Step (still h (arming h what next)) old [] (still h (say Line.NoFreeSlot next)) new
  frees : {h slot : ℕ} (next : Plan) {old new : Tells} → SlotFreed h slot old new
      → Step (still h (freeing h slot next)) old [] (still h (say (Line.Slot slot Unused false) next)) new
  frees_none : {h slot : ℕ} (next : Plan) {old new : Tells} → NotUsed h slot old new
      → Step (still h (freeing h slot next)) old [] (still h (say (Line.SlotNotInUse slot) next)) new
  -- memory: one call for a whole block, of the path that the plan takes at each element, and the lines of all its elements
  loads_block : {path : Path} {way : Way} {h address : ℕ} {size : Size} {values : List ℕ} {said : List Line} {from to : Plan} {old new : Tells}
      → Loads path size address from values said to → BlockLoaded path way h size address values old new
      → Step (place way h from) old said (place way h to) new
  loads_block_none : {path : Path} {way : Way} {h address : ℕ} {size : Size} {values : List ℕ} {said : List Line} {from faulted : Plan} (read : ℕ → Plan)
      {old new : Tells} → Loads path size address from values said (loading path size (element_at size address (length values)) faulted read)
      → BlockLoadedNone path way h size address values old new
      → Step (place way h from) old said (place way h faulted) new
  stores_block : {path : Path} {way : Way} {h address : ℕ} {size : Size} {values : List ℕ} {from to : Plan} {old new : Tells}
      → Stores path size address values from to → BlockStored path way h size address values old new
      → Step (place way h from) old [] (place way h to) new
  stores_block_none : {path : Path} {way : Way} {h address done : ℕ} {size : Size} {values : List ℕ} {from faulted : Plan} (stored : Plan)
      {old new : Tells} → done < length values
      → Stores path size address (take done values) from (storing path size (element_at size address done) (value_at values done) faulted stored)
      → BlockStoredNone path way h size address values done old new
      → Step (place way h from) old [] (place way h faulted) new
