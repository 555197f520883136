-- Each step of a session over a told chip.
use Rattle.std.proofs.Common.{◌≡◌, ◌∙◌, ◌++◌, ℕ, Bool, true, false, List, [], ◌∷◌, map, Option, Some, None, IfSome, slice_get, refl, sym, ap, subst}
use Rattle.std.proofs.Common.{append_assoc, append-nil, if◌then◌else◌}
use Rattle.std.proofs.lemmas.Option.{none-some, same_Some}
use Rattle.rv_model.specs.Board.{Hart, Machine}
use Rattle.rv_model.specs.Dcsr.{shown_cause}
use Rattle.rv_model.specs.DebugRegisters.{dcsr_number, debug_refuses, debug_value, debug_written}
use Rattle.rv_model.specs.Registers.{csr_read_only, mip_number, pc_number}
use Rattle.debug_model.specs.Dmi.{NoneOperated}
use Rattle.debug_model.specs.Scan.{WhereTold}
use Rattle.debug_model.specs.Module.{Site}
use Rattle.debug_model.specs.Tap.{idcode}
use Rattle.debug_model.specs.Told.{Far, IsReady, site_of}
use Rattle.abstract_debugger.specs.Debugger.{arming, freeing, going, halting, one, register_line, saying, showing_mip, stop_line}
use Rattle.abstract_debugger.specs.Lines.{Line}
use Rattle.abstract_debugger.specs.Plan.{Plan}
use Rattle.abstract_debugger.specs.Plan.Change.{EbreakHalts, WriteReg}
use Rattle.abstract_debugger.specs.Plan.Plan.{change, say, see}
use Rattle.abstract_debugger.specs.Slots.Use.{Armed, Unused}
use Rattle.abstract_debugger.specs.Stands.{At, Deals, Origin, Target, WentOn}
use Rattle.abstract_debugger.specs.Ways.{Way}
use Rattle.abstract_debugger.specs.Ways.Way.{Idle, Ready, Still}
use Rattle.abstract_debugger.proofs.DealsLemmas.{deals_at_plan, deals_put, deals_rests, deals_selects, deals_unspent, deals_went_on}
use Rattle.abstract_debugger.proofs.StandsLemmas.{seen}
use Rattle.abstract_debugger.specs.SlotUses.{hits_in}
use Rattle.probe_access.specs.Registers.{RegisterRefusedAt, RegisterReadAt, RegisterWrittenAt, TurnsPassed, TurnsPassedBut}
use Rattle.probe_access.specs.Pending.{PendingReadAt}
use Rattle.probe_access.specs.Stops.{StoppedAt}
use Rattle.probe_run.specs.Acts.{Tells}
use Rattle.probe_run.specs.Happens.{HaltsAt, Leaves, ResumesAt, LooksAt, target_of}
use Rattle.probe_run.specs.Sites.{TurnsAlone}
use Rattle.probe_run.proofs.SiteLemmas.{quiet_deeds}
use Rattle.probe_trig.specs.declared.slot_view.SlotView.{SlotView}
use Rattle.probe_trig.specs.Slots.{ArmedAt, AtHarts, ForgotAt, FreedAt, FullAt, UnusedAt, ViewedAt}
use Rattle.probe_trig.specs.Stepping.{OverAt}
use Rattle.probe_trig.proofs.Ends.{shows_as_step}
use Rattle.probe_session.specs.Goes.{Goes}
use Rattle.probe_session.specs.Goes.Goes.{start, step}
use Rattle.probe_session.specs.Led.{DealsAt, GoesLead, Leads, target_at}
use Rattle.probe_session.specs.Places.{Place, ready}
use Rattle.probe_session.specs.Steps.{Step, behind_look, behind_step, lines_of_view, trigger_cause, with_ebreakm}
use Rattle.probe_session.proofs.BlockSteps.{block_loaded_at, block_loaded_none_at, block_stored_at, block_stored_none_at}
use Rattle.probe_session.proofs.Tolds.{at_far, halt_deals, look_deals, other_found_deals, over_deals, resume_deals, step_found_deals}
use Rattle.probe_session.proofs.Tolds.{stop_deals, stop_trigger_deals, told_case, went_by}
use Rattle.probe_session.proofs.ToldWrites.{armed_deals, ebreak_deals, freed_deals, full_deals, hits_deals}
use Rattle.probe_session.proofs.ToldWrites.{never_refused, no_hits_deals, pending_deals, pending_never_refused, read_deals, read_next_deals, slots_deals}
use Rattle.probe_session.proofs.Unhit.{either_way_deals, holds_none_deals, made_over, made_over_from, none_hit_deals, still_at}
use Rattle.probe_session.proofs.Whole.{whole_ready}
use Rattle.probe_session.proofs.ToldWrites.{unused_deals, write_deals, write_pc_deals, write_refused_deals}

-- lines that grow by none
none_said : (m : Machine) (o : Origin) (p : Place) (lines : List Line) (far : Option Far) → DealsAt m o p lines far → DealsAt m o p (lines ++ []) far
none_said m o p lines far d = subst (λ l. DealsAt m o p l far) (sym (append-nil lines)) d

-- a step without a call
kept : (m m' : Machine) (way way' : Way) (sel sel' : ℕ) (o : Origin) (p q : Plan) (lines lines' : List Line) (told : Option Target)
    → ((t : Target) → Deals m sel way o p lines t → Deals m' sel' way' o q lines' t) → At m sel way o p lines told → At m' sel' way' o q lines' told
kept m m' way way' sel sel' o p q lines lines' told f a = record { target = a.target; is = a.is; holds = f a.target a.holds }

-- a call that left this at the harts
left_so : (R : Target → Target → Type 0) (h : ℕ) (m : Machine) (sel sel' : ℕ) (way way' : Way) (o : Origin) (p q : Plan) (lines : List Line)
    (old new : Option Far)
    → ((s t : Target) → R s t → Deals m sel way o p lines s → Deals m sel' way' o q lines t) → WhereTold (Leaves R h) old new
    → At m sel way o p lines (target_at old) → At m sel' way' o q lines (target_at new)
left_so R h m sel sel' way way' o p q lines old new f w a =
    told_case (Leaves R h) m sel way o p lines (λ n. At m sel' way' o q lines (target_at n)) old new
    (λ c d l. at_far m sel' way' o q lines l.far _ l.is (f (target_of (site_of c)) (target_of (site_of l.far)) l.happened d)) w a

at_harts_so : (R : Target → Target → Type 0) (m : Machine) (sel sel' : ℕ) (way way' : Way) (o : Origin) (p q : Plan) (lines : List Line) (old new : Option Far)
    → ((s t : Target) → R s t → Deals m sel way o p lines s → Deals m sel' way' o q lines t) → WhereTold (AtHarts R) old new
    → At m sel way o p lines (target_at old) → At m sel' way' o q lines (target_at new)
at_harts_so R m sel sel' way way' o p q lines old new f w a =
    told_case (AtHarts R) m sel way o p lines (λ n. At m sel' way' o q lines (target_at n)) old new
    (λ c d l. at_far m sel' way' o q lines l.far _ l.is (f (target_of (site_of c)) (target_of (site_of l.far)) l.happened d)) w a

-- ---- the transport

identified : (number : ℕ) (m : Machine) (o : Origin) (next : Plan) (lines : List Line) (old new : Option Far) → IfSome old (λ _. number ≡ idcode) → IsReady old
    → WhereTold NoneOperated old new
    → At m 0 Idle o (say (Line.Idcode idcode) next) lines (target_at old) → At m 0 Idle o (say (Line.Idcode number) next) lines (target_at new)
identified number m o next lines None new is ready none a = absurd (none-some a.target a.is)
identified number m o next lines (Some f) new is ready none a =
    let turns_alone : TurnsAlone (site_of f) (site_of none.far) = quiet_deeds (site_of f) (site_of none.far)
    (record { no_command = ready.unit.commands.idle; no_access = ready.unit.bus.idle }) none.site in
    let went : WentOn (target_of (site_of f)) (target_of (site_of none.far)) =
    record { harts = turns_alone.harts; board = ap (λ (s : Site). s.board) turns_alone.is; journal = ap (λ (s : Site). s.journal) turns_alone.is } in
    at_far m 0 Idle o (say (Line.Idcode number) next) lines none.far new none.is
    (deals_at_plan m 0 Idle o _ _ lines (target_of (site_of none.far)) (ap (λ n. say (Line.Idcode n) next) (sym is))
    (deals_went_on m 0 Idle o (say (Line.Idcode idcode) next) lines (target_of (site_of f)) (target_of (site_of none.far))
    (subst (λ t. Deals m 0 Idle o (say (Line.Idcode idcode) next) lines t) (sym (same_Some (target_of (site_of f)) a.target a.is)) a.holds) went))

-- ---- two calls

shown_hits : (h pc : ℕ) (view : SlotView) (m : Machine) (o : Origin) (next : Plan) (lines : List Line) (c f : Far) (new : Option Far) (x : Hart)
    → slice_get (site_of c).board.harts h ≡ Some x → pc ≡ x.core.pc → trigger_cause ≡ shown_cause x.debug.halted
    → TurnsPassed (site_of c) (site_of f) → AtHarts (ViewedAt view h) f.live.chip new → Deals m h Still o (stop_line h next) lines (target_of (site_of c))
    → At m h Still o (say (Line.Halted pc trigger_cause (hits_in view.hits)) next) lines (target_at new)
shown_hits h pc view m o next lines c f new x here pc_is cause_is passed v d =
    at_far m h Still o _ lines v.far new v.is
    (stop_trigger_deals m h pc trigger_cause (hits_in view.hits) o next lines (site_of c) (site_of f) (target_of (site_of v.far)) x here pc_is cause_is refl
    passed v.happened.shows.hits_are v.happened.went d)

hits_gone : (h v : ℕ) (refused next : Plan) (m : Machine) (o : Origin) (lines : List Line) (c f : Far) (new : Option Far) (x : Hart)
    → slice_get (site_of c).board.harts h ≡ Some x → debug_refuses pc_number ≡ false
    → TurnsPassedBut h (debug_written x pc_number v) (site_of c) (site_of f) → AtHarts (ForgotAt h) f.live.chip new
    → Deals m h Still o (if csr_read_only pc_number then refused else change (WriteReg h pc_number v) next) lines (target_of (site_of c))
    → At m h Still o next lines (target_at new)
hits_gone h v refused next m o lines c f new x here takes passed g d =
    at_far m h Still o next lines g.far new g.is (write_pc_deals m h v o refused next lines (site_of c) (site_of f) (target_of (site_of g.far)) x here takes
    passed g.happened d)

ebreak_given : (h word : ℕ) (on : Bool) (next : Plan) (m : Machine) (o : Origin) (lines : List Line) (c f : Far) (new : Option Far) (x : Hart)
    → slice_get (site_of c).board.harts h ≡ Some x → debug_value x dcsr_number ≡ Some word
    → TurnsPassed (site_of c) (site_of f) → RegisterWrittenAt h dcsr_number (with_ebreakm on word) f.live.chip new
    → Deals m h Still o (change (EbreakHalts h on) next) lines (target_of (site_of c)) → At m h Still o next lines (target_at new)
ebreak_given h word on next m o lines c f new x here is passed g d =
    at_far m h Still o next lines g.far new g.is (ebreak_deals m h word on o next lines (site_of c) (site_of f) (site_of g.far) x g.hart here is
    passed g.here g.passed d)

-- ---- the steps

step_leads : (from to : Place) (old new : Tells) (said : List Line) → Step from old said to new → Leads from old said to new
step_leads from to old new said (Step.same {way} {h} {p} {q} {t} is) m o lines a =
    none_said m o to lines new.far (kept m m way way h h o p q lines lines (target_at t.far) (λ x d. deals_at_plan m h way o p q lines x is d) a)
step_leads from to old new said (Step.rests {heard} {h} {p} {t}) m o lines a =
    none_said m o to lines new.far (kept m m Still Idle h 0 o p p lines lines (target_at t.far)
    (λ x d. deals_selects m h 0 o p lines x (deals_rests m h o p lines x d)) a)
step_leads from to old new said (Step.unspent {h} {p} {t}) m o lines a =
    none_said m o to lines new.far (kept m m Ready Still h h o p p lines lines (target_at t.far) (λ x d. deals_unspent m h o p lines x d) a)
step_leads from to old new said (Step.says {heard} {way} {h} {line} {next} {t} may) m o lines a =
    kept m m way way h h o (say line next) next lines (lines ++ line ∷ []) (target_at t.far) (λ x d. deals_put m h way o line next lines x d) a
step_leads from to old new said (Step.looks {h} {s} absent running halted saw) m o lines a =
    none_said m o to lines new.far (left_so (LooksAt h s) h m 0 (behind_look s h absent running halted).hart Idle (behind_look s h absent running halted).way o
    _ (behind_look s h absent running halted).plan lines old.far new.far
    (λ x y l d. look_deals s m h o absent running halted lines x y l d) saw.told a)
step_leads from to old new said (Step.halts {h} next made) m o lines a =
    none_said m o to lines new.far (left_so (HaltsAt h) h m 0 h Idle Still o (halting h next) next lines old.far new.far
    (λ x y l d. halt_deals m h o next lines x y l d) made.told a)
step_leads from to old new said (Step.resumes {h} next made) m o lines a =
    none_said m o to lines new.far (left_so (ResumesAt h) h m h 0 Ready Idle o (going h next) next lines old.far new.far
    (λ x y l d. resume_deals m h o next lines x y l d) made.told a)
step_leads from to old new said (Step.steps_over {h} stepped other made) m o lines a =
    none_said m o to lines new.far (at_harts_so (OverAt h) m h h Still Still o (one h stepped other) (behind_step h stepped other) lines old.far new.far
    (λ x y l d. over_deals m h o stepped other lines x y l d) made.told a)
step_leads from to old new said (Step.overlooks {way} {h} {p} {t}) m o lines a =
    none_said m o to lines new.far (kept m m way way h h o (see (λ _. p)) p lines lines (target_at t.far)
    (λ x d. record { stands = seen o (λ _. p) lines x d.stands; knows = d.knows }) a)
step_leads from to old new said (Step.identifies {number} {next} id) m o lines a =
    none_said m o to lines new.far (identified number m o next lines old.far new.far id.number_is id.ready id.told a)
step_leads from to old new said (Step.finds_step {h} {word} stepped other got whole) m o lines a =
    none_said m o to lines new.far (told_case (RegisterReadAt h dcsr_number word) m h Still o (behind_step h stepped other) lines
    (λ n. At m h Ready o stepped lines (target_at n)) old.far new.far
    (λ c d l. at_far m h Ready o stepped lines l.far _ l.is (step_found_deals m h o stepped other lines (site_of c) (site_of l.far) l.hart l.here
    (sym (shows_as_step word l.hart l.value_is) ∙ whole) l.passed d)) got.told a)
step_leads from to old new said (Step.finds_other {h} {word} stepped other got not_step) m o lines a =
    none_said m o to lines new.far (told_case (RegisterReadAt h dcsr_number word) m h Still o (behind_step h stepped other) lines
    (λ n. At m h Still o other lines (target_at n)) old.far new.far
    (λ c d l. at_far m h Still o other lines l.far _ l.is (other_found_deals m h o stepped other lines (site_of c) (site_of l.far) l.hart l.here
    (sym (shows_as_step word l.hart l.value_is) ∙ not_step) l.passed d)) got.told a)
step_leads from to old new said (Step.finds_none_hit {h} {word} {p} got whole) m o lines a =
    none_said m o to lines new.far (told_case (RegisterReadAt h dcsr_number word) m h Still o p lines
    (λ n. At m h Ready o p lines (target_at n)) old.far new.far
    (λ c d l. at_far m h Ready o p lines l.far _ l.is (none_hit_deals m h o p lines (site_of c) (site_of l.far) l.hart l.here
    (sym (shows_as_step word l.hart l.value_is) ∙ whole) l.passed d)) got.told a)
step_leads from to old new said (Step.knows_none_hit {h} {p} {t} whole) m o lines a =
    none_said m o to lines new.far (whole_ready m h o p lines old.far whole a)
step_leads from to old new said (Step.finds_maybe_hit {h} {word} {p} got not_step) m o lines a =
    none_said m o to lines new.far (told_case (RegisterReadAt h dcsr_number word) m h Still o p lines
    (λ n. At m h Still o p lines (target_at n)) old.far new.far
    (λ c d l. at_far m h Still o p lines l.far _ l.is (deals_went_on m h Still o p lines (target_of (site_of c)) (target_of (site_of l.far)) d
    (went_by (site_of c) (site_of l.far) l.passed))) got.told a)
step_leads from to old new said (Step.steps {h} stepped other made) m o lines a =
    none_said m o to lines new.far (at_harts_so (OverAt h) m h h Still Still o (one h stepped other) (behind_step h stepped other) lines old.far new.far
    (λ x y l d. over_deals m h o stepped other lines x y l d) (made_over m h o (one h stepped other) lines old new made a)
    (still_at m h o (one h stepped other) lines (target_at old.far) a))
step_leads from to old new said (Step.steps_from {h} {word} stepped other got made) m o lines a =
    none_said m o to lines new.far (at_harts_so (OverAt h) m h h Still Still o (one h stepped other) (behind_step h stepped other) lines old.far new.far
    (λ x y l d. over_deals m h o stepped other lines x y l d) (made_over_from m h word o (one h stepped other) lines old new made a)
    (still_at m h o (one h stepped other) lines (target_at old.far) a))
step_leads from to old new said (Step.holds_none {h} held free {t}) m o lines a =
    none_said m o to lines new.far (kept m m Ready Ready h h o _ free lines lines (target_at t.far) (λ x d. holds_none_deals m h o held free lines x d) a)
step_leads from to old new said (Step.ends_either_way {h} {p} {t}) m o lines a =
    none_said m o to lines new.far (kept m m Still Still h h o (behind_step h p p) p lines lines (target_at t.far)
    (λ x d. either_way_deals m h o p lines x d) a)
step_leads from to old new said (Step.views_hits {h} {view} held free viewed any) m o lines a =
    none_said m o to lines new.far (at_harts_so (ViewedAt view h) m h h Still Still o _ held lines old.far new.far
    (λ x y l d. hits_deals m h view o held free lines x y any l d) viewed.told a)
step_leads from to old new said (Step.views_none {h} {view} held free viewed none) m o lines a =
    none_said m o to lines new.far (at_harts_so (ViewedAt view h) m h h Still Ready o _ free lines old.far new.far
    (λ x y l d. no_hits_deals m h view o held free lines x y none l d) viewed.told a)
step_leads from to old new said (Step.stands {h} {pc} {cause} next found other) m o lines a =
    none_said m o to lines new.far (told_case (StoppedAt h pc cause) m h Still o (stop_line h next) lines
    (λ n. At m h Still o (say (Line.Halted pc cause []) next) lines (target_at n)) old.far new.far
    (λ c d l. at_far m h Still o _ lines l.far _ l.is (stop_deals m h pc cause o next lines (site_of c) (site_of l.far) l.hart l.here l.pc_is l.cause_is other
    l.passed d)) found.told a)
step_leads from to old new said (Step.stands_by_trigger {h} {pc} {view} next {mid = mid} found viewed) m o lines a =
    none_said m o to lines new.far (told_case (StoppedAt h pc trigger_cause) m h Still o (stop_line h next) lines
    (λ n. At m h Still o (say (Line.Halted pc trigger_cause (hits_in view.hits)) next) lines (target_at new.far)) old.far mid.far
    (λ c d l. shown_hits h pc view m o next lines c l.far new.far l.hart l.here l.pc_is l.cause_is l.passed
    (subst (λ x. WhereTold (AtHarts (ViewedAt view h)) x new.far) l.is viewed.told) d) found.told a)
step_leads from to old new said (Step.reads {h} {number} {value} next got of) m o lines a =
    none_said m o to lines new.far (told_case (RegisterReadAt h number value) m h Still o _ lines
    (λ n. At m h Still o (next value) lines (target_at n)) old.far new.far
    (λ c d l. at_far m h Still o (next value) lines l.far _ l.is (read_deals m h number value o next lines (site_of c) (site_of l.far) l.hart of l.here
    l.value_is l.passed d)) got.told a)
step_leads from to old new said (Step.reads_next {h} {number} {value} numbers next got of) m o lines a =
    none_said m o to lines new.far (told_case (RegisterReadAt h number value) m h Still o _ lines
    (λ n. At m h Still o (say (Line.Register number value) (see (λ b. saying (map (register_line h b) numbers) next))) lines (target_at n)) old.far new.far
    (λ c d l. at_far m h Still o _ lines l.far _ l.is (read_next_deals m h number value numbers o next lines (site_of c) (site_of l.far) l.hart of l.here
    l.value_is l.passed d)) got.told a)
step_leads from to old new said (Step.reads_none {h} {number} next none of) m o lines a =
    none_said m o to lines new.far (told_case (RegisterRefusedAt false h number) m h Still o _ lines
    (λ n. At m h Still o (say (Line.RegisterRefused number) next) lines (target_at n)) old.far new.far
    (λ c d l. absurd (never_refused number l.hart of l.denied)) none.told a)
step_leads from to old new said (Step.reads_pending {h} {value} next got) m o lines a =
    none_said m o to lines new.far (told_case (PendingReadAt h value) m h Still o (showing_mip h next) lines
    (λ n. At m h Still o (say (Line.Register mip_number value) next) lines (target_at n)) old.far new.far
    (λ c d l. at_far m h Still o _ lines l.far _ l.is (pending_deals m h value o next lines l.before l.behind (site_of c) (site_of l.far) l.hart l.here
    l.value_is (record { board = l.access.board; journal = l.access.journal }) d)) got.told a)
step_leads from to old new said (Step.reads_no_pending {h} next none) m o lines a =
    none_said m o to lines new.far (told_case (RegisterRefusedAt false h mip_number) m h Still o (showing_mip h next) lines
    (λ n. At m h Still o (say (Line.RegisterRefused mip_number) next) lines (target_at n)) old.far new.far
    (λ c d l. absurd (pending_never_refused l.hart l.denied)) none.told a)
step_leads from to old new said (Step.writes {h} {number} {value} refused next gave of other) m o lines a =
    none_said m o to lines new.far (told_case (RegisterWrittenAt h number value) m h Still o _ lines
    (λ n. At m h Still o next lines (target_at n)) old.far new.far
    (λ c d l. at_far m h Still o next lines l.far _ l.is (write_deals m h number value o refused next lines (site_of c) (site_of l.far) l.hart of other l.here
    l.writable l.passed d)) gave.told a)
step_leads from to old new said (Step.writes_pc {h} {value} refused next {mid = mid} gave forgot) m o lines a =
    none_said m o to lines new.far (told_case (RegisterWrittenAt h pc_number value) m h Still o _ lines
    (λ n. At m h Still o next lines (target_at new.far)) old.far mid.far
    (λ c d l. hits_gone h value refused next m o lines c l.far new.far l.hart l.here l.writable l.passed
    (subst (λ x. WhereTold (AtHarts (ForgotAt h)) x new.far) l.is forgot.told) d) gave.told a)
step_leads from to old new said (Step.writes_none {h} {number} {value} refused written none of) m o lines a =
    none_said m o to lines new.far (told_case (RegisterRefusedAt true h number) m h Still o _ lines
    (λ n. At m h Still o refused lines (target_at n)) old.far new.far
    (λ c d l. at_far m h Still o refused lines l.far _ l.is (write_refused_deals m h number o refused written lines (site_of c) (site_of l.far) l.hart of
    l.denied l.passed d)) none.told a)
step_leads from to old new said (Step.sets_ebreakm {h} {word} {on} next {mid = mid} got gave) m o lines a =
    none_said m o to lines new.far (told_case (RegisterReadAt h dcsr_number word) m h Still o _ lines
    (λ n. At m h Still o next lines (target_at new.far)) old.far mid.far
    (λ c d l. ebreak_given h word on next m o lines c l.far new.far l.hart l.here l.value_is l.passed
    (subst (λ x. WhereTold (RegisterWrittenAt h dcsr_number (with_ebreakm on word)) x new.far) l.is gave.told) d) got.told a)
step_leads from to old new said (Step.shows_slots {h} {view} next viewed) m o lines a =
    none_said m o to lines new.far (at_harts_so (ViewedAt view h) m h h Still Still o _ (saying (lines_of_view view) next) lines old.far new.far
    (λ x y l d. slots_deals m h view o next lines x y l d) viewed.told a)
step_leads from to old new said (Step.arms {h} {slot} {meant} what next taken is can) m o lines a =
    none_said m o to lines new.far (at_harts_so (ArmedAt meant slot h) m h h Still Still o (arming h what next) (say (Line.Slot slot (Armed what) false) next)
    lines old.far new.far
    (λ x y l d. armed_deals m h slot meant what o next lines x y is can l d) taken.told a)
step_leads from to old new said (Step.arms_none {h} {meant} what next none) m o lines a =
    none_said m o to lines new.far (at_harts_so (FullAt h) m h h Still Still o (arming h what next) (say Line.NoFreeSlot next) lines old.far new.far
    (λ x y l d. full_deals m h what o next lines x y l d) none.told a)
step_leads from to old new said (Step.frees {h} {slot} next freed) m o lines a =
    none_said m o to lines new.far (at_harts_so (FreedAt slot h) m h h Still Still o (freeing h slot next) (say (Line.Slot slot Unused false) next) lines
    old.far new.far (λ x y l d. freed_deals m h slot o next lines x y l d) freed.told a)
step_leads from to old new said (Step.frees_none {h} {slot} next none) m o lines a =
    none_said m o to lines new.far (at_harts_so (UnusedAt slot h) m h h Still Still o (freeing h slot next) (say (Line.SlotNotInUse slot) next) lines old.far
    new.far (λ x y l d. unused_deals m h slot o next lines x y l d) none.told a)
step_leads from to old new said (Step.loads_block {way = way} {h} {address} {size} {values} {said = s} {from = p} {to = q} loads l) m o lines a =
    block_loaded_at m h way size address o p q values s lines old new loads l a
step_leads from to old new said (Step.loads_block_none {way = way} {h} {address} {size} {values} {said = s} {from = p} {faulted} read loads l) m o lines a =
    block_loaded_none_at m h way size address o p faulted read values s lines old new loads l a
step_leads from to old new said (Step.stores_block {way = way} {h} {address} {size} {values} {from = p} {to = q} stores l) m o lines a =
    none_said m o to lines new.far (block_stored_at m h way size address values o p q lines old new stores l a)
step_leads from to old new said (Step.stores_block_none {way = way} {h} {address} {done} {size} {values} {from = p} {faulted} stored below stores l) m o
    lines a =
    none_said m o to lines new.far (block_stored_none_at m h way size address values done o p faulted stored lines old new below stores l a)

walked : (from : Place) (old : Tells) (said : List Line) (to : Place) (new : Tells) → Goes from old said to new → Leads from old said to new
walked from old said to new start m o lines a = none_said m o from lines old.far a
walked from old said to new (step {said = s} {more = more} {mid = mid} {between = between} g st) m o lines a =
    subst (λ l. DealsAt m o to l new.far) (append_assoc lines s more) (step_leads mid to between new more st m o (lines ++ s)
    (walked from old s mid between g m o lines a))

pub goes_lead : GoesLead
goes_lead from to old new said g = walked from old said to new g
