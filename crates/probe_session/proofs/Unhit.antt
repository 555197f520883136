-- A halted hart none of whose slots has a hit, over a told chip: what is known of it, and a single step that leaves its slots alone.
use Rattle.std.proofs.Common.{◌≡◌, ◌∙◌, ℕ, suc, Bool, true, false, List, [], ◌∷◌, Option, Some, None, slice_get, refl, sym, ap, subst, if◌then◌else◌}
use Rattle.std.specs.List.{list_any}
use Rattle.std.specs.Prelude.{◌==◌, ◌||◌}
use Rattle.std.proofs.lemmas.Bool.{false≢true}
use Rattle.std.proofs.lemmas.Option.{same_Some, slice_get-map}
use Rattle.rv_model.specs.declared.slot.Slot.{Slot}
use Rattle.rv_model.specs.Board.{DebugPart, Hart, Machine}
use Rattle.debug_model.specs.Scan.{WhereTold}
use Rattle.debug_model.specs.Module.{Site}
use Rattle.debug_model.specs.Told.{Far, site_of}
use Rattle.abstract_debugger.specs.Debugger.{halted_of, one}
use Rattle.abstract_debugger.specs.FirstMatch.{has_here, story}
use Rattle.abstract_debugger.specs.Lines.{Line}
use Rattle.abstract_debugger.specs.Plan.{Plan, is_step}
use Rattle.abstract_debugger.specs.Plan.Plan.{see}
use Rattle.abstract_debugger.specs.Slots.{any_hit, hits_of, slots_at, slots_here, trigger_has_hit}
use Rattle.abstract_debugger.specs.Stands.{At, Deals, Origin, Target}
use Rattle.abstract_debugger.specs.Trace.{Past}
use Rattle.abstract_debugger.specs.Ways.{Fits}
use Rattle.abstract_debugger.specs.Ways.Way.{Idle, Ready, Still as StillWay}
use Rattle.abstract_debugger.proofs.DealsLemmas.{deals_at_plan, deals_frozen, deals_known, deals_seen, deals_unspent, deals_went_on, if_false}
use Rattle.abstract_debugger.proofs.KnownPoints.{known-stepped}
use Rattle.abstract_debugger.proofs.SlotLemmas.{slot-hit}
use Rattle.abstract_debugger.proofs.StandsLemmas.{shown}
use Rattle.abstract_debugger.proofs.StoryLemmas.{same_number}
use Rattle.probe_access.specs.Registers.{TurnsPassed}
use Rattle.probe_run.specs.Acts.{Tells}
use Rattle.probe_run.specs.Happens.{target_of}
use Rattle.probe_trig.specs.Slots.{AtHarts}
use Rattle.probe_trig.specs.Stepping.{OverAt}
use Rattle.probe_trig.proofs.Alone.{UnhitTold, alone_in_cut, alone_left, alone_made}
use Rattle.probe_trig.proofs.Clear.{IsUnhit, UnhitAt}
use Rattle.probe_session.specs.declared.fault.Failure.{Failure}
use Rattle.probe_session.specs.Calls.{StepFell, StepFromFell, StepFromMade, StepMade}
use Rattle.probe_session.specs.Led.{target_at}
use Rattle.probe_session.specs.Steps.{behind_step}
use Rattle.probe_session.specs.Transcribed.{Still}
use Rattle.probe_session.proofs.BrokeOff.{LeftAs}
use Rattle.probe_session.proofs.OverFaults.{over_by}
use Rattle.probe_session.proofs.Tolds.{went_by}

-- ---- what is known

-- behind a whole step
pub none_hit_now : (m : Machine) (h : ℕ) (o : Origin) (p : Plan) (lines : List Line) (t : Target) (x : Hart) → slice_get t.board.harts h ≡ Some x
    → is_step x.debug.halted ≡ true → Deals m h StillWay o p lines t → Deals m h Ready o p lines t
none_hit_now m h o p lines t x here is d =
    let same : slice_get t.board.harts h ≡ slice_get d.stands.world.board.harts h = shown o h p lines t d.stands (deals_frozen m h StillWay o p lines t tt d) in
    deals_known m h StillWay Ready o p lines t d
    (known-stepped m h d.stands.world (λ y at. ap (λ (z : Hart). is_step z.debug.halted) (same_Some y x (sym at ∙ sym same ∙ here)) ∙ is))

pub none_hit_deals : (m : Machine) (h : ℕ) (o : Origin) (p : Plan) (lines : List Line) (s t : Site) (x : Hart)
    → slice_get s.board.harts h ≡ Some x → is_step x.debug.halted ≡ true → TurnsPassed s t
    → Deals m h StillWay o p lines (target_of s) → Deals m h Ready o p lines (target_of t)
none_hit_deals m h o p lines s t x here is passed d =
    deals_went_on m h Ready o p lines (target_of s) (target_of t) (none_hit_now m h o p lines (target_of s) x here is d) (went_by s t passed)

none_any : (xs : List Bool) → ((k : ℕ) → has_here (slice_get xs k) ≡ false) → list_any (λ b. b) xs ≡ false
none_any [] none = refl
none_any (x ∷ xs) none = ap (λ b. b || list_any (λ c. c) xs) (none 0) ∙ none_any xs (λ k. none (suc k))

unhit_slots : (h : ℕ) (past : Past) (d : DebugPart) → Fits Ready h past d → any_hit d.slots ≡ false
unhit_slots h past d f = none_any (hits_of d.slots) (λ k.
    ap has_here (slice_get-map (λ (s : Slot). trigger_has_hit s.trigger) d.slots k)
    ∙ slot-hit (slice_get d.slots k) (story h k past).armed true (story h k past).spent (story h k past).execs (story h k past).stopped (f.rests.slots_are k)
    ∙ f.none k)

unhit_by : (h : ℕ) (past : Past) (d : DebugPart) → Fits Ready h past d → IsUnhit d
unhit_by h past d f =
    record { frozen = record { why = f.rests.why; halted = f.rests.is_halted; not_asked = f.rests.not_asked }; none = unhit_slots h past d f }

known_unhit : (m : Machine) (h : ℕ) (past : Past) (hs : List Hart) (b : Bool) (x : Hart) → b ≡ true
    → Fits (if b then Ready else Idle) h past x.debug → IsUnhit x.debug
known_unhit m h past hs true x e f = unhit_by h past x.debug f
known_unhit m h past hs false x e f = absurd (false≢true e)

pub unhit_at : (m : Machine) (h : ℕ) (o : Origin) (p : Plan) (lines : List Line) (t : Target) → Deals m h Ready o p lines t → UnhitAt h t.board
unhit_at m h o p lines t d x is =
    let there : slice_get d.stands.world.board.harts h ≡ Some x = sym (shown o h p lines t d.stands (deals_frozen m h Ready o p lines t tt d)) ∙ is in
    known_unhit m h d.stands.world.past d.stands.world.board.harts (h == h) x (same_number h) (d.knows.each h x there)

unhit_told : (m : Machine) (h : ℕ) (o : Origin) (p : Plan) (lines : List Line) (told : Option Far) → At m h Ready o p lines (target_at told) → UnhitTold h told
unhit_told m h o p lines None a = tt
unhit_told m h o p lines (Some f) a =
    unhit_at m h o p lines (target_of (site_of f)) (subst (λ t. Deals m h Ready o p lines t) (sym (same_Some (target_of (site_of f)) a.target a.is)) a.holds)

-- ---- so a plan that asks for a hit goes on as where there is none

unhit_here : (h : ℕ) (o : Option Hart) → ((x : Hart) → o ≡ Some x → IsUnhit x.debug) → any_hit (slots_here o) ≡ false
unhit_here h None u = refl
unhit_here h (Some x) u = (u x refl).none

pub holds_none_deals : (m : Machine) (h : ℕ) (o : Origin) (held free : Plan) (lines : List Line) (t : Target)
    → Deals m h Ready o (see (λ b. if any_hit (slots_at h b) then held else free)) lines t → Deals m h Ready o free lines t
holds_none_deals m h o held free lines t d =
    deals_at_plan m h Ready o (if any_hit (slots_here (slice_get t.board.harts h)) then held else free) free lines t
    (if_false (any_hit (slots_here (slice_get t.board.harts h))) held free (unhit_here h (slice_get t.board.harts h) (unhit_at m h o _ lines t d)))
    (deals_seen m h Ready o (λ y. if any_hit (slots_here y) then held else free) lines t tt d)

either : (b : Bool) (p : Plan) → (if b then p else p) ≡ p
either true p = refl
either false p = refl

pub either_way_deals : (m : Machine) (h : ℕ) (o : Origin) (p : Plan) (lines : List Line) (t : Target) → Deals m h StillWay o (behind_step h p p) lines t
    → Deals m h StillWay o p lines t
either_way_deals m h o p lines t d =
    deals_at_plan m h StillWay o (if is_step (halted_of (slice_get t.board.harts h)) then p else p) p lines t
    (either (is_step (halted_of (slice_get t.board.harts h))) p) (deals_seen m h StillWay o (λ y. if is_step (halted_of y) then p else p) lines t tt d)

-- ---- a single step

pub still_at : (m : Machine) (h : ℕ) (o : Origin) (p : Plan) (lines : List Line) (told : Option Target) → At m h Ready o p lines told
    → At m h StillWay o p lines told
still_at m h o p lines told a = record { target = a.target; is = a.is; holds = deals_unspent m h o p lines a.target a.holds }

-- over slots that are all off where they have a hit, since none has one
pub made_over : (m : Machine) (h : ℕ) (o : Origin) (p : Plan) (lines : List Line) (old new : Tells) → StepMade h old new
    → At m h Ready o p lines (target_at old.far) → WhereTold (AtHarts (OverAt h)) old.far new.far
made_over m h o p lines old new made a = alone_made h old.far new.far (unhit_told m h o p lines old.far a) made.told

-- from a word of dcsr on
pub made_over_from : (m : Machine) (h word : ℕ) (o : Origin) (p : Plan) (lines : List Line) (old new : Tells) → StepFromMade h word old new
    → At m h Ready o p lines (target_at old.far) → WhereTold (AtHarts (OverAt h)) old.far new.far
made_over_from m h word o p lines old new made a = alone_made h old.far new.far (unhit_told m h o p lines old.far a) made.told

pub step_from_fell : (h word : ℕ) (m : Machine) (o : Origin) (stepped other : Plan) (lines : List Line) (old_count new_count : ℕ) (old new : Tells)
    (f : Failure)
    → StepFromFell h word old_count new_count old new f → At m h Ready o (one h stepped other) lines (target_at old.far) → Still (LeftAs o lines f) new.far
step_from_fell h word m o stepped other lines old_count new_count old new f fell a =
    let u : UnhitTold h old.far = unhit_told m h o (one h stepped other) lines old.far a in
    over_by fell.why f h m o stepped other lines old.far new.far fell.is (alone_left h old.far new.far fell.why u fell.told)
    (alone_in_cut h old.far new.far fell.why u fell.cut) (still_at m h o (one h stepped other) lines (target_at old.far) a)

pub step_fell : (h : ℕ) (m : Machine) (o : Origin) (stepped other : Plan) (lines : List Line) (old_count new_count : ℕ) (old new : Tells) (f : Failure)
    → StepFell h old_count new_count old new f → At m h Ready o (one h stepped other) lines (target_at old.far) → Still (LeftAs o lines f) new.far
step_fell h m o stepped other lines old_count new_count old new f fell a =
    let u : UnhitTold h old.far = unhit_told m h o (one h stepped other) lines old.far a in
    over_by fell.why f h m o stepped other lines old.far new.far fell.is (alone_left h old.far new.far fell.why u fell.told)
    (alone_in_cut h old.far new.far fell.why u fell.cut) (still_at m h o (one h stepped other) lines (target_at old.far) a)
