-- What is known of a world behind each point, and behind each Look by what it saw.
use Rattle.std.proofs.Common.{◌≡◌, ◌∙◌, ℕ, zero, suc, Bool, true, false, not, ◌&&◌, List, [], ◌∷◌, Option, Some, None, slice_get, option_map, refl}
use Rattle.std.proofs.Common.{sym, ap, subst, inl, inr}
use Rattle.std.specs.Prelude.{slice_set}
use Rattle.std.specs.List.{list_any}
use Rattle.std.proofs.lemmas.Bool.{false≢true, or_parts}
use Rattle.std.proofs.lemmas.Option.{slice_get-map, same_Some}
use Rattle.rv_model.specs.declared.cause.Cause.{Cause}
use Rattle.rv_model.specs.declared.slot.Slot.{Slot}
use Rattle.rv_model.specs.Board.{Board, DebugPart, Hart, Machine, machine_of}
use Rattle.rv_model.specs.Memory.{Memory}
use Rattle.rv_model.specs.Touch.{touch_of}
use Rattle.rv_model.specs.Triggers.{fires}
use Rattle.rv_model.specs.Turn.{place_of, some_fires, stops_at_ebreak, turn_by}
use Rattle.rv_model.proofs.BoardLemmas.{slice_get-cores}
use Rattle.debug_model.specs.Journal.{debug_changed_by, halt_requested, resume_asked, resume_asked_by, with_debug}
use Rattle.debug_model.specs.declared.point.Point.TheVariants.{Turn, HaltReq, HaltClear, ResumeReq}
use Rattle.abstract_debugger.specs.Debugger.{seen_at, seen_by, seen_here, sees_ack, sees_both, sees_halted}
use Rattle.abstract_debugger.specs.FirstMatch.{FirstMatch, Story, has_here, matches_at, story}
use Rattle.abstract_debugger.specs.Known.{Erased, IsKnown, way_at}
use Rattle.abstract_debugger.specs.Own.{lived}
use Rattle.abstract_debugger.specs.Plan.{is_step}
use Rattle.abstract_debugger.specs.Slots.{any_hit, hits_of, slots_at, slots_here, trigger_has_hit}
use Rattle.abstract_debugger.specs.Trace.{Past, noted_here}
use Rattle.abstract_debugger.specs.Transcript.{World, passed}
use Rattle.abstract_debugger.specs.Ways.{Fits, IsSlot, Starts, Way}
use Rattle.abstract_debugger.specs.Ways.Starts.{runs, waits}
use Rattle.abstract_debugger.specs.Ways.Way.{Idle, Still, Ready, Going, Holding, Asked, Over}
use Rattle.abstract_debugger.proofs.HartLemmas.{Knows, TurnedTo, turn-fits}
use Rattle.abstract_debugger.proofs.SlotLemmas.{slot-hit}
use Rattle.abstract_debugger.proofs.StoryLemmas.{turn-elsewhere}
use Rattle.abstract_debugger.proofs.Transparency.{erased-keeps}
use Rattle.abstract_debugger.proofs.KnownHarts.{ChangedAt, changed-set, set_by, each-moved, known_refined, known_selected}

-- ---- a turn

core_here : (o : Option Hart) (hart : Hart) → o ≡ Some hart → option_map (λ (x : Hart). x.core) o ≡ Some hart.core
core_here o hart is = ap (option_map (λ (x : Hart). x.core)) is

knows_hart : (m : Machine) (h : ℕ) (w : World) (hart : Hart) → Erased m w → slice_get w.board.harts h ≡ Some hart
    → Knows m h w.past hart.core w.board.memory
knows_hart m h w hart erased is k =
    ap (λ (x : Machine). matches_at (slice_get x.cores h) x.memory (story h k w.past)) (sym erased.machine)
    ∙ ap (λ o. matches_at o w.board.memory (story h k w.past)) (slice_get-cores w.board.harts h ∙ core_here (slice_get w.board.harts h) hart is)

abbrev turned_world : Option Hart → ℕ → World → World
turned_world o h w = record w { board = turn_by o h w.board; past = noted_here o h w.board.memory w.past }

known_turned : (m : Machine) (sel : ℕ) (way : Way) (h : ℕ) (w : World) (o : Option Hart) → slice_get w.board.harts h ≡ o
    → IsKnown m sel way w → Erased m (turned_world o h w) → IsKnown m sel way (turned_world o h w)
known_turned m sel way h w None is k erased = k
known_turned m sel way h w (Some x) is k erased =
    let mem : Memory = w.board.memory in
    let t : TurnedTo (way_at sel way h) m h w.past x mem = turn-fits (way_at sel way h) m h w.past x mem (knows_hart m h w x k.erased is) (k.each h x is) in
    record {
      erased = erased;
      right = t.right k.right;
      each = each-moved h (λ (y : Hart). (place_of y mem).hart) w.board.harts (slice_set w.board.harts h (place_of x mem).hart) (way_at sel way)
          (way_at sel way) w.past (noted_here (Some x) h mem w.past)
          (changed-set (Some x) h (λ (y : Hart). (place_of y mem).hart) w.board.harts is)
          (λ y at fits. subst (λ (z : Hart). Fits (way_at sel way h) h (noted_here (Some x) h mem w.past) (place_of z mem).hart.debug)
          (same_Some x y (sym is ∙ at)) t.fits)
          (λ j other. refl)
          (λ j other l. turn-elsewhere x.debug.halted x.debug.halt_request (some_fires (touch_of x.core mem) x) (stops_at_ebreak x mem) x.debug.step h
          (fires (touch_of x.core mem) x.debug.slots) w.past j l other)
          k.each;
    }

pub known-turn : (m : Machine) (sel : ℕ) (way : Way) (h : ℕ) (w : World) → IsKnown m sel way w → IsKnown m sel way (passed (Turn h) w)
known-turn m sel way h w k = known_turned m sel way h w (slice_get w.board.harts h) refl k ((erased-keeps m).passes (Turn h) w k.erased)

-- ---- points that a debugger takes

known_request : (m : Machine) (sel : ℕ) (way : Way) (h : ℕ) (on : Bool) (w v : World) (o : Option Hart) → slice_get w.board.harts h ≡ o → IsKnown m sel way w
    → Erased m v
    → v.past ≡ w.past → v.board.harts ≡ set_by o h (with_debug (halt_requested on)) w.board.harts → IsKnown m sel way v
known_request m sel way h on w v o is k erased past_is harts_are = record {
  erased = erased;
  right = subst (FirstMatch m) (sym past_is) k.right;
  each = each-moved h (with_debug (halt_requested on)) w.board.harts v.board.harts (way_at sel way) (way_at sel way) w.past v.past
      (subst (ChangedAt h (with_debug (halt_requested on)) w.board.harts) (sym harts_are) (changed-set o h (with_debug (halt_requested on)) w.board.harts is))
      (λ x at fits. request_fits (way_at sel way h) h w.past v.past x on past_is fits) (λ j other. refl) (λ j other l. ap (story j l) past_is) k.each;
}
  where
    request_fits : (way : Way) (h : ℕ) (past past' : Past) (x : Hart) (on : Bool) → past' ≡ past → Fits way h past x.debug
        → Fits way h past' (with_debug (halt_requested on) x).debug
    request_fits way h past past' x on e fits = subst (λ p. Fits way h p (with_debug (halt_requested on) x).debug) (sym e) fits

requested_harts : (o : Option Hart) (f : DebugPart → DebugPart) (h : ℕ) (b : Board) → (debug_changed_by o f h b).harts ≡ set_by o h (with_debug f) b.harts
requested_harts (Some x) f h b = refl
requested_harts None f h b = refl

pub known-halt_req : (m : Machine) (sel : ℕ) (way : Way) (h : ℕ) (w : World) → IsKnown m sel way w → IsKnown m sel way (passed (HaltReq h) w)
known-halt_req m sel way h w k =
    known_request m sel way h true w (passed (HaltReq h) w) (slice_get w.board.harts h) refl k ((erased-keeps m).passes (HaltReq h) w k.erased) refl
    (requested_harts (slice_get w.board.harts h) (halt_requested true) h w.board)

pub known-halt_clear : (m : Machine) (sel : ℕ) (way : Way) (h : ℕ) (w : World) → IsKnown m sel way w → IsKnown m sel way (passed (HaltClear h) w)
known-halt_clear m sel way h w k =
    known_request m sel way h false w (passed (HaltClear h) w) (slice_get w.board.harts h) refl k ((erased-keeps m).passes (HaltClear h) w k.erased) refl
    (requested_harts (slice_get w.board.harts h) (halt_requested false) h w.board)

-- a request to resume

known_resume : (m : Machine) (sel : ℕ) (way way' : Way) (w : World)
    → ((x : Hart) → Fits way sel w.past x.debug → Fits way' sel w.past (resume_asked x.debug)) → IsKnown m sel way w
    → IsKnown m sel way' (passed (ResumeReq sel) w)
known_resume m sel way way' w moves k =
    known_selected m sel way way' w (passed (ResumeReq sel) w) (with_debug resume_asked) k ((erased-keeps m).passes (ResumeReq sel) w k.erased) k.right
    (subst (ChangedAt sel (with_debug resume_asked) w.board.harts) (sym (requested_harts (slice_get w.board.harts sel) resume_asked sel w.board))
    (changed-set (slice_get w.board.harts sel) sel (with_debug resume_asked) w.board.harts refl))
    (λ j other l. refl) (λ x is fits. moves x fits)

abbrev asked_part : DebugPart → DebugPart
asked_part d = record d { resume_request = true; resume_ack = false }

resume_part : (d : DebugPart) (why : Cause) → d.halted ≡ Some why → resume_asked d ≡ asked_part d
resume_part d why is = ap (λ o. resume_asked_by o d) is

hold_slot : (o : Option Slot) (v : Story) → v.spent ≡ false → IsSlot o true v.spent v → IsSlot o (not v.spent) v.spent v
hold_slot o v unspent is = subst (λ b. IsSlot o b v.spent v) (sym (ap not unspent)) is

going_asked : (h : ℕ) (past : Past) (d : DebugPart) → Fits Ready h past d → Fits Going h past (resume_asked d)
going_asked h past d r = subst (Fits Going h past) (sym (resume_part d r.rests.why r.rests.is_halted)) (inr (record {
  starts = waits r.rests.why r.rests.is_halted refl refl;
  step_is = r.rests.no_step;
  slots_are = λ k. hold_slot (slice_get d.slots k) (story h k past) (r.none k) (r.rests.slots_are k);
  unspent = λ w. r.none;
}))

step_asked : (h : ℕ) (past : Past) (d : DebugPart) → Fits Holding h past d → Fits Asked h past (resume_asked d)
step_asked h past d r = subst (Fits Asked h past) (sym (resume_part d r.why r.is_halted)) (inr (record {
  starts = waits r.why r.is_halted refl refl;
  step_is = r.step_is;
  slots_are = r.slots_are;
  unspent = λ w. absurd (false≢true (sym w));
}))

pub known-going : (m : Machine) (sel : ℕ) (w : World) → IsKnown m sel Ready w → IsKnown m sel Going (passed (ResumeReq sel) w)
known-going m sel w k = known_resume m sel Ready Going w (λ x. going_asked sel w.past x.debug) k

pub known-asked : (m : Machine) (sel : ℕ) (w : World) → IsKnown m sel Holding w → IsKnown m sel Asked (passed (ResumeReq sel) w)
known-asked m sel w k = known_resume m sel Holding Asked w (λ x. step_asked sel w.past x.debug) k

-- ---- what a Look sees

seen_hart : (o : Option Hart) (x : Hart) → o ≡ Some x → seen_here o ≡ seen_by x.debug.halted x.debug.resume_ack
seen_hart o x is = ap seen_here is

running_unseen : (halted : Option Cause) (ack : Bool) → halted ≡ None → sees_halted (seen_by halted ack) ≡ false
running_unseen halted ack is = ap (λ o. sees_halted (seen_by o ack)) is

ack_seen : (halted : Option Cause) (ack : Bool) → sees_ack (seen_by halted ack) ≡ ack
ack_seen (Some why) ack = refl
ack_seen None ack = refl

both_left : (a b : Bool) → (a && b) ≡ true → a ≡ true
both_left true b is = refl
both_left false b is = absurd (false≢true is)

both_right : (a b : Bool) → (a && b) ≡ true → b ≡ true
both_right true b is = is
both_right false b is = absurd (false≢true is)

still_by : (h : ℕ) (past : Past) (d : DebugPart) → sees_halted (seen_by d.halted d.resume_ack) ≡ true → Fits Idle h past d → Fits Still h past d
still_by h past d seen (inl r) = r
still_by h past d seen (inr r) = absurd (false≢true (sym (running_unseen d.halted d.resume_ack r.is_running) ∙ seen))

-- an idle hart that is seen halted rests
pub known-still : (m : Machine) (sel : ℕ) (w : World) → sees_halted (seen_at sel w.board) ≡ true → IsKnown m sel Idle w → IsKnown m sel Still w
known-still m sel w seen k =
    known_refined m sel Idle Still w k (λ x is. still_by sel w.past x.debug (sym (ap sees_halted (seen_hart (slice_get w.board.harts sel) x is)) ∙ seen))

idle_by : (h : ℕ) (past : Past) (d : DebugPart) → d.resume_ack ≡ true → Fits Going h past d → Fits Idle h past d
idle_by h past d ack (inl r) = inl r
idle_by h past d ack (inr r) = inr (record { is_running = running d.halted d.resume_request d.resume_ack ack r.starts; moves = r })
  where
    running : (halted : Option Cause) (asked now : Bool) → now ≡ true → Starts halted asked now → halted ≡ None
    running halted asked now is (runs is_running not_asked) = is_running
    running halted asked now is (waits why is_halted is_asked no_ack) = absurd (false≢true (sym no_ack ∙ is))

-- a hart whose ack is seen has gone
pub known-gone : (m : Machine) (sel : ℕ) (w : World) → sees_ack (seen_at sel w.board) ≡ true → IsKnown m sel Going w → IsKnown m sel Idle w
known-gone m sel w seen k =
    known_refined m sel Going Idle w k (λ x is. idle_by sel w.past x.debug
    (sym (ack_seen x.debug.halted x.debug.resume_ack) ∙ sym (ap sees_ack (seen_hart (slice_get w.board.harts sel) x is)) ∙ seen))

over_by : (h : ℕ) (past : Past) (d : DebugPart) → d.resume_ack ≡ true → sees_halted (seen_by d.halted d.resume_ack) ≡ true → Fits Asked h past d
    → Fits Over h past d
over_by h past d ack seen (inl r) = r
over_by h past d ack seen (inr r) = absurd (none r.starts)
  where
    none : Starts d.halted d.resume_request d.resume_ack → ⊥
    none (runs is_running not_asked) = false≢true (sym (running_unseen d.halted d.resume_ack is_running) ∙ seen)
    none (waits why is_halted is_asked no_ack) = false≢true (sym no_ack ∙ ack)

-- where both are seen the step was made
pub known-over : (m : Machine) (sel : ℕ) (w : World) → sees_both (seen_at sel w.board) ≡ true → IsKnown m sel Asked w → IsKnown m sel Over w
known-over m sel w seen k =
    known_refined m sel Asked Over w k (λ x is.
    let e : seen_at sel w.board ≡ seen_by x.debug.halted x.debug.resume_ack = seen_hart (slice_get w.board.harts sel) x is in
    over_by sel w.past x.debug
    (sym (ack_seen x.debug.halted x.debug.resume_ack) ∙ sym (ap sees_ack e)
    ∙ both_left (sees_ack (seen_at sel w.board)) (sees_halted (seen_at sel w.board)) seen)
    (sym (ap sees_halted e) ∙ both_right (sees_ack (seen_at sel w.board)) (sees_halted (seen_at sel w.board)) seen))

-- a hart that rests, without a hit
none_hit : (xs : List Bool) (k : ℕ) → list_any (λ b. b) xs ≡ false → has_here (slice_get xs k) ≡ false
none_hit [] k none = refl
none_hit (x ∷ xs) zero none = (or_parts x (list_any (λ b. b) xs) none).0
none_hit (x ∷ xs) (suc k) none = none_hit xs k (or_parts x (list_any (λ b. b) xs) none).1

ready_by : (h : ℕ) (past : Past) (d : DebugPart) → any_hit d.slots ≡ false → Fits Still h past d → Fits Ready h past d
ready_by h past d none r = record {
  rests = r;
  none = λ k.
      sym (slot-hit (slice_get d.slots k) (story h k past).armed true (story h k past).spent (story h k past).execs (story h k past).stopped (r.slots_are k))
      ∙ sym (ap has_here (slice_get-map (λ (s : Slot). trigger_has_hit s.trigger) d.slots k)) ∙ none_hit (hits_of d.slots) k none;
}

pub known-ready : (m : Machine) (sel : ℕ) (w : World) → any_hit (slots_at sel w.board) ≡ false → IsKnown m sel Still w → IsKnown m sel Ready w
known-ready m sel w none k =
    known_refined m sel Still Ready w k (λ x is. ready_by sel w.past x.debug (sym (ap (λ o. any_hit (slots_here o)) is) ∙ none))

-- a hart that rests behind a whole step
pub known-stepped : (m : Machine) (sel : ℕ) (w : World) → ((x : Hart) → slice_get w.board.harts sel ≡ Some x → is_step x.debug.halted ≡ true)
    → IsKnown m sel Still w → IsKnown m sel Ready w
known-stepped m sel w whole k = known_refined m sel Still Ready w k (λ x is r. record { rests = r; none = r.whole (whole x is) })

pub known-rests : (m : Machine) (sel : ℕ) (w : World) → IsKnown m sel Still w → IsKnown m sel Idle w
known-rests m sel w k = known_refined m sel Still Idle w k (λ x is r. inl r)

pub known-unspent : (m : Machine) (sel : ℕ) (w : World) → IsKnown m sel Ready w → IsKnown m sel Still w
known-unspent m sel w k = known_refined m sel Ready Still w k (λ x is r. r.rests)
