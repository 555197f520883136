-- The steps of a session with what is known of the harts: each moves the way to the selected hart as the plan does.
use Rattle.std.proofs.Common.{◌≡◌, ◌∙◌, ℕ, zero, suc, List, [], ◌∷◌, ◌++◌, Bool, true, false, Option, Some, slice_get, refl, sym, ap, subst, if◌then◌else◌}
use Rattle.std.proofs.lemmas.Bool.{false≢true}
use Rattle.rv_model.specs.Board.{Board, DebugPart, Hart, Machine, machine_of}
use Rattle.debug_model.specs.declared.command.Path.{Path}
use Rattle.debug_model.specs.declared.point.Point.{Point}
use Rattle.debug_model.specs.declared.point.Point.TheVariants.{Turn, Look, HaltReq, HaltClear, ResumeReq, Access}
use Rattle.abstract_debugger.specs.Debugger.{Seen, by_state, halted_of, look, seen_at, sees_halted, until, waiting}
use Rattle.abstract_debugger.specs.Known.{IsFresh, IsKnown}
use Rattle.abstract_debugger.specs.Laws.{IsChangeOf, IsFrozen, IsFrozenAt}
use Rattle.abstract_debugger.specs.Lines.{Line}
use Rattle.abstract_debugger.specs.Plan.{Change, Plan, is_step}
use Rattle.abstract_debugger.specs.Plan.Change.{ArmSlot, EbreakHalts, FreeSlot, StepDone, StepOver, WriteMem, WriteReg}
use Rattle.abstract_debugger.specs.Plan.Plan.{take, on_path, see, change, say}
use Rattle.abstract_debugger.specs.Slots.{any_hit, slots_at, slots_here}
use Rattle.abstract_debugger.specs.Stands.{Deals, Looked, Origin, Pointed, PointedWith, Rewrote, Target, WentOn}
use Rattle.abstract_debugger.specs.Transcript.{World, changed, passed, start}
use Rattle.abstract_debugger.specs.Turns.{after_turns}
use Rattle.abstract_debugger.specs.Ways.{Fits, Way}
use Rattle.abstract_debugger.specs.Ways.Way.{Idle, Still, Ready, Going, Holding, Asked, Over}
use Rattle.abstract_debugger.proofs.FrozenLemmas.{hart_change}
use Rattle.std.specs.Prelude.{◌==◌}
use Rattle.rv_model.specs.declared.slot.Slot.{Slot}
use Rattle.abstract_debugger.specs.Trace.{What}
use Rattle.abstract_debugger.proofs.SlotLemmas.{CanArm}
use Rattle.abstract_debugger.proofs.StoryLemmas.{same_number}
use Rattle.abstract_debugger.proofs.StandsLemmas.{IsTaken, at_plan, looked, point_board, put, seen_hart, shown, spin, starts, taken, taken_seen}
use Rattle.abstract_debugger.proofs.StandsLemmas.{taken_with, unpathed, went_on, wrote}
use Rattle.abstract_debugger.proofs.KnownChanges.{HasSlot, known-arm, known-ebreak, known-free, known-step_done, known-step_over, known-write_mem}
use Rattle.abstract_debugger.proofs.KnownChanges.{known-write_reg}
use Rattle.abstract_debugger.proofs.KnownHarts.{known-said, known-start, known_idle}
use Rattle.abstract_debugger.proofs.KnownPoints.{known-asked, known-going, known-halt_clear, known-halt_req, known-ready, known-rests, known-stepped}
use Rattle.abstract_debugger.proofs.KnownPoints.{known-still, known-turn, known-unspent}

-- ---- turns

pub known-spin : (m : Machine) (sel : ℕ) (way : Way) (hs : List ℕ) (w : World) → IsKnown m sel way w → IsKnown m sel way (spin hs w)
known-spin m sel way [] w k = k
known-spin m sel way (h ∷ hs) w k = known-spin m sel way hs (passed (Turn h) w) (known-turn m sel way h w k)

-- ---- the steps

pub deals_starts : (sel : ℕ) (plan : Plan) (board : Board) → IsFresh board
    → Deals (machine_of board) sel Idle (record { plan = plan; world = start board }) plan [] (record { board = board; journal = [] })
deals_starts sel plan board fresh = record { stands = starts plan board; knows = known-start sel board fresh }

pub deals_at_plan : (m : Machine) (sel : ℕ) (way : Way) (o : Origin) (p q : Plan) (lines : List Line) (t : Target) → p ≡ q → Deals m sel way o p lines t
    → Deals m sel way o q lines t
deals_at_plan m sel way o p q lines t e d = record { stands = at_plan o p q lines t e d.stands; knows = d.knows }

-- more or less is known
pub deals_known : (m : Machine) (sel : ℕ) (way way' : Way) (o : Origin) (p : Plan) (lines : List Line) (t : Target) (d : Deals m sel way o p lines t)
    → (IsKnown m sel way d.stands.world → IsKnown m sel way' d.stands.world) → Deals m sel way' o p lines t
deals_known m sel way way' o p lines t d knows = record { stands = d.stands; knows = knows d.knows }

pub deals_went_on : (m : Machine) (sel : ℕ) (way : Way) (o : Origin) (p : Plan) (lines : List Line) (old new : Target) → Deals m sel way o p lines old
    → WentOn old new → Deals m sel way o p lines new
deals_went_on m sel way o p lines old new d went = record { stands = went_on o p lines old new d.stands went; knows = d.knows }

pub deals_put : (m : Machine) (sel : ℕ) (way : Way) (o : Origin) (line : Line) (next : Plan) (lines : List Line) (t : Target)
    → Deals m sel way o (say line next) lines t → Deals m sel way o next (lines ++ line ∷ []) t
deals_put m sel way o line next lines t d = record { stands = put o line next lines t d.stands; knows = known-said m sel way line d.stands.world d.knows }

pub deals_unpathed : (m : Machine) (sel : ℕ) (way : Way) (o : Origin) (path : Path) (next : Plan) (lines : List Line) (t : Target)
    → Deals m sel way o (on_path path next) lines t → Deals m sel way o next lines t
deals_unpathed m sel way o path next lines t d = record { stands = unpathed o path next lines t d.stands; knows = d.knows }

pub deals_taken : (m : Machine) (sel : ℕ) (way way' : Way) (o : Origin) (q : Point) (next : Plan) (lines : List Line) (old new : Target) → IsTaken q
    → ((w : World) → IsKnown m sel way w → IsKnown m sel way' (passed q w)) → Deals m sel way o (take q next) lines old → Pointed q old new
    → Deals m sel way' o next lines new
deals_taken m sel way way' o q next lines old new ok steps d at = record {
  stands = taken o q next lines old new ok d.stands at;
  knows = steps (spin (d.stands.rest ++ at.before) d.stands.world) (known-spin m sel way (d.stands.rest ++ at.before) d.stands.world d.knows);
}

-- a load of an access: the plan goes on by what memory held there
pub deals_loaded : (m : Machine) (sel : ℕ) (way : Way) (o : Origin) (next : Board → Plan) (lines : List Line) (old new : Target)
    → Deals m sel way o (take Access (see next)) lines old → (at : Pointed Access old new)
    → Deals m sel way o (next (after_turns at.before old.board)) lines new
deals_loaded m sel way o next lines old new d at = record {
  stands = taken_seen o Access next lines old new tt d.stands at;
  knows = known-spin m sel way (d.stands.rest ++ at.before) d.stands.world d.knows;
}

-- a store of an access, which the plan makes by what memory answers there
pub deals_stored : (m : Machine) (sel : ℕ) (way : Way) (o : Origin) (a count v : ℕ) (next : Board → Plan) (rest : Plan) (lines : List Line) (old new : Target)
    → Deals m sel way o (take Access (see next)) lines old
    → (at : PointedWith Access (WriteMem a count v) old new) → next (after_turns at.before old.board) ≡ change (WriteMem a count v) rest
    → Deals m sel way o rest lines new
deals_stored m sel way o a count v next rest lines old new d at goes = record {
  stands = taken_with o Access (WriteMem a count v) next rest lines old new tt d.stands at goes;
  knows = known-write_mem m sel way a count v (spin (d.stands.rest ++ at.before) d.stands.world)
      (known-spin m sel way (d.stands.rest ++ at.before) d.stands.world d.knows);
}

-- ---- what is known of the selected hart

-- where it rests, or is held, or has stepped, it is frozen
abbrev pub IsStill : Way → Type 0
IsStill Idle = ⊥
IsStill Still = Unit {0}
IsStill Ready = Unit {0}
IsStill Going = ⊥
IsStill Holding = Unit {0}
IsStill Asked = ⊥
IsStill Over = Unit {0}

frozen_by : (way : Way) (h : ℕ) (w : World) (d : DebugPart) → IsStill way → Fits way h w.past d → IsFrozen d
frozen_by Idle h w d still f = absurd still
frozen_by Still h w d still f = record { why = f.why; halted = f.is_halted; not_asked = f.not_asked }
frozen_by Ready h w d still f = record { why = f.rests.why; halted = f.rests.is_halted; not_asked = f.rests.not_asked }
frozen_by Going h w d still f = absurd still
frozen_by Holding h w d still f = record { why = f.why; halted = f.is_halted; not_asked = f.not_asked }
frozen_by Asked h w d still f = absurd still
frozen_by Over h w d still f = record { why = f.why; halted = f.is_halted; not_asked = f.not_asked }

pub known-frozen : (m : Machine) (sel : ℕ) (way : Way) (w : World) (x : Hart) → IsStill way → IsKnown m sel way w
    → slice_get w.board.harts sel ≡ Some x → IsFrozen x.debug
known-frozen m sel way w x still k is = frozen_by way sel w x.debug still
    (subst (λ y. Fits y sel w.past x.debug) (way_here (sel == sel) (same_number sel)) (k.each sel x is))
  where
    way_here : (b : Bool) → b ≡ true → (if b then way else Idle) ≡ way
    way_here true e = refl
    way_here false e = absurd (false≢true e)

pub deals_frozen : (m : Machine) (sel : ℕ) (way : Way) (o : Origin) (p : Plan) (lines : List Line) (t : Target) → IsStill way
    → (d : Deals m sel way o p lines t) → IsFrozenAt sel d.stands.world.board
deals_frozen m sel way o p lines t still d x is = known-frozen m sel way d.stands.world x still d.knows is

-- in the chip too
pub target_frozen : (m : Machine) (sel : ℕ) (way : Way) (o : Origin) (p : Plan) (lines : List Line) (t : Target) → IsStill way → Deals m sel way o p lines t
    → IsFrozenAt sel t.board
target_frozen m sel way o p lines t still d x is =
    known-frozen m sel way d.stands.world x still d.knows (sym (shown o sel p lines t d.stands (deals_frozen m sel way o p lines t still d)) ∙ is)

-- what the chip shows of the selected hart
pub deals_seen : (m : Machine) (sel : ℕ) (way : Way) (o : Origin) (next : Option Hart → Plan) (lines : List Line) (t : Target) → IsStill way
    → Deals m sel way o (see (λ b. next (slice_get b.harts sel))) lines t → Deals m sel way o (next (slice_get t.board.harts sel)) lines t
deals_seen m sel way o next lines t still d = record {
  stands = seen_hart o sel next lines t d.stands (deals_frozen m sel way o (see (λ b. next (slice_get b.harts sel))) lines t still d);
  knows = d.knows;
}

-- ---- a change of the selected hart

pub deals_wrote : (m : Machine) (sel : ℕ) (way way' : Way) (o : Origin) (c : Change) (next : Plan) (lines : List Line) (old new : Target)
    → IsStill way → IsChangeOf sel c
    → ((w : World) → IsKnown m sel way w → IsKnown m sel way' (changed c w)) → Deals m sel way o (change c next) lines old → Rewrote (hart_change c) sel old new
    → Deals m sel way' o next lines new
deals_wrote m sel way way' o c next lines old new still of_sel steps d at = record {
  stands = wrote o sel c next lines old new d.stands of_sel (deals_frozen m sel way o (change c next) lines old still d) at;
  knows = steps d.stands.world d.knows;
}

-- before a step, and behind it
pub deals_hold : (m : Machine) (sel : ℕ) (o : Origin) (next : Plan) (lines : List Line) (old new : Target)
    → Deals m sel Still o (change (StepOver sel) next) lines old → Rewrote (hart_change (StepOver sel)) sel old new → Deals m sel Holding o next lines new
deals_hold m sel o next lines old new d at = deals_wrote m sel Still Holding o (StepOver sel) next lines old new tt refl (known-step_over m sel) d at

pub deals_done : (m : Machine) (sel : ℕ) (o : Origin) (next : Plan) (lines : List Line) (old new : Target)
    → Deals m sel Over o (change (StepDone sel) next) lines old → Rewrote (hart_change (StepDone sel)) sel old new → Deals m sel Still o next lines new
deals_done m sel o next lines old new d at = deals_wrote m sel Over Still o (StepDone sel) next lines old new tt refl (known-step_done m sel) d at

-- a register, and dcsr.ebreakm
pub deals_register : (m : Machine) (sel r v : ℕ) (o : Origin) (next : Plan) (lines : List Line) (old new : Target)
    → Deals m sel Still o (change (WriteReg sel r v) next) lines old → Rewrote (hart_change (WriteReg sel r v)) sel old new → Deals m sel Still o next lines new
deals_register m sel r v o next lines old new d at = deals_wrote m sel Still Still o (WriteReg sel r v) next lines old new tt refl
    (known-write_reg m sel r v) d at

pub deals_ebreak : (m : Machine) (sel : ℕ) (on : Bool) (o : Origin) (next : Plan) (lines : List Line) (old new : Target)
    → Deals m sel Still o (change (EbreakHalts sel on) next) lines old → Rewrote (hart_change (EbreakHalts sel on)) sel old new
    → Deals m sel Still o next lines new
deals_ebreak m sel on o next lines old new d at = deals_wrote m sel Still Still o (EbreakHalts sel on) next lines old new tt refl (known-ebreak m sel on) d at

-- a slot that the chip's hart has
abbrev pub ShowsSlot : ℕ → ℕ → Target → Type 0
ShowsSlot h slot t = (x : Hart) → slice_get t.board.harts h ≡ Some x → (s : Slot) × (slice_get x.debug.slots slot ≡ Some s)

has_slot : (m : Machine) (sel slot : ℕ) (o : Origin) (p : Plan) (lines : List Line) (t : Target) (d : Deals m sel Still o p lines t) → ShowsSlot sel slot t
    → HasSlot sel slot d.stands.world
has_slot m sel slot o p lines t d shows x is = shows x (shown o sel p lines t d.stands (deals_frozen m sel Still o p lines t tt d) ∙ is)

pub deals_armed : (m : Machine) (sel slot : ℕ) (what : What) (o : Origin) (next : Plan) (lines : List Line) (old new : Target) → CanArm what
    → ShowsSlot sel slot old
    → Deals m sel Still o (change (ArmSlot sel slot what) next) lines old → Rewrote (hart_change (ArmSlot sel slot what)) sel old new
    → Deals m sel Still o next lines new
deals_armed m sel slot what o next lines old new can shows d at = record {
  stands = wrote o sel (ArmSlot sel slot what) next lines old new d.stands refl
      (deals_frozen m sel Still o (change (ArmSlot sel slot what) next) lines old tt d) at;
  knows = known-arm m sel slot what d.stands.world can (has_slot m sel slot o (change (ArmSlot sel slot what) next) lines old d shows) d.knows;
}

pub deals_freed : (m : Machine) (sel slot : ℕ) (o : Origin) (next : Plan) (lines : List Line) (old new : Target) → ShowsSlot sel slot old
    → Deals m sel Still o (change (FreeSlot sel slot) next) lines old → Rewrote (hart_change (FreeSlot sel slot)) sel old new
    → Deals m sel Still o next lines new
deals_freed m sel slot o next lines old new shows d at = record {
  stands = wrote o sel (FreeSlot sel slot) next lines old new d.stands refl (deals_frozen m sel Still o (change (FreeSlot sel slot) next) lines old tt d) at;
  knows = known-free m sel slot d.stands.world (has_slot m sel slot o (change (FreeSlot sel slot) next) lines old d shows) d.knows;
}

-- ---- requests

pub deals_halt_req : (m : Machine) (sel : ℕ) (way : Way) (h : ℕ) (o : Origin) (next : Plan) (lines : List Line) (old new : Target)
    → Deals m sel way o (take (HaltReq h) next) lines old → Pointed (HaltReq h) old new → Deals m sel way o next lines new
deals_halt_req m sel way h o next lines old new d at = deals_taken m sel way way o (HaltReq h) next lines old new tt (known-halt_req m sel way h) d at

pub deals_halt_clear : (m : Machine) (sel : ℕ) (way : Way) (h : ℕ) (o : Origin) (next : Plan) (lines : List Line) (old new : Target)
    → Deals m sel way o (take (HaltClear h) next) lines old → Pointed (HaltClear h) old new → Deals m sel way o next lines new
deals_halt_clear m sel way h o next lines old new d at = deals_taken m sel way way o (HaltClear h) next lines old new tt (known-halt_clear m sel way h) d at

pub deals_go : (m : Machine) (sel : ℕ) (o : Origin) (next : Plan) (lines : List Line) (old new : Target)
    → Deals m sel Ready o (take (ResumeReq sel) next) lines old → Pointed (ResumeReq sel) old new → Deals m sel Going o next lines new
deals_go m sel o next lines old new d at = deals_taken m sel Ready Going o (ResumeReq sel) next lines old new tt (known-going m sel) d at

pub deals_ask : (m : Machine) (sel : ℕ) (o : Origin) (next : Plan) (lines : List Line) (old new : Target)
    → Deals m sel Holding o (take (ResumeReq sel) next) lines old → Pointed (ResumeReq sel) old new → Deals m sel Asked o next lines new
deals_ask m sel o next lines old new d at = deals_taken m sel Holding Asked o (ResumeReq sel) next lines old new tt (known-asked m sel) d at

-- ---- Looks

-- one Look: the plan goes on by what it showed, and more may be known by that
pub deals_looked : (m : Machine) (sel : ℕ) (way way' : Way) (o : Origin) (h : ℕ) (next : Seen → Plan) (now : Seen) (lines : List Line) (old new : Target)
    → ((w : World) → seen_at h w.board ≡ now → IsKnown m sel way w → IsKnown m sel way' w) → Deals m sel way o (look h next) lines old → Looked h now old new
    → Deals m sel way' o (next now) lines new
deals_looked m sel way way' o h next now lines old new sees d at =
    let w : World = spin (d.stands.rest ++ at.pointed.before) d.stands.world in
    record {
      stands = looked o h next now lines old new d.stands at;
      knows = sees w (ap (seen_at h) (sym (point_board (Look h) d.stands.world old.board d.stands.rest at.pointed.before d.stands.board)) ∙ sym at.shows)
          (known-spin m sel way (d.stands.rest ++ at.pointed.before) d.stands.world d.knows);
    }

-- a command's Look that sees the hart halted
pub deals_halted : (m : Machine) (sel : ℕ) (o : Origin) (next : Seen → Plan) (now : Seen) (lines : List Line) (old new : Target) → sees_halted now ≡ true
    → Deals m sel Idle o (look sel next) lines old → Looked sel now old new → Deals m sel Still o (next now) lines new
deals_halted m sel o next now lines old new is d at =
    deals_looked m sel Idle Still o sel next now lines old new (λ w e k. known-still m sel w (ap sees_halted e ∙ is) k) d at

pub until-suc : (n h : ℕ) (test : Seen → Bool) (failed : Seen → Plan) (found : Plan) (last : Seen)
    → until (suc n) h test failed found last ≡ look h (λ s. if test s then found else until n h test failed found s)
unfolding until
until-suc n h test failed found last = refl

pub until-zero : (h : ℕ) (test : Seen → Bool) (failed : Seen → Plan) (found : Plan) (last : Seen) → until zero h test failed found last ≡ failed last
unfolding until
until-zero h test failed found last = refl

pub waiting-suc : (n h : ℕ) (absent running halted : Plan) → waiting (suc n) h absent running halted ≡ look h
    (by_state absent (waiting n h absent running halted) halted)
unfolding waiting
waiting-suc n h absent running halted = refl

pub waiting-zero : (h : ℕ) (absent running halted : Plan) → waiting zero h absent running halted ≡ running
unfolding waiting
waiting-zero h absent running halted = refl

pub if_true : (b : Bool) (p q : Plan) → b ≡ true → (if b then p else q) ≡ p
if_true true p q is = refl
if_true false p q is = absurd (false≢true is)

pub if_false : (b : Bool) (p q : Plan) → b ≡ false → (if b then p else q) ≡ q
if_false false p q is = refl
if_false true p q is = absurd (false≢true (sym is))

-- one Look of several that saw what was wanted
pub deals_found : (m : Machine) (sel : ℕ) (way way' : Way) (o : Origin) (n : ℕ) (test : Seen → Bool) (failed : Seen → Plan) (found : Plan) (last now : Seen)
    (lines : List Line) (old new : Target)
    → test now ≡ true → ((w : World) → test (seen_at sel w.board) ≡ true → IsKnown m sel way w → IsKnown m sel way' w)
    → Deals m sel way o (until (suc n) sel test failed found last) lines old → Looked sel now old new → Deals m sel way' o found lines new
deals_found m sel way way' o n test failed found last now lines old new is sees d at =
    deals_at_plan m sel way' o (if test now then found else until n sel test failed found now) found lines new
    (if_true (test now) found (until n sel test failed found now) is)
    (deals_looked m sel way way' o sel (λ s. if test s then found else until n sel test failed found s) now lines old new (λ w e k. sees w (ap test e ∙ is) k)
    (deals_at_plan m sel way o _ _ lines old (until-suc n sel test failed found last) d) at)

-- and one that did not
pub deals_again : (m : Machine) (sel : ℕ) (way : Way) (o : Origin) (n : ℕ) (test : Seen → Bool) (failed : Seen → Plan) (found : Plan) (last now : Seen)
    (lines : List Line) (old new : Target)
    → test now ≡ false → Deals m sel way o (until (suc n) sel test failed found last) lines old → Looked sel now old new
    → Deals m sel way o (until n sel test failed found now) lines new
deals_again m sel way o n test failed found last now lines old new is d at =
    deals_at_plan m sel way o (if test now then found else until n sel test failed found now) (until n sel test failed found now) lines new
    (if_false (test now) found (until n sel test failed found now) is)
    (deals_looked m sel way way o sel (λ s. if test s then found else until n sel test failed found s) now lines old new (λ w e k. k)
    (deals_at_plan m sel way o _ _ lines old (until-suc n sel test failed found last) d) at)

-- ---- behind a step, and where nothing has a hit: by what the chip shows

abbrev after_step : ℕ → (stepped other : Plan) → Plan
after_step sel stepped other = see (λ b. if is_step (halted_of (slice_get b.harts sel)) then stepped else other)

pub deals_stepped : (m : Machine) (sel : ℕ) (o : Origin) (stepped other : Plan) (lines : List Line) (t : Target)
    → is_step (halted_of (slice_get t.board.harts sel)) ≡ true
    → Deals m sel Still o (see (λ b. if is_step (halted_of (slice_get b.harts sel)) then stepped else other)) lines t → Deals m sel Ready o stepped lines t
deals_stepped m sel o stepped other lines t is d =
    let same : slice_get t.board.harts sel ≡ slice_get d.stands.world.board.harts sel =
    shown o sel (after_step sel stepped other) lines t d.stands (deals_frozen m sel Still o (after_step sel stepped other) lines t tt d) in
    record {
      stands = at_plan o _ stepped lines t (if_true (is_step (halted_of (slice_get t.board.harts sel))) stepped other is)
          (seen_hart o sel (λ x. if is_step (halted_of x) then stepped else other) lines t d.stands
          (deals_frozen m sel Still o (after_step sel stepped other) lines t tt d));
      knows = known-stepped m sel d.stands.world (λ x at. sym (ap (λ y. is_step (halted_of y)) (same ∙ at)) ∙ is) d.knows;
    }

pub deals_otherwise : (m : Machine) (sel : ℕ) (o : Origin) (stepped other : Plan) (lines : List Line) (t : Target)
    → is_step (halted_of (slice_get t.board.harts sel)) ≡ false
    → Deals m sel Still o (see (λ b. if is_step (halted_of (slice_get b.harts sel)) then stepped else other)) lines t → Deals m sel Still o other lines t
deals_otherwise m sel o stepped other lines t is d =
    deals_at_plan m sel Still o (if is_step (halted_of (slice_get t.board.harts sel)) then stepped else other) other lines t
    (if_false (is_step (halted_of (slice_get t.board.harts sel))) stepped other is)
    (deals_seen m sel Still o (λ x. if is_step (halted_of x) then stepped else other) lines t tt d)

pub deals_ready : (m : Machine) (sel : ℕ) (o : Origin) (p : Plan) (lines : List Line) (t : Target) → any_hit (slots_at sel t.board) ≡ false
    → Deals m sel Still o p lines t → Deals m sel Ready o p lines t
deals_ready m sel o p lines t none d =
    deals_known m sel Still Ready o p lines t d (known-ready m sel d.stands.world
    (ap (λ x. any_hit (slots_here x)) (sym (shown o sel p lines t d.stands (deals_frozen m sel Still o p lines t tt d))) ∙ none))

-- a command's end: the hart rests, and any hart may be selected
pub deals_rests : (m : Machine) (sel : ℕ) (o : Origin) (p : Plan) (lines : List Line) (t : Target) → Deals m sel Still o p lines t
    → Deals m sel Idle o p lines t
deals_rests m sel o p lines t d = deals_known m sel Still Idle o p lines t d (known-rests m sel d.stands.world)

pub deals_unspent : (m : Machine) (sel : ℕ) (o : Origin) (p : Plan) (lines : List Line) (t : Target) → Deals m sel Ready o p lines t
    → Deals m sel Still o p lines t
deals_unspent m sel o p lines t d = deals_known m sel Ready Still o p lines t d (known-unspent m sel d.stands.world)

pub deals_selects : (m : Machine) (sel sel' : ℕ) (o : Origin) (p : Plan) (lines : List Line) (t : Target) → Deals m sel Idle o p lines t
    → Deals m sel' Idle o p lines t
deals_selects m sel sel' o p lines t d = record { stands = d.stands; knows = known_idle m sel sel' d.stands.world d.knows }
