-- Where a chip's schedule is fair the first Look behind a request shows the hart halted, or its ack, and the second one the end of a single step.
use Rattle.std.proofs.Common.{◌≡◌, ◌≢◌, ◌∙◌, ◌++◌, ◌<◌, ◌^◌, ◌&&◌, ℕ, zero, suc, List, [], ◌∷◌, length, map, All, Bool, true, false, Option, Some, None}
use Rattle.std.proofs.Common.{if◌then◌else◌, Contains, IfSome, is_some, slice_get, refl, sym, ap, subst, append_assoc, arith}
use Rattle.std.proofs.lemmas.Bool.{false≢true}
use Rattle.std.proofs.lemmas.List.Elements.{All-head, All-tail}
use Rattle.std.proofs.lemmas.Option.{none-some, same_Some, slice_get_within}
use Rattle.rv_model.specs.declared.cause.Cause.{Cause}
use Rattle.rv_model.specs.declared.touch.Touch.{Touch}
use Rattle.rv_model.specs.Board.{Board, DebugPart, Hart}
use Rattle.rv_model.specs.Effects.{Outcome}
use Rattle.rv_model.specs.Memory.{Memory}
use Rattle.rv_model.specs.Touch.{touch_of}
use Rattle.rv_model.specs.Turn.{place_by, place_of, some_fires, stops_at_ebreak, turn, turn_by, turn_outcome}
use Rattle.chip_laws.proofs.Events.{operation_adds}
use Rattle.chip_laws.proofs.Pace.{ran_harts}
use Rattle.debug_model.specs.Addresses.{dmcontrol_address, dmstatus_address}
use Rattle.debug_model.specs.declared.dmi_op.DmiOp.{DmiOp}
use Rattle.debug_model.specs.declared.dmi_op.DmiOp.TheVariants.{Read, Write}
use Rattle.debug_model.specs.declared.point.Point.TheVariants.{Look, HaltReq, ResumeReq}
use Rattle.debug_model.specs.Course.{OneOperation}
use Rattle.debug_model.specs.Deeds.{Deed, after_deed, ran, turned_by}
use Rattle.debug_model.specs.Deeds.Deed.{Turned as TurnOf, CommandStepped, BusStepped}
use Rattle.debug_model.specs.Dmi.{value_of}
use Rattle.debug_model.specs.Journal.{after_point, resume_asked, resume_asked_by}
use Rattle.debug_model.specs.Module.{DebugModule, Site, operated, operation_result}
use Rattle.debug_model.specs.Pacing.{LivelyDeeds, Paced, harts_of}
use Rattle.debug_model.specs.Told.{Far, HartExists, HartHalted, IsHalted, IsReady, SiteReady, chip_of, site_of}
use Rattle.abstract_debugger.specs.Debugger.{Seen, seen_at, seen_by, seen_here, sees_ack, sees_both, sees_halted}
use Rattle.abstract_debugger.specs.Turns.{after_turns}
use Rattle.abstract_debugger.proofs.StandsLemmas.{after_turns-append}
use Rattle.probe_run.specs.declared.control.Request.{Request}
use Rattle.probe_run.specs.declared.control.Request.TheVariants.{Halt, Resume}
use Rattle.probe_run.specs.Acts.{Act, Did, Tells}
use Rattle.probe_run.specs.Happens.{target_of}
use Rattle.probe_run.specs.Looks.{ShowsNot, look_act, seen_in}
use Rattle.probe_run.specs.Outcomes.{asks}
use Rattle.probe_run.specs.Requests.{control_word}
use Rattle.probe_run.specs.Sites.{IsQuiet, TurnsAlone, spun}
use Rattle.probe_run.specs.Soon.{StepSet, VainLooks}
use Rattle.probe_run.proofs.Asking.{HaltAsked, HaltSeen, KeptByTurns, OnlyAt, Turned, Unasked, halt_asked_kept, halt_seen_kept, hart_turned, only_at_kept}
use Rattle.probe_run.proofs.Asking.{unasked_kept}
use Rattle.probe_run.proofs.Between.{Between, between_spun, between_weaker, ready_between, there_turns}
use Rattle.probe_run.proofs.Calls.{Holds}
use Rattle.probe_run.proofs.HartControl.{CanRun, halted_there}
use Rattle.probe_run.proofs.Moves.{Moved, Saw, moved, moves_halt, resume_notes, saw, there_pointed}
use Rattle.probe_run.proofs.PacedRuns.{FarPaced, PacedAt, PacedRan, far_paced}
use Rattle.probe_run.proofs.SiteLemmas.{quiet_along, quiet_deed, quiet_ran, same_site, spun_twice}
use Rattle.probe_run.proofs.Steps.{look_shows, ready_quiet}
use Rattle.probe_run.proofs.Wide.{BoardWide, EachHart, each_changed, each_put, each_turns, wide_resume_asked, wide_turns}

-- ---- a hart's own turn among others

-- turns, among which is one of hart h
pub record TurnsWith (h : ℕ) (s t : Site) : Type 0 where
  pub before : List ℕ
  pub behind : List ℕ
  pub is : t ≡ spun (before ++ h ∷ behind) s

own_turn : (o : Option Hart) (h : ℕ) (s t : Site) (behind : List ℕ) → slice_get s.board.harts h ≡ o → is_some o ≡ true
    → t ≡ spun behind (turned_by o h s) → TurnsWith h s t
own_turn None h s t behind at there is = absurd (false≢true there)
own_turn (Some x) h s t behind at there is = record {
  before = [];
  behind = behind;
  is = is ∙ ap (spun behind) (same_site (turned_by (Some x) h s) (spun (h ∷ []) s) refl (ap (λ o. turn_by o h s.board) (sym at)) refl)
      ∙ spun_twice (h ∷ []) behind s;
}

later_turn : (h : ℕ) (s m t : Site) → TurnsAlone s m → TurnsWith h m t → TurnsWith h s t
later_turn h s m t a w = record {
  before = a.harts ++ w.before;
  behind = w.behind;
  is = w.is ∙ ap (spun (w.before ++ h ∷ w.behind)) a.is ∙ spun_twice a.harts (w.before ++ h ∷ w.behind) s
      ∙ ap (λ hs. spun hs s) (sym (append_assoc a.harts w.before (h ∷ w.behind)));
}

turns_with : (ds : List Deed) (h : ℕ) (s : Site) → IsQuiet s → HartExists h s.board → Contains ds (TurnOf h) → TurnsWith h s (ran ds s)
unfolding ran after_deed
turns_with [] h s q there (n, below, is) = absurd (omega arith)
turns_with (TurnOf g ∷ ds) h s q there (zero, below, is) =
    let same : g ≡ h = cc in
    let r : TurnsAlone (after_deed (TurnOf g) s) (ran ds (after_deed (TurnOf g) s)) =
    quiet_ran ds (after_deed (TurnOf g) s) (quiet_along s (after_deed (TurnOf g) s) (quiet_deed (TurnOf g) s q) q) in
    own_turn (slice_get s.board.harts h) h s _ r.harts refl there (r.is ∙ ap (λ k. spun r.harts (after_deed (TurnOf k) s)) same)
turns_with (CommandStepped ∷ ds) h s q there (zero, below, is) = absurd (let no : ⊥ = cc in no)
turns_with (BusStepped ∷ ds) h s q there (zero, below, is) = absurd (let no : ⊥ = cc in no)
turns_with (d ∷ ds) h s q there (suc n, below, is) =
    let one : TurnsAlone s (after_deed d s) = quiet_deed d s q in
    let stays : HartExists h (after_deed d s).board = subst (λ (x : Site). HartExists h x.board) (sym one.is) (there_turns one.harts h s.board there) in
    later_turn h s (after_deed d s) _ one (turns_with ds h (after_deed d s) (quiet_along s (after_deed d s) one q) stays (n, omega arith, is))

-- its own turn leads from the one to the other
abbrev Leading : (P R : DebugPart → Type 0) → Type 0
Leading P R = (x : Hart) (m : Memory) → P x.debug → R (place_of x m).hart.debug

own_turn_leads : (P R : DebugPart → Type 0) (h : ℕ) (o : Option Hart) (b : Board) → slice_get b.harts h ≡ o → Leading P R → EachHart (OnlyAt h P) b
    → EachHart (OnlyAt h R) (turn_by o h b)
own_turn_leads P R h None b at leads each =
    λ j x is. record { here = λ same. absurd (none-some x (sym at ∙ ap (slice_get b.harts) (sym same) ∙ is)); others = (each j x is).others }
own_turn_leads P R h (Some x) b at leads each =
    each_put (OnlyAt h R) b.harts h x (place_of x b.memory).hart at
    (record { here = λ _. leads x b.memory ((each h x at).here refl); others = λ other. absurd (other refl) })
    (λ j y other is. record { here = λ same. absurd (other same); others = (each j y is).others })

leads_board : (P R : DebugPart → Type 0) (h : ℕ) (before behind : List ℕ) (b : Board) → KeptByTurns P → KeptByTurns R → Leading P R → EachHart (OnlyAt h P) b
    → EachHart (OnlyAt h R) (after_turns (before ++ h ∷ behind) b)
leads_board P R h before behind b keeps keeps' leads each =
    let first : EachHart (OnlyAt h P) (after_turns before b) = each_turns (OnlyAt h P) (only_at_kept h P keeps) before b each in
    let own : EachHart (OnlyAt h R) (turn h (after_turns before b)) =
    own_turn_leads P R h (slice_get (after_turns before b).harts h) (after_turns before b) refl leads first in
    subst (λ c. EachHart (OnlyAt h R) c) (sym (after_turns-append before (h ∷ behind) b))
    (each_turns (OnlyAt h R) (only_at_kept h R keeps') behind (turn h (after_turns before b)) own)

leads_site : (P R : DebugPart → Type 0) (h : ℕ) (s t : Site) → KeptByTurns P → KeptByTurns R → Leading P R → Between P h s → TurnsWith h s t → Between R h t
leads_site P R h s t keeps keeps' leads b w =
    subst (λ x. Between R h x) (sym w.is) (record {
      unit = b.unit;
      wide = wide_turns (w.before ++ h ∷ w.behind) s.board b.wide;
      harts = leads_board P R h w.before w.behind s.board keeps keeps' leads b.harts;
    })

-- lively deeds lead there
record Led (R : DebugPart → Type 0) (h : ℕ) (s t : Site) : Type 0 where
  between : Between R h t
  there : HartExists h t.board
  selected : t.unit.hartsel ≡ s.unit.hartsel

there_within : (harts : List Hart) (h : ℕ) (o : Option Hart) → slice_get harts h ≡ o → is_some o ≡ true → h < length harts
there_within harts h (Some x) at is = slice_get_within harts h x at
there_within harts h None at is = absurd (false≢true is)

lively_leads : (P R : DebugPart → Type 0) (h n : ℕ) (s t : Site) → KeptByTurns P → KeptByTurns R → Leading P R → Between P h s → HartExists h s.board
    → n ≡ harts_of s → LivelyDeeds n s t → Led R h s t
lively_leads P R h n s t keeps keeps' leads b there count l =
    let below : h < harts_of s = there_within s.board.harts h _ refl there in
    let w : TurnsWith h s (ran l.deeds s) =
    turns_with l.deeds h s (ready_quiet s b.unit) there (l.lively.turns h (subst (λ k. h < k) (sym count) below)) in
    let is : t ≡ spun (w.before ++ h ∷ w.behind) s = l.is ∙ w.is in
    record {
      between = leads_site P R h s t keeps keeps' leads b (record { before = w.before; behind = w.behind; is = is });
      there = subst (λ (x : Site). HartExists h x.board) (sym is) (there_turns (w.before ++ h ∷ w.behind) h s.board there);
      selected = ap (λ (x : Site). x.unit.hartsel) is;
    }

-- ---- what is known of the hart from the request on

-- halted, and nothing is asked; its step flag is so
record StoppedSet (step : Bool) (d : DebugPart) : Type 0 where
  no_halt : d.halt_request ≡ false
  no_resume : d.resume_request ≡ false
  halted : is_some d.halted ≡ true
  flag : d.step ≡ step

-- asked to resume and halted still, or resumed, which it has acknowledged
record GoWaits (step : Bool) (d : DebugPart) : Type 0 where
  no_halt : d.halt_request ≡ false
  halted : d.resume_request ≡ true → is_some d.halted ≡ true
  acked : d.resume_request ≡ false → d.resume_ack ≡ true
  flag : d.step ≡ step

record AckedSet (step : Bool) (d : DebugPart) : Type 0 where
  no_halt : d.halt_request ≡ false
  no_resume : d.resume_request ≡ false
  ack : d.resume_ack ≡ true
  flag : d.step ≡ step

-- and halted again
record BothSeen (d : DebugPart) : Type 0 where
  no_halt : d.halt_request ≡ false
  no_resume : d.resume_request ≡ false
  ack : d.resume_ack ≡ true
  halted : is_some d.halted ≡ true

stopped_set_kept : (step : Bool) → KeptByTurns (StoppedSet step)
stopped_set_kept step d e t p = record {
  no_halt = t.halt_request ∙ p.no_halt;
  no_resume = t.resume_request p.no_resume;
  halted = t.frozen p.halted p.no_resume;
  flag = t.step ∙ p.flag;
}

waits_acked : (asked : Bool) (step : Bool) (d e : DebugPart) → d.resume_request ≡ asked → Turned d e → GoWaits step d → AckedSet step e
waits_acked true step d e at t p = record {
  no_halt = t.halt_request ∙ p.no_halt;
  no_resume = (t.goes (p.halted at) at).0;
  ack = (t.goes (p.halted at) at).1;
  flag = t.step ∙ p.flag;
}
waits_acked false step d e at t p = record {
  no_halt = t.halt_request ∙ p.no_halt;
  no_resume = t.resume_request at;
  ack = t.acked at ∙ p.acked at;
  flag = t.step ∙ p.flag;
}

acked_waits : (step : Bool) (d : DebugPart) → AckedSet step d → GoWaits step d
acked_waits step d p = record {
  no_halt = p.no_halt;
  halted = λ asked. absurd (false≢true (sym p.no_resume ∙ asked));
  acked = λ _. p.ack;
  flag = p.flag;
}

go_waits_kept : (step : Bool) → KeptByTurns (GoWaits step)
go_waits_kept step d e t p = acked_waits step e (waits_acked d.resume_request step d e refl t p)

acked_set_kept : (step : Bool) → KeptByTurns (AckedSet step)
acked_set_kept step d e t p = record {
  no_halt = t.halt_request ∙ p.no_halt;
  no_resume = t.resume_request p.no_resume;
  ack = t.acked p.no_resume ∙ p.ack;
  flag = t.step ∙ p.flag;
}

both_seen_kept : KeptByTurns BothSeen
both_seen_kept d e t p = record {
  no_halt = t.halt_request ∙ p.no_halt;
  no_resume = t.resume_request p.no_resume;
  ack = t.acked p.no_resume ∙ p.ack;
  halted = t.frozen p.halted p.no_resume;
}

-- ---- what its own turn makes of that

halts_by : (halted : Option Cause) (resume request fired at_ebreak : Bool) (touch : Touch) (o : Outcome) (x : Hart) → x.debug.halted ≡ halted
    → resume ≡ false → request ≡ true → is_some (place_by halted resume request fired at_ebreak touch o x).hart.debug.halted ≡ true
halts_by (Some why) true request fired at_ebreak touch o x at none asked = absurd (false≢true (sym none))
halts_by (Some why) false request fired at_ebreak touch o x at none asked = ap is_some at
halts_by None resume true fired at_ebreak touch o x at none asked = refl
halts_by None resume false fired at_ebreak touch o x at none asked = absurd (false≢true asked)

halt_leads : Leading HaltAsked HaltSeen
unfolding place_of
halt_leads x m p =
    let k : HaltAsked (place_of x m).hart.debug = halt_asked_kept x.debug _ (hart_turned x m) p in
    record {
      asked = k.asked;
      no_resume = k.no_resume;
      halted = halts_by x.debug.halted x.debug.resume_request x.debug.halt_request (some_fires (touch_of x.core m) x) (stops_at_ebreak x m) (touch_of x.core m)
          (turn_outcome x m) x refl p.no_resume p.asked;
    }

ack_leads : (step : Bool) → Leading (GoWaits step) (AckedSet step)
ack_leads step x m p = waits_acked x.debug.resume_request step x.debug _ refl (hart_turned x m) p

step_halts : (step : Bool) (d e : DebugPart) → step ≡ true → is_some d.halted ≡ true → is_some (if step then d else e).halted ≡ true
step_halts true d e set halted = halted
step_halts false d e set halted = absurd (false≢true set)

ends_by : (halted : Option Cause) (resume request fired at_ebreak : Bool) (touch : Touch) (o : Outcome) (x : Hart) → x.debug.halted ≡ halted
    → resume ≡ false → x.debug.step ≡ true → is_some (place_by halted resume request fired at_ebreak touch o x).hart.debug.halted ≡ true
ends_by (Some why) true request fired at_ebreak touch o x at none set = absurd (false≢true (sym none))
ends_by (Some why) false request fired at_ebreak touch o x at none set = ap is_some at
ends_by None resume true fired at_ebreak touch o x at none set = refl
ends_by None resume false true at_ebreak touch o x at none set = refl
ends_by None resume false false true touch o x at none set = refl
ends_by None resume false false false touch o x at none set = step_halts x.debug.step _ _ set refl

both_leads : Leading (AckedSet true) BothSeen
unfolding place_of
both_leads x m p =
    let k : AckedSet true (place_of x m).hart.debug = acked_set_kept true x.debug _ (hart_turned x m) p in
    record {
      no_halt = k.no_halt;
      no_resume = k.no_resume;
      ack = k.ack;
      halted = ends_by x.debug.halted x.debug.resume_request x.debug.halt_request (some_fires (touch_of x.core m) x) (stops_at_ebreak x m) (touch_of x.core m)
          (turn_outcome x m) x refl p.no_resume p.flag;
    }

-- ---- what a Look shows of it

seen_halted : (halted : Option Cause) (ack : Bool) → is_some halted ≡ true → sees_halted (seen_by halted ack) ≡ true
seen_halted (Some why) ack is = refl
seen_halted None ack is = absurd (false≢true is)

seen_ack : (halted : Option Cause) (ack : Bool) → ack ≡ true → sees_ack (seen_by halted ack) ≡ true
seen_ack (Some why) ack is = is
seen_ack None ack is = is

seen_both : (halted : Option Cause) (ack : Bool) → is_some halted ≡ true → ack ≡ true → sees_both (seen_by halted ack) ≡ true
seen_both (Some why) true is acked = refl
seen_both (Some why) false is acked = absurd (false≢true acked)
seen_both None ack is acked = absurd (false≢true is)

-- a Look at a hart of which this is known shows what is waited for
abbrev ShownBy : (Seen → Bool) → (DebugPart → Type 0) → Type 0
ShownBy test R = (x : Hart) → R x.debug → test (seen_by x.debug.halted x.debug.resume_ack) ≡ true

shown_here : (test : Seen → Bool) (R : DebugPart → Type 0) (h : ℕ) (o : Option Hart) (b : Board) → slice_get b.harts h ≡ o → is_some o ≡ true
    → EachHart (OnlyAt h R) b → ShownBy test R → test (seen_here o) ≡ true
shown_here test R h None b at there each shows = absurd (false≢true there)
shown_here test R h (Some x) b at there each shows = shows x ((each h x at).here refl)

look_led : (test : Seen → Bool) (R : DebugPart → Type 0) (h word result : ℕ) (s : Site) → Between R h s → HartExists h s.board → s.unit.hartsel ≡ h
    → ShownBy test R → word ≡ value_of result → result ≡ operation_result (Read dmstatus_address) s → test (seen_in word) ≡ true
look_led test R h word result s b there sel shows word_is result_is =
    ap (λ w. test (seen_in w)) (word_is ∙ ap value_of result_is) ∙ ap test (look_shows s b.unit) ∙ ap (λ k. test (seen_at k s.board)) sel
    ∙ shown_here test R h (slice_get s.board.harts h) s.board refl there b.harts shows

in_vain : (test : Seen → Bool) (word : ℕ) → test (seen_in word) ≡ true → ShowsNot test word → ⊥
in_vain test word shown not_shown = false≢true (sym not_shown ∙ shown)

-- ---- requests and Looks

-- the operation alone, behind what led up to it
alone : (n : ℕ) (op : DmiOp) (result : ℕ) (s t : Site) → PacedAt n op result s t → OneOperation op result s t
unfolding ran
alone n op result s t p = record {
  before = p.before.deeds;
  behind = [];
  is = p.is ∙ ap (operated op) p.before.is;
  result_is = p.result_is ∙ ap (operation_result op) p.before.is;
}

-- the request is made, and this is known of hart h behind it
record Asked (R : DebugPart → Type 0) (h n : ℕ) (s t : Site) : Type 0 where
  between : Between R h t
  there : HartExists h t.board
  selected : t.unit.hartsel ≡ h
  harts : n ≡ harts_of t

first_shown : (test : Seen → Bool) (P R : DebugPart → Type 0) (h word n : ℕ) (m s t : Site) → KeptByTurns P → KeptByTurns R → Leading P R → ShownBy test R
    → Asked P h n s m → (result : ℕ) → word ≡ value_of result → PacedAt n (Read dmstatus_address) result m t → test (seen_in word) ≡ true
first_shown test P R h word n m s t keeps keeps' leads shows a result word_is p =
    let l : Led R h m p.at = lively_leads P R h n m p.at keeps keeps' leads a.between a.there a.harts p.before in
    look_led test R h word result p.at l.between l.there (l.selected ∙ a.selected) shows word_is p.result_is

same_harts : (n : ℕ) (op : DmiOp) (result : ℕ) (s t : Site) → n ≡ harts_of s → PacedAt n op result s t → n ≡ harts_of t
same_harts n op result s t count p =
    count ∙ sym (ran_harts p.before.deeds s) ∙ sym (ap harts_of p.before.is) ∙ sym ((operation_adds op p.at).added.harts) ∙ sym (ap harts_of p.is)

-- ---- a halt

halt_asked : (h n result : ℕ) (s t : Site) → h < 2 ^ 10 → CanRun h s → n ≡ harts_of s → PacedAt n (Write dmcontrol_address (control_word Halt h)) result s t
    → Asked HaltAsked h n s t
halt_asked h n result s t small can count p =
    let op : DmiOp = Write dmcontrol_address (control_word Halt h) in
    let m : Moved (HaltReq h) HaltAsked h s t = moves_halt h (value_of result) s t small (ready_between h s can.ready) can.there
    (record { result = result; one = alone n op result s t p; word_is = refl }) in
    record {
      between = m.between;
      there = there_pointed (HaltReq h) h (target_of s) (target_of t) m.point.pointed can.there;
      selected = ap (λ (u : DebugModule). u.hartsel) m.point.unit;
      harts = same_harts n op result s t count p;
    }

halt_shown : (h word : ℕ) (s t : Site) → h < 2 ^ 10 → CanRun h s → PacedRan (harts_of s) (asks Halt h ++ look_act word ∷ []) s t → sees_halted (seen_in word) ≡ true
halt_shown h word s t small can (m, (request, p), (e, (result, is, q), behind)) =
    first_shown sees_halted HaltAsked HaltSeen h word (harts_of s) m s e halt_asked_kept halt_seen_kept halt_leads
    (λ x k. seen_halted x.debug.halted x.debug.resume_ack k.halted) (halt_asked h (harts_of s) request s m small can refl p) result is q

-- ---- a resume

-- hart h is halted, and the chip is ready
pub record CanGo (h : ℕ) (s : Site) : Type 0 where
  pub ready : SiteReady s
  pub halted : HartHalted h s.board

stopped_start : (h : ℕ) (s : Site) (can : CanGo h s) → Between (StoppedSet can.halted.hart.debug.step) h s
stopped_start h s can =
    let b : Between Unasked h s = ready_between h s can.ready in
    let k : HartHalted h s.board = can.halted in
    record {
      unit = b.unit;
      wide = b.wide;
      harts = λ j x is. record {
        here = λ same.
            let u : Unasked x.debug = (b.harts j x is).here same in
            let e : k.hart ≡ x = same_Some k.hart x (sym k.is ∙ sym (ap (slice_get s.board.harts) same) ∙ is) in
            record {
              no_halt = u.no_halt;
              no_resume = u.no_resume;
              halted = subst (λ (y : Hart). is_some y.debug.halted ≡ true) e k.halted;
              flag = subst (λ (y : Hart). y.debug.step ≡ k.hart.debug.step) e refl;
            };
        others = (b.harts j x is).others;
      };
    }

asked_set : (step : Bool) (halted : Option Cause) (d : DebugPart) → d.halted ≡ halted → StoppedSet step d → GoWaits step (resume_asked_by halted d)
asked_set step (Some why) d at p = record { no_halt = p.no_halt; halted = λ _. p.halted; acked = λ none. absurd (false≢true (sym none)); flag = p.flag }
asked_set step None d at p = absurd (false≢true (ap is_some (sym at) ∙ p.halted))

go_asks : (step : Bool) (h : ℕ) (b : Board) → EachHart (OnlyAt h (StoppedSet step)) b → EachHart (OnlyAt h (GoWaits step)) (after_point (ResumeReq h) b)
go_asks step h b each = each_changed (OnlyAt h (StoppedSet step)) (OnlyAt h (GoWaits step)) resume_asked h b
    (λ x o. record { here = λ same. asked_set step x.debug.halted x.debug refl (o.here refl); others = λ other. absurd (other refl) })
    (λ j x other o. record { here = λ same. absurd (other same); others = o.others })
    each

go_asked : (h n result : ℕ) (s t : Site) → h < 2 ^ 10 → (can : CanGo h s) → n ≡ harts_of s
    → PacedAt n (Write dmcontrol_address (control_word Resume h)) result s t → Asked (GoWaits can.halted.hart.debug.step) h n s t
go_asked h n result s t small can count p =
    let op : DmiOp = Write dmcontrol_address (control_word Resume h) in
    let step : Bool = can.halted.hart.debug.step in
    let there : HartExists h s.board = halted_there h s.board can.halted in
    let m : Moved (ResumeReq h) (GoWaits step) h s t =
    moved op (ResumeReq h) h result (StoppedSet step) (GoWaits step) s t (stopped_set_kept step) (go_waits_kept step) (stopped_start h s can)
    (resume_notes h s small (ready_between h s can.ready) there) (λ harts at each. go_asks step h (after_turns harts s.board) each) (wide_resume_asked h)
    (alone n op result s t p) in
    record {
      between = m.between;
      there = there_pointed (ResumeReq h) h (target_of s) (target_of t) m.point.pointed there;
      selected = ap (λ (u : DebugModule). u.hartsel) m.point.unit;
      harts = same_harts n op result s t count p;
    }

resume_shown : (h word : ℕ) (s t : Site) → h < 2 ^ 10 → CanGo h s → PacedRan (harts_of s) (asks Resume h ++ look_act word ∷ []) s t
    → sees_ack (seen_in word) ≡ true
resume_shown h word s t small can (m, (request, p), (e, (result, is, q), behind)) =
    let step : Bool = can.halted.hart.debug.step in
    first_shown sees_ack (GoWaits step) (AckedSet step) h word (harts_of s) m s e (go_waits_kept step) (acked_set_kept step) (ack_leads step)
    (λ x k. seen_ack x.debug.halted x.debug.resume_ack k.ack) (go_asked h (harts_of s) request s m small can refl p) result is q

-- ---- a single step

-- behind the first Look the ack stands
look_acked : (h n word result : ℕ) (m s t : Site) → Asked (GoWaits true) h n s m → word ≡ value_of result → PacedAt n (Read dmstatus_address) result m t
    → Asked (AckedSet true) h n s t
unfolding ran
look_acked h n word result m s t a word_is p =
    let l : Led (AckedSet true) h m p.at =
    lively_leads (GoWaits true) (AckedSet true) h n m p.at (go_waits_kept true) (acked_set_kept true) (ack_leads true) a.between a.there a.harts p.before in
    let saw_it : Saw (AckedSet true) h (seen_in word) p.at t =
    saw h word (AckedSet true) (AckedSet true) p.at t (acked_set_kept true) (acked_set_kept true) l.between (l.selected ∙ a.selected) (λ x b is shows k. k)
    (record { result = result; one = record { before = []; behind = []; is = p.is; result_is = p.result_is }; word_is = word_is }) in
    record {
      between = saw_it.between;
      there = there_pointed (Look h) h (target_of p.at) (target_of t) saw_it.looked.pointed l.there;
      selected = ap (λ (u : DebugModule). u.hartsel) saw_it.unit;
      harts = same_harts n (Read dmstatus_address) result m t a.harts p;
    }

step_shown : (h first word : ℕ) (s t : Site) → h < 2 ^ 10 → (can : CanGo h s) → can.halted.hart.debug.step ≡ true
    → PacedRan (harts_of s) (asks Resume h ++ look_act first ∷ look_act word ∷ []) s t → sees_both (seen_in word) ≡ true
step_shown h first word s t small can set (m, (request, p), (e, (result, is, q), (g, (result', is', r), behind))) =
    let a : Asked (GoWaits true) h (harts_of s) s m =
    subst (λ b. Asked (GoWaits b) h (harts_of s) s m) set (go_asked h (harts_of s) request s m small can refl p) in
    first_shown sees_both (AckedSet true) BothSeen h word (harts_of s) e s g (acked_set_kept true) both_seen_kept both_leads
    (λ x k. seen_both x.debug.halted x.debug.resume_ack k.halted k.ack) (look_acked h (harts_of s) first result m s e a is q) result' is' r

-- ---- Looks in vain

one_in_vain : (test : Seen → Bool) (request : Request) (h : ℕ) (old mid : Tells) (words : List ℕ) → length words ≡ 1 → All (ShowsNot test) words
    → Did old (asks request h ++ map look_act words) mid
    → ((word : ℕ) → Did old (asks request h ++ look_act word ∷ []) mid → test (seen_in word) ≡ true) → ⊥
one_in_vain test request h old mid [] count none did shows = let no : ⊥ = cc in no
one_in_vain test request h old mid (w ∷ []) count none did shows = in_vain test w (shows w did) (All-head (ShowsNot test) w [] none)
one_in_vain test request h old mid (w ∷ v ∷ ws) count none did shows = let no : ⊥ = cc in no

two_in_vain : (test : Seen → Bool) (request : Request) (h : ℕ) (old mid : Tells) (words : List ℕ) → length words ≡ 2 → All (ShowsNot test) words
    → Did old (asks request h ++ map look_act words) mid
    → ((first word : ℕ) → Did old (asks request h ++ look_act first ∷ look_act word ∷ []) mid → test (seen_in word) ≡ true) → ⊥
two_in_vain test request h old mid [] count none did shows = let no : ⊥ = cc in no
two_in_vain test request h old mid (w ∷ []) count none did shows = let no : ⊥ = cc in no
two_in_vain test request h old mid (w ∷ v ∷ []) count none did shows =
    in_vain test v (shows w v did) (All-head (ShowsNot test) v [] (All-tail (ShowsNot test) w (v ∷ []) none))
two_in_vain test request h old mid (w ∷ v ∷ u ∷ ws) count none did shows = let no : ⊥ = cc in no

-- by what is told
unpaced_by : (P : Site → Type 0) (told : Option Far) (far : Option Far) → far ≡ told → Holds P told
    → ((f : Far) → far ≡ Some f → P (site_of f) → Paced (chip_of f).inside → ⊥) → IfSome told (λ f. Paced (chip_of f).inside → ⊥)
unpaced_by P None far at holds never = tt
unpaced_by P (Some f) far at holds never = never f at holds

pub can_go : (h : ℕ) (told : Option Far) → IsReady told → IsHalted h told → Holds (CanGo h) told
can_go h None ready halted = tt
can_go h (Some f) ready halted = record { ready = ready; halted = halted }

pub halt_unpaced : (h : ℕ) → h < 2 ^ 10 → (old : Tells) → Holds (CanRun h) old.far → VainLooks 1 Halt sees_halted h old
    → IfSome old.far (λ f. Paced (chip_of f).inside → ⊥)
halt_unpaced h small old can v = unpaced_by (CanRun h) old.far old.far refl can (λ f at c p.
    one_in_vain sees_halted Halt h old v.mid v.words v.count v.none v.did (λ word did.
    let r : FarPaced (asks Halt h ++ look_act word ∷ []) f v.mid.far = far_paced old f at p (asks Halt h ++ look_act word ∷ []) v.mid did in
    halt_shown h word (site_of f) (site_of r.far) small c r.ran))

pub resume_unpaced : (h : ℕ) → h < 2 ^ 10 → (old : Tells) → Holds (CanGo h) old.far → VainLooks 1 Resume sees_ack h old
    → IfSome old.far (λ f. Paced (chip_of f).inside → ⊥)
resume_unpaced h small old can v = unpaced_by (CanGo h) old.far old.far refl can (λ f at c p.
    one_in_vain sees_ack Resume h old v.mid v.words v.count v.none v.did (λ word did.
    let r : FarPaced (asks Resume h ++ look_act word ∷ []) f v.mid.far = far_paced old f at p (asks Resume h ++ look_act word ∷ []) v.mid did in
    resume_shown h word (site_of f) (site_of r.far) small c r.ran))

-- with the step flag set
pub record CanStep (h : ℕ) (s : Site) : Type 0 where
  pub can : CanGo h s
  pub set : can.halted.hart.debug.step ≡ true

pub can_step : (h : ℕ) (told : Option Far) → IsReady told → IsHalted h told → StepSet h told → Holds (CanStep h) told
can_step h None ready halted set = tt
can_step h (Some f) ready halted set = record { can = record { ready = ready; halted = halted }; set = set halted.hart halted.is }

pub step_unpaced : (h : ℕ) → h < 2 ^ 10 → (old : Tells) → Holds (CanStep h) old.far → VainLooks 2 Resume sees_both h old
    → IfSome old.far (λ f. Paced (chip_of f).inside → ⊥)
step_unpaced h small old can v = unpaced_by (CanStep h) old.far old.far refl can (λ f at c p.
    two_in_vain sees_both Resume h old v.mid v.words v.count v.none v.did (λ first word did.
    let acts : List Act = asks Resume h ++ look_act first ∷ look_act word ∷ [] in
    let r : FarPaced acts f v.mid.far = far_paced old f at p acts v.mid did in
    step_shown h first word (site_of f) (site_of r.far) small c.can c.set r.ran))
