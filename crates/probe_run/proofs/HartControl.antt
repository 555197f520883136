-- Each call of run control on a told site: what happened at the harts, and what is known behind it.
use Rattle.std.proofs.Common.{◌≡◌, ◌∙◌, ◌++◌, ◌+◌, ◌<◌, ◌^◌, ◌&&◌, ℕ, List, [], length, map, All, Bool, true, false, Option, Some, None, is_some, slice_get}
use Rattle.std.proofs.Common.{refl, sym, ap, subst}
use Rattle.std.proofs.lemmas.Bool.{false≢true}
use Rattle.rv_model.specs.declared.cause.Cause.{Cause}
use Rattle.rv_model.specs.Board.{Board, Hart}
use Rattle.debug_model.specs.Addresses.{dmcontrol_address, dmstatus_address}
use Rattle.debug_model.specs.declared.dmi_op.DmiOp.TheVariants.{Read, Write}
use Rattle.debug_model.specs.declared.point.Point.{Point}
use Rattle.debug_model.specs.declared.point.Point.TheVariants.{Look, HaltReq, HaltClear}
use Rattle.debug_model.specs.Dmi.{SiteCut}
use Rattle.debug_model.specs.Module.{Site}
use Rattle.debug_model.specs.Told.{HartExists, HartHalted, SiteReady}
use Rattle.abstract_debugger.specs.Debugger.{Seen, most_looks, seen_at, seen_by, seen_here, sees_ack, sees_both, sees_halted}
use Rattle.abstract_debugger.specs.Stands.{Looked, Target}
use Rattle.probe_run.specs.declared.control.Request.TheVariants.{Nothing, Halt}
use Rattle.probe_run.specs.Happens.{HaltsAt, InVain, MetAt, target_of}
use Rattle.probe_run.specs.Looks.{Shows, ShowsNot, look_act, looks_until, seen_in}
use Rattle.probe_run.specs.Outcomes.{asks}
use Rattle.probe_run.specs.Requests.{control_word}
use Rattle.probe_run.proofs.Asking.{GoAsked, HaltAsked, HaltSeen, OnlyAt, Stopped, Unasked, halt_asked_kept, halt_seen_kept}
use Rattle.probe_run.proofs.Between.{Between, between_ready, between_weaker, ready_between, stopped_unasked}
use Rattle.probe_run.proofs.Calls.{RanBoth, ran_split}
use Rattle.probe_run.proofs.Moves.{Moved, Reveals, cut_point, halt_notes, moves_clear, moves_halt, selected_in, there_pointed}
use Rattle.probe_run.proofs.RanLemmas.{Ran}
use Rattle.probe_run.proofs.Runs.{MetRan, MissedRan, RunCutAs, look_cut_ran, met_ran, missed_ran, request_cut}
use Rattle.probe_run.proofs.Wide.{EachHart}

-- ---- what a Look reveals

pub at_hart : (h : ℕ) (now : Seen) (x : Hart) (b : Board) → slice_get b.harts h ≡ Some x → now ≡ seen_at h b → now ≡ seen_by x.debug.halted x.debug.resume_ack
at_hart h now x b at is = is ∙ ap seen_here at

pub halted_of : (halted : Option Cause) (ack : Bool) → sees_halted (seen_by halted ack) ≡ true → is_some halted ≡ true
halted_of (Some why) ack is = refl
halted_of None ack is = absurd (false≢true is)

ack_of : (halted : Option Cause) (ack : Bool) → sees_ack (seen_by halted ack) ≡ true → ack ≡ true
ack_of (Some why) ack is = is
ack_of None ack is = is

and_first : (a b : Bool) → (a && b) ≡ true → a ≡ true
and_first true b is = refl
and_first false b is = absurd (false≢true is)

and_second : (a b : Bool) → (a && b) ≡ true → b ≡ true
and_second true b is = is
and_second false b is = absurd (false≢true is)

no_request : (request ack : Bool) → (request ≡ true → ack ≡ false) → ack ≡ true → request ≡ false
no_request true ack waits is = absurd (false≢true (sym (waits refl) ∙ is))
no_request false ack waits is = refl

reveals_halt : (h : ℕ) (now : Seen) → sees_halted now ≡ true → Reveals h now HaltAsked HaltSeen
reveals_halt h now shown x b at is p =
    record {
      asked = p.asked;
      no_resume = p.no_resume;
      halted =
          halted_of x.debug.halted x.debug.resume_ack (ap sees_halted (sym (at_hart h now x b at is)) ∙ shown);
    }

pub reveals_ack : (h : ℕ) (now : Seen) → sees_ack now ≡ true → Reveals h now GoAsked Unasked
reveals_ack h now shown x b at is p =
    record {
      no_halt = p.no_halt;
      no_resume =
          no_request x.debug.resume_request x.debug.resume_ack p.waits
          (ack_of x.debug.halted x.debug.resume_ack (ap sees_ack (sym (at_hart h now x b at is)) ∙ shown));
    }

pub reveals_both : (h : ℕ) (now : Seen) → sees_both now ≡ true → Reveals h now GoAsked Stopped
reveals_both h now shown x b at is p =
    let u : Unasked x.debug = reveals_ack h now (and_first (sees_ack now) (sees_halted now) shown) x b at is p in
    record {
      no_halt = u.no_halt;
      no_resume = u.no_resume;
      halted =
          halted_of x.debug.halted x.debug.resume_ack (ap sees_halted (sym (at_hart h now x b at is)) ∙ and_second (sees_ack now) (sees_halted now) shown);
    }

-- ---- a hart that is there stays there

there_looked : (h : ℕ) (now : Seen) (old new : Target) → Looked h now old new → HartExists h old.board → HartExists h new.board
there_looked h now old new l is = there_pointed (Look h) h old new l.pointed is

there_vain : (test : Seen → Bool) (h : ℕ) (old : Target) (n : ℕ) (last : Seen) (new : Target) → InVain test h old n last new → HartExists h old.board
    → HartExists h new.board
there_vain test h old n last new InVain.none is = is
there_vain test h old n last new (InVain.again k before now mid end v look shown) is = there_looked h now mid end look (there_vain test h old k before mid v is)

pub there_met : (p : Point) (test : Seen → Bool) (h : ℕ) (old new : Target) → MetAt p test h old new → HartExists h old.board → HartExists h new.board
there_met p test h old new m is =
    there_looked h m.now m.mid new m.look (there_vain test h m.asked m.looks m.last m.mid m.in_vain (there_pointed p h old m.asked m.asks is))

halted_by : (o : Option Hart) (h : ℕ) (b : Board) → slice_get b.harts h ≡ o → is_some o ≡ true → EachHart (OnlyAt h Stopped) b → HartHalted h b
halted_by (Some x) h b at there each = record { hart = x; is = at; halted = ((each h x at).here refl).halted }
halted_by None h b at there each = absurd (false≢true there)

pub stopped_halted : (h : ℕ) (s : Site) → HartExists h s.board → Between Stopped h s → HartHalted h s.board
stopped_halted h s there b = halted_by (slice_get s.board.harts h) h s.board refl there b.harts

pub halted_there : (h : ℕ) (b : Board) → HartHalted h b → HartExists h b
halted_there h b k = ap is_some k.is

-- ---- a halt

pub record CanRun (h : ℕ) (s : Site) : Type 0 where
  pub ready : SiteReady s
  pub there : HartExists h s.board

pub record HaltRan (h : ℕ) (s t : Site) : Type 0 where
  pub happened : HaltsAt h (target_of s) (target_of t)
  pub unit : t.unit ≡ selected_in h s.unit
  pub ready : SiteReady t
  pub halted : HartHalted h t.board

pub halt_met : (h : ℕ) → h < 2 ^ 10 → (vain : List ℕ) (last : ℕ) → All (ShowsNot sees_halted) vain → Shows sees_halted last → length vain < most_looks
    → (s t : Site) → CanRun h s → Ran (asks Halt h ++ looks_until vain last) s t → MetRan (HaltReq h) sees_halted HaltSeen h s t
halt_met h small vain last all shown few s t can (m, did, rest) =
    met_ran (HaltReq h) sees_halted HaltAsked HaltSeen halt_asked_kept halt_seen_kept h s m t vain last
    (moves_halt h (control_word Halt h) s m small (ready_between h s can.ready) can.there did) all shown few (reveals_halt h (seen_in last) shown) rest

pub halt_ran : (h : ℕ) → h < 2 ^ 10 → (vain : List ℕ) (last : ℕ) → All (ShowsNot sees_halted) vain → Shows sees_halted last → length vain < most_looks
    → (s t : Site) → CanRun h s → Ran ((asks Halt h ++ looks_until vain last) ++ asks Nothing h) s t → HaltRan h s t
halt_ran h small vain last all shown few s t can ran =
    let both : RanBoth (asks Halt h ++ looks_until vain last) (asks Nothing h) s t =
    ran_split (asks Halt h ++ looks_until vain last) (asks Nothing h) s t ran in
    let met : MetRan (HaltReq h) sees_halted HaltSeen h s both.mid = halt_met h small vain last all shown few s both.mid can both.first in
    let there : HartExists h both.mid.board = there_met (HaltReq h) sees_halted h (target_of s) (target_of both.mid) met.met can.there in
    let end : Site = both.second.0 in
    let c : Moved (HaltClear h) Stopped h both.mid end = moves_clear h (control_word Nothing h) both.mid end small met.between there both.second.1 in
    let r : HaltRan h s end = record {
      happened = record { mid = target_of both.mid; met = met.met; clears = c.point.pointed };
      unit = c.point.unit ∙ ap (selected_in h) met.unit;
      ready = between_ready h end (between_weaker Stopped Unasked h end stopped_unasked c.between);
      halted = stopped_halted h end (there_pointed (HaltClear h) h (target_of both.mid) (target_of end) c.point.pointed there) c.between;
    } in
    subst (λ x. HaltRan h s x) (sym both.second.2) r

pub halt_missed : (h : ℕ) → h < 2 ^ 10 → (front : List ℕ) (last : ℕ) → All (ShowsNot sees_halted) front → ShowsNot sees_halted last
    → length front + 1 ≡ most_looks
    → (s t : Site) → CanRun h s → Ran (asks Halt h ++ looks_until front last) s t → MissedRan (HaltReq h) sees_halted HaltAsked h (seen_in last) s t
halt_missed h small front last all not_shown count s t can (m, did, rest) =
    missed_ran (HaltReq h) sees_halted HaltAsked halt_asked_kept h s m t front last
    (moves_halt h (control_word Halt h) s m small (ready_between h s can.ready) can.there did) all not_shown count rest

pub halt_request_cut : (h : ℕ) → h < 2 ^ 10 → (s e t : Site) → CanRun h s → Ran [] s e → SiteCut (Write dmcontrol_address (control_word Halt h)) e t
    → RunCutAs (HaltReq h) sees_halted h s t
halt_request_cut h small s e t can is cut =
    request_cut (HaltReq h) sees_halted h s t (cut_point (Write dmcontrol_address (control_word Halt h)) (HaltReq h) h s t can.ready.unit
    (halt_notes Unasked h s small (ready_between h s can.ready) can.there) (subst (λ x. SiteCut (Write dmcontrol_address (control_word Halt h)) x t) is cut))

pub halt_look_cut : (h : ℕ) → h < 2 ^ 10 → (vain : List ℕ) → All (ShowsNot sees_halted) vain → length vain < most_looks
    → (s e t : Site) → CanRun h s → Ran (asks Halt h ++ map look_act vain) s e → SiteCut (Read dmstatus_address) e t → RunCutAs (HaltReq h) sees_halted h s t
halt_look_cut h small vain all few s e t can (m, did, rest) cut =
    look_cut_ran (HaltReq h) sees_halted HaltAsked halt_asked_kept h s m e t vain
    (moves_halt h (control_word Halt h) s m small (ready_between h s can.ready) can.there did) all few rest cut
