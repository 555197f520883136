-- What a session with software breakpoints has written over a chip as it was loaded, by what a user sees.
use Rattle.std.proofs.Common.{◌≡◌, ◌∙◌, ◌++◌, ◌+◌, ◌<◌, ◌≤◌, ℕ, zero, suc, Bool, true, false, List, [], replicate, Option, Some, None, IfSome, All, slice_get}
use Rattle.std.proofs.Common.{refl}
use Rattle.std.proofs.Common.{sym, ap, subst, arith, if◌then◌else◌}
use Rattle.std.specs.Prelude.{slice_index_or}
use Rattle.std.proofs.lemmas.Option.{none-some}
use Rattle.jt_base.specs.Sink.{GrewByPrefix, grown}
use Rattle.rv_model.specs.declared.cause.Cause.{Cause}
use Rattle.rv_model.specs.declared.version.Version.{Version}
use Rattle.rv_model.specs.Board.{Board, Hart, Machine, machine_of, reset_harts}
use Rattle.rv_model.specs.TurnLaws.{StepsUnmasked}
use Rattle.debug_model.specs.declared.point.Point.{Point}
use Rattle.debug_model.specs.declared.point.Point.TheVariants.{Look}
use Rattle.debug_model.specs.declared.soft_command.SoftCommand.{SoftCommand}
use Rattle.debug_model.specs.declared.soft_command.SoftCommand.TheVariants.{Plain, Soft, Unsoft}
use Rattle.debug_model.specs.Chip.{Live}
use Rattle.debug_model.specs.Loaded.{AsLoaded}
use Rattle.debug_model.specs.SoftCommand.{IsSoftCommand}
use Rattle.debug_model.specs.Told.{Far, IsAsLoaded, site_of}
use Rattle.abstract_debugger.specs.Debugger.{Seen, first_state, look, seen_at}
use Rattle.abstract_debugger.specs.Lines.{Line, any_error, text_of_all}
use Rattle.abstract_debugger.specs.Plan.{Plan}
use Rattle.abstract_debugger.specs.Plan.Plan.{stop}
use Rattle.abstract_debugger.specs.Plan.PlanEnd.{Done}
use Rattle.abstract_debugger.specs.Known.{IsFresh}
use Rattle.abstract_debugger.specs.Stands.{Deals, IsTranscribed, Looked, Origin, Target}
use Rattle.abstract_debugger.specs.Transcript.{End, graded, start}
use Rattle.abstract_debugger.specs.Turns.{after_turns}
use Rattle.abstract_debugger.specs.Ways.Way.{Idle}
use Rattle.abstract_debugger.proofs.DealsLemmas.{deals_at_plan, deals_looked, deals_starts}
use Rattle.abstract_debugger.proofs.StandsLemmas.{quiet_board, transcribed}
use Rattle.abstract_debugger.proofs.Transparency.{fresh_unmasked}
use Rattle.probe_run.specs.Acts.{Tells}
use Rattle.probe_run.specs.Happens.{target_of}
use Rattle.debug_model.specs.declared.dmi.DmiFault.TheVariants as dmi_fault
use Rattle.probe_run.specs.declared.fault.ConnectFault.{ConnectFault}
use Rattle.probe_run.specs.declared.fault.ConnectFault.TheVariants as connect
use Rattle.probe_run.specs.Opening.{IsDmiFault, LosesLoaded, OpenedChip, OpensLoaded, UnopenedChip}
use Rattle.probe_session.specs.declared.ended.Ended.{Ended}
use Rattle.probe_session.specs.declared.ended.Ended.TheVariants as ended
use Rattle.probe_session.specs.declared.fault.Failure.{Failure}
use Rattle.probe_session.specs.declared.fault.Failure.TheVariants as failure
use Rattle.probe_session.specs.declared.fault.LostCause.TheVariants as lost
use Rattle.probe_session.specs.declared.odd.Odd.TheVariants as odd
use Rattle.probe_session.specs.declared.session.Session.{Session}
use Rattle.probe_session.specs.Commands.{state_of}
use Rattle.probe_session.specs.Led.{DealsAt}
use Rattle.probe_session.specs.Places.{idle}
use Rattle.probe_session.specs.Scripts.{ended_unopened}
use Rattle.probe_session.proofs.Tolds.{at_far}
use Rattle.probe_session.specs.Transcribed.{OnTheWay, Still}
use Rattle.probe_session.proofs.BrokeOff.{still_as}
use Rattle.probe_session.proofs.OnTheWay.{cut_way, on_way}
use Rattle.probe_session.proofs.Spoken.{grown_none}
use Rattle.probe_session.proofs.Transcribing.{found_far, front_written, lines_written, loaded_fresh}
use Rattle.soft_laws.specs.Laws.{HasFewHarts, HasRun, IsHidden, IsSoftWithinRanges, IsUndisturbed, chip_outcome}
use Rattle.soft_laws.specs.Lowered.{lower, no_table}
use Rattle.soft_laws.specs.SoftDebugger.{first_soft_state, soft_commands, soft_session, soft_transcript}
use Rattle.soft_laws.proofs.HiddenScripts.{chips_are_undebugged, sessions_hide}
use Rattle.soft_laws.proofs.LoweredGood.{soft_first_match}
use Rattle.soft_break.specs.Patches.{Patches, no_patches}
use Rattle.soft_session.specs.declared.session.SoftSession.{SoftSession}
use Rattle.soft_session.specs.Acts.{FollowedLed, ScriptLed, ended_failing}
use Rattle.soft_session.specs.Cuts.{CutShort, LeftSoft, QuietAt, ScriptCut}
use Rattle.soft_session.specs.Led.{at_plan, soft_state}
use Rattle.soft_session.specs.Tables.{Holds}
use Rattle.soft_session.specs.Transcribed.{IsSoftCut, IsSoftFront, IsSoftTranscript, LeavesAlone, SoftTranscribedAs, WrittenAs, user_outcome}
use Rattle.soft_session.proofs.LowerLemmas.{lower_look}
use Rattle.soft_session.proofs.TableLemmas.{holds_none}

-- ---- the premises of the laws

within_one : (c : SoftCommand) → IsSoftCommand c → IsSoftWithinRanges c
within_one (Plain c) is = is
within_one (Soft a) is = is.0
within_one (Unsoft a) is = is.0

within_all : (script : List SoftCommand) → All IsSoftCommand script → All IsSoftWithinRanges script
within_all script all k d less = within_one (slice_index_or script k d) (all k d less)

below_count : (version : Version) (n id h : ℕ) (halted : Option Cause) (x : Hart) → slice_get (reset_harts version id (replicate n halted)) h ≡ Some x → h < n
below_count version zero id h halted x is = absurd (none-some x is)
below_count version (suc n) id zero halted x is = omega arith
below_count version (suc n) id (suc h) halted x is =
    let less : h < n = below_count version n (id + 1) h halted x is in omega arith

few_harts : (first : Far) → AsLoaded first.live → HasFewHarts (site_of first).board
few_harts first a h x is =
    let less : h < a.harts = below_count a.version a.harts 0 h a.halted x (sym (ap (λ (k : Live). slice_get k.chip.inside.works.site.board.harts h) a.is) ∙
    is) in
    let most : a.harts ≤ 4 = a.right.most in
    omega arith

-- ---- from the lowered plan to what a user sees

pub hidden : (script : List SoftCommand) (first : Far) (journal : List Point) → AsLoaded first.live → All IsSoftCommand script
    → IsUndisturbed (site_of first).board script journal
    → IsHidden (soft_transcript (site_of first).board script journal) (chip_outcome (site_of first).board script journal)
hidden script first journal a within alone =
    sessions_hide (site_of first).board script journal (within_all script within) (few_harts first a)
    (fresh_unmasked (site_of first).board (loaded_fresh first.live a)) alone

-- where a session with this script begins
abbrev pub soft_origin : List SoftCommand → Far → Origin
soft_origin script first = record { plan = lower (soft_session script) no_table; world = start (site_of first).board }

pub seen_by_user : (script : List SoftCommand) (end : End) (lines : List Line) (was is : Option (List ℕ)) (first last : Far) → AsLoaded first.live
    → All IsSoftCommand script → is ≡ grown (text_of_all lines) was → IsTranscribed (soft_origin script first) end lines (target_of (site_of last))
    → LeavesAlone script first last → IsSoftTranscript script end was is first last
seen_by_user script end lines was is first last a within put t alone =
    let board : Board = (site_of first).board in
    let journal : List Point = (site_of last).journal in
    let w : All IsSoftWithinRanges script = within_all script within in
    let few : HasFewHarts board = few_harts first a in
    let fresh : IsFresh board = loaded_fresh first.live a in
    let unmasked : StepsUnmasked board = fresh_unmasked board fresh in
    let h : IsHidden (user_outcome script first last) (chip_outcome board script journal) = sessions_hide board script journal w few unmasked alone in
    let end_is : (user_outcome script first last).end ≡ end = sym h.end ∙ t.end_is in
    record {
      end_is = end_is;
      written = put ∙ ap (λ (l : List Line). grown (text_of_all l) was) (sym t.lines_are ∙ h.lines);
      board_is = sym t.board_is ∙ h.board;
      cleared = λ run. h.cleared (subst HasRun (sym end_is) run);
      untouched = ap machine_of (sym t.board_is) ∙ chips_are_undebugged board script journal w few unmasked alone;
      matched = soft_first_match board script journal w few fresh alone;
    }

-- ---- the opening of a chip as it was loaded

pub soft_begun : (script : List SoftCommand) (first : Far) → AsLoaded first.live
    → Deals (machine_of (site_of first).board) 0 Idle (soft_origin script first) (lower (soft_session script) no_table) [] (target_of (site_of first))
soft_begun script first a =
    subst (λ (j : List Point). Deals (machine_of (site_of first).board) 0 Idle (soft_origin script first) (lower (soft_session script) no_table) []
    (record { board = (site_of first).board; journal = j }))
    (sym (ap (λ (k : Live). k.chip.inside.works.site.journal) a.is))
    (deals_starts 0 (lower (soft_session script) no_table) (site_of first).board (loaded_fresh first.live a))

pub soft_opened : (script : List SoftCommand) (first : Far) (new : Option Far) → AsLoaded first.live → OpenedChip first new
    → DealsAt (machine_of (site_of first).board) (soft_origin script first) (at_plan (soft_commands script first_soft_state) no_table) [] new
soft_opened script first new a opened =
    let m : Machine = machine_of (site_of first).board in
    let o : Origin = soft_origin script first in
    let next : Plan = lower (soft_commands script first_soft_state) no_table in
    let old : Target = target_of (site_of first) in
    let sees : Seen = seen_at 0 (after_turns opened.happened.before old.board) in
    let looks : Looked 0 sees old (target_of (site_of opened.far)) = record { pointed = opened.happened; shows = refl } in
    at_far m 0 Idle o next [] opened.far new opened.is
    (deals_looked m 0 Idle Idle o 0 (λ _. next) sees [] old (target_of (site_of opened.far)) (λ w e k. k)
    (deals_at_plan m 0 Idle o (lower (soft_session script) no_table) (look 0 (λ _. next)) [] old (lower_look 0
    (λ _. soft_commands script first_soft_state) no_table)
    (soft_begun script first a)) looks)

-- ---- a session that came to its end

abbrev end_by : Bool → End
end_by wrong = if wrong then End.WithErrors else End.Clean

ran_to_end : (script : List SoftCommand) (wrong : Bool) (first : Far) (was is : Option (List ℕ)) (new : Option Far) (said : List Line) → AsLoaded first.live
    → All IsSoftCommand script → DealsAt (machine_of (site_of first).board) (soft_origin script first) (idle (stop Done)) said new → any_error said ≡ wrong
    → is ≡ grown (text_of_all said) was → Still (λ last. LeavesAlone script first last → IsSoftTranscript script (end_by wrong) was is first last) new
ran_to_end script wrong first was is new said a within d wrong_is put =
    found_far (λ t. Deals (machine_of (site_of first).board) 0 Idle (soft_origin script first) (stop Done) said t)
    (λ last. LeavesAlone script first last → IsSoftTranscript script (end_by wrong) was is first last) new d.target d.is d.holds (λ last e alone.
    let t : IsTranscribed (soft_origin script first) (graded Done said) said (target_of (site_of last)) =
    transcribed (soft_origin script first) Done said (target_of (site_of last)) e.stands in
    seen_by_user script (end_by wrong) said was is first last a within put
    (subst (λ x. IsTranscribed (soft_origin script first) x said (target_of (site_of last))) (ap end_by wrong_is) t) alone)

-- a session that begins with no breakpoint
pub record Begun (s : SoftSession) : Type 0 where
  pub state : soft_state s ≡ first_soft_state
  pub table : Holds s.table no_table

from_start : (script : List SoftCommand) (from : SoftSession) (first : Far) (mid : Option Far) → AsLoaded first.live → Begun from → OpenedChip first mid
    → DealsAt (machine_of (site_of first).board) (soft_origin script first) (at_plan (soft_commands script (soft_state from)) no_table) [] mid
from_start script from first mid a begun opened =
    subst (λ s. DealsAt (machine_of (site_of first).board) (soft_origin script first) (at_plan (soft_commands script s) no_table) [] mid) (sym begun.state)
    (soft_opened script first mid a opened)

script_ran : (script : List SoftCommand) (from : SoftSession) (wrong : Bool) (first : Far) (mid new : Tells) (was is : Option (List ℕ)) → AsLoaded first.live
    → All IsSoftCommand script → Begun from → OpenedChip first mid.far → ScriptLed script from wrong mid new was is
    → Still (λ last. LeavesAlone script first last → IsSoftTranscript script (end_by wrong) was is first last) new.far
script_ran script from wrong first mid new was is a within begun opened led =
    ran_to_end script wrong first was is new.far led.said a within
    (led.led no_table begun.table (machine_of (site_of first).board) (soft_origin script first) [] (from_start script from first mid.far a begun opened))
    led.wrong_is led.put

-- ---- a session that was cut

front_of_user : (script : List SoftCommand) (lines : List Line) (was is : Option (List ℕ)) (first last : Far) → AsLoaded first.live
    → All IsSoftCommand script → is ≡ grown (text_of_all lines) was → OnTheWay (soft_origin script first) lines (site_of last).journal
    → LeavesAlone script first last → IsSoftFront script was is first last
front_of_user script lines was is first last a within put way alone =
    let h : IsHidden (user_outcome script first last) (chip_outcome (site_of first).board script (site_of last).journal) =
    hidden script first (site_of last).journal a within alone in
    record {
      on_the_way = λ e. way.not_astray (h.end ∙ e);
      written = subst (λ (l : List Line). GrewByPrefix (text_of_all l) was is) h.lines (front_written lines _ was is way.front put);
      matched = soft_first_match (site_of first).board script (site_of last).journal (within_all script within) (few_harts first a)
          (loaded_fresh first.live a) alone;
    }

by_failure : (f : Failure) (script : List SoftCommand) (lines : List Line) (was is : Option (List ℕ)) (first last : Far) → AsLoaded first.live
    → All IsSoftCommand script → is ≡ grown (text_of_all lines) was → LeftSoft (soft_origin script first) lines f last → LeavesAlone script first last
    → WrittenAs script was is first last (ended_failing f)
by_failure (failure.Wire why) script lines was is first last a within put left alone = front_of_user script lines was is first last a within put left alone
by_failure (failure.Lost lost.DmiFailed) script lines was is first last a within put left alone =
    front_of_user script lines was is first last a within put left alone
by_failure (failure.Lost lost.StillBusy) script lines was is first last a within put left alone =
    front_of_user script lines was is first last a within put left alone
by_failure (failure.Lost (lost.NoHalt looks)) script lines was is first last a within put left alone =
    seen_by_user script (End.NoHalt looks) lines was is first last a within put left alone
by_failure (failure.Lost (lost.NoAck looks)) script lines was is first last a within put left alone =
    seen_by_user script (End.NoAck looks) lines was is first last a within put left alone
by_failure (failure.Lost (lost.Odd (odd.Status shown))) script lines was is first last a within put left alone = left
by_failure (failure.Lost (lost.Odd (odd.Register number))) script lines was is first last a within put left alone = left
by_failure (failure.Lost (lost.Odd odd.Refusal)) script lines was is first last a within put left alone =
    front_of_user script lines was is first last a within put left alone
by_failure failure.Sink script lines was is first last a within put left alone = absurd left

-- a line could not be written
cut_at_line : (script : List SoftCommand) (said ahead : List Line) (was is : Option (List ℕ)) (first last : Far) → AsLoaded first.live
    → All IsSoftCommand script → GrewByPrefix (text_of_all ahead) (grown (text_of_all said) was) is → QuietAt (soft_origin script first) (said ++ ahead) last
    → LeavesAlone script first last → IsSoftCut script was is first last
cut_at_line script said ahead was is first last a within front at alone =
    let board : Board = (site_of first).board in
    let journal : List Point = (site_of last).journal in
    let o : Origin = soft_origin script first in
    let w : All IsSoftWithinRanges script = within_all script within in
    let few : HasFewHarts board = few_harts first a in
    let fresh : IsFresh board = loaded_fresh first.live a in
    let unmasked : StepsUnmasked board = fresh_unmasked board fresh in
    let h : IsHidden (user_outcome script first last) (chip_outcome board script journal) = sessions_hide board script journal w few unmasked alone in
    let way : OnTheWay o (said ++ ahead) journal = on_way o at.plan (said ++ ahead) (target_of (site_of last)) journal at.stands refl in
    let chip : (chip_outcome board script journal).world.board ≡ (site_of last).board =
    quiet_board o at.plan (said ++ ahead) (target_of (site_of last)) at.quiet at.stands in
    record {
      front = record {
        on_the_way = λ e. way.not_astray (h.end ∙ e);
        written = subst (λ (l : List Line). GrewByPrefix (text_of_all l) was is) h.lines (lines_written said _ ahead was is way.front front);
        matched = soft_first_match board script journal w few fresh alone;
      };
      board_is = sym chip ∙ h.board;
      untouched = ap machine_of (sym chip) ∙ chips_are_undebugged board script journal w few unmasked alone;
    }

script_cut : (f : Failure) (script : List SoftCommand) (from : SoftSession) (first : Far) (mid new : Tells) (was is : Option (List ℕ)) → AsLoaded first.live
    → All IsSoftCommand script → Begun from → OpenedChip first mid.far → ScriptCut script (soft_state from) from.table mid new was is f
    → Still (λ last. LeavesAlone script first last → WrittenAs script was is first last (ended_failing f)) new.far
script_cut f script from first mid new was is a within begun opened (CutShort.in_call said put cuts) =
    still_as new.far (λ last left. by_failure f script said was is first last a within put left)
    (cuts no_table begun.table (machine_of (site_of first).board) (soft_origin script first) [] (from_start script from first mid.far a begun opened))
script_cut f script from first mid new was is a within begun opened (CutShort.at_line said ahead front at) =
    still_as new.far (λ last quiet. cut_at_line script said ahead was is first last a within front quiet)
    (at no_table begun.table (machine_of (site_of first).board) (soft_origin script first) [] (from_start script from first mid.far a begun opened))

pub ended_led : (e : Ended) (script : List SoftCommand) (from : SoftSession) (old mid new : Tells) (was is : Option (List ℕ)) → IsAsLoaded old.far
    → All IsSoftCommand script → Begun from → OpensLoaded old.far mid.far → FollowedLed script from mid new was is e
    → SoftTranscribedAs script was is old.far new.far e
ended_led e script from old mid new was is loaded within begun opens led = by old.far loaded opens
  where
    at_end : (x : Ended) → FollowedLed script from mid new was is x → (first : Far) → AsLoaded first.live → OpenedChip first mid.far
        → Still (λ last. LeavesAlone script first last → WrittenAs script was is first last x) new.far
    at_end ended.Clean l first a o = script_ran script from false first mid new was is a within begun o l
    at_end ended.WithErrors l first a o = script_ran script from true first mid new was is a within begun o l
    at_end (ended.Target fault) l first a o = absurd l
    at_end (ended.Wire why) l first a o = script_cut (failure.Wire why) script from first mid new was is a within begun o l
    at_end (ended.Lost why) l first a o = script_cut (failure.Lost why) script from first mid new was is a within begun o l
    at_end ended.Sink l first a o = script_cut failure.Sink script from first mid new was is a within begun o l

    by : (far : Option Far) → IsAsLoaded far → OpensLoaded far mid.far
        → IfSome far (λ first. Still (λ last. LeavesAlone script first last → WrittenAs script was is first last e) new.far)
    by None a o = tt
    by (Some first) a o = at_end e led first a (o a)

-- ---- a chip that was not opened

not_opened : (script : List SoftCommand) (first : Far) (was : Option (List ℕ)) (new : Option Far) (f : Failure) → AsLoaded first.live
    → All IsSoftCommand script → ((last : Far) → OnTheWay (soft_origin script first) [] (site_of last).journal → LeftSoft (soft_origin script first) [] f last)
    → UnopenedChip first new → Still (λ last. LeavesAlone script first last → WrittenAs script was was first last (ended_failing f)) new
not_opened script first was new f a within left u = record {
  far = u.far;
  is = u.is;
  holds = by_failure f script [] was was first u.far a within (grown_none was)
      (left u.far (cut_way (soft_origin script first) (Look 0) _ [] (target_of (site_of first)) (target_of (site_of u.far)) tt
      (deals_at_plan (machine_of (site_of first).board) 0 Idle (soft_origin script first) _ _ [] (target_of (site_of first))
      (lower_look 0 (λ seen. soft_commands script first_soft_state) no_table) (soft_begun script first a)).stands u.happened));
}

by_fault : (fault : ConnectFault) → IsDmiFault fault → (first : Far) (script : List SoftCommand) (was : Option (List ℕ))
    (new : Option Far) → AsLoaded first.live
    → All IsSoftCommand script → UnopenedChip first new
    → Still (λ last. LeavesAlone script first last → WrittenAs script was was first last (ended_unopened fault)) new
by_fault (connect.Dtm word) dmi first script was new a within u = absurd dmi
by_fault (connect.Module word control) dmi first script was new a within u = absurd dmi
by_fault (connect.Abstract word) dmi first script was new a within u = absurd dmi
by_fault (connect.Bus word) dmi first script was new a within u = absurd dmi
by_fault (connect.Dmi (dmi_fault.Wire why)) dmi first script was new a within u = not_opened script first was new (failure.Wire why) a within (λ last w. w) u
by_fault (connect.Dmi dmi_fault.Failed) dmi first script was new a within u =
    not_opened script first was new (failure.Lost lost.DmiFailed) a within (λ last w. w) u
by_fault (connect.Dmi dmi_fault.StillBusy) dmi first script was new a within u =
    not_opened script first was new (failure.Lost lost.StillBusy) a within (λ last w. w) u

pub unopened_led : (fault : ConnectFault) (e : Ended) (script : List SoftCommand) (old new : Option Far) (was : Option (List ℕ)) → IsAsLoaded old
    → All IsSoftCommand script → LosesLoaded old new fault → e ≡ ended_unopened fault → SoftTranscribedAs script was was old new e
unopened_led fault e script old new was loaded within loses is =
    subst (λ x. IfSome old (λ first. Still (λ last. LeavesAlone script first last → WrittenAs script was was first last x) new)) (sym is) (by old loaded loses)
  where
    by : (far : Option Far) → IsAsLoaded far → LosesLoaded far new fault
        → IfSome far (λ first. Still (λ last. LeavesAlone script first last → WrittenAs script was was first last (ended_unopened fault)) new)
    by None a l = tt
    by (Some first) a l = by_fault fault (l a).0 first script was new a within (l a).1

pub begun_so : (session : Session) (table : Patches) → state_of session ≡ first_state → table ≡ no_patches
    → Begun (record { session = session; table = table })
begun_so session table first none = record {
  state = (λ i. record { plain = first i; planted = (ap (λ (p : Patches). p.addresses) none) i });
  table = subst (λ p. Holds p no_table) (sym none) holds_none;
}
