-- The command under way over a chip as it was loaded: what is written holds all lines of the transcript of the commands in front of it.
use Rattle.std.proofs.Common.{◌≡◌, ◌∙◌, ◌++◌, ℕ, List, [], ◌∷◌, Option, Some, None, IfSome, refl, sym, ap, subst, append_assoc, append-nil}
use Rattle.std.proofs.lemmas.Option.{same_Some}
use Rattle.jt_base.specs.Sink.{GrewByPrefix, grown}
use Rattle.rv_model.specs.Board.{Machine, machine_of}
use Rattle.debug_model.specs.declared.command.Command.{Command}
use Rattle.debug_model.specs.declared.command.Command.TheVariants as command
use Rattle.debug_model.specs.declared.command.Path.{Path}
use Rattle.debug_model.specs.declared.command.Path.TheVariants.{Progbuf, Bus}
use Rattle.debug_model.specs.Loaded.{AsLoaded}
use Rattle.debug_model.specs.Told.{Far, IsAsLoaded, site_of}
use Rattle.abstract_debugger.specs.Debugger.{State, commands, first_state}
use Rattle.abstract_debugger.specs.Laws.{IsFront}
use Rattle.abstract_debugger.specs.Lines.{Line, text_of, text_of_all}
use Rattle.abstract_debugger.specs.Plan.{Plan}
use Rattle.abstract_debugger.specs.Plan.Plan.{say}
use Rattle.abstract_debugger.specs.Stands.{Deals, Origin}
use Rattle.abstract_debugger.specs.Transcript.{End, Outcome, replay}
use Rattle.abstract_debugger.proofs.OrderLemmas.{commands_speak_in_order}
use Rattle.probe_run.specs.Acts.{Tells}
use Rattle.probe_run.specs.Happens.{target_of}
use Rattle.probe_run.specs.Opening.{OpensLoaded}
use Rattle.probe_session.specs.declared.ended.Ended.{Ended}
use Rattle.probe_session.specs.declared.ended.Ended.TheVariants as ended
use Rattle.probe_session.specs.declared.fault.Failure.{Failure}
use Rattle.probe_session.specs.declared.fault.Failure.TheVariants as failure
use Rattle.probe_session.specs.declared.fault.LostCause.TheVariants as lost
use Rattle.probe_session.specs.Commands.{before}
use Rattle.probe_session.specs.Goes.{CalmNext, Fell, Went}
use Rattle.probe_session.specs.Goes.Fell.{among_lines, at_line, in_call}
use Rattle.probe_session.specs.Goes.Goes.{start, step}
use Rattle.probe_session.specs.Led.{DealsAt}
use Rattle.probe_session.specs.Places.{Place, idle, place, spot}
use Rattle.probe_session.specs.Scripts.{BrokeOff, RanInto, at_commands}
use Rattle.probe_session.specs.Steps.Step.{says}
use Rattle.probe_session.specs.Transcribed.{Still, TranscribedAs, WrittenAs, origin_of, shown}
use Rattle.probe_session.specs.UnderWay.{BrokeOffIn, EndedUpTo, HoldsLines, LeftUpTo, RanUpTo, StoppedUpTo, TranscribedUpTo, UnderWay, WrittenUpTo}
use Rattle.probe_session.proofs.BrokeOff.{LeftAs, still_as}
use Rattle.probe_session.proofs.CommonFronts.{common_front, not_both}
use Rattle.probe_session.proofs.Endings.{ended_transcribed}
use Rattle.probe_session.proofs.Faults.{fault_left}
use Rattle.probe_session.proofs.LedSteps.{goes_lead}
use Rattle.probe_session.proofs.OnTheWay.{on_way}
use Rattle.probe_session.proofs.OpenPlans.{open_front}
use Rattle.probe_session.proofs.Spoken.{grown_none, grown_twice, text_of_all-append}
use Rattle.probe_session.proofs.Transcribing.{found_far, opened_deals}
use Rattle.probe_session.proofs.UpTo.{SaidEach, each_said, fell_behind}

-- ---- what had been said before a command fell stays the front of the transcript

abbrev StandsIn : Origin → List Line → Far → Type 0
StandsIn o lines last = IsFront lines (replay o.plan o.world (site_of last).journal).world.lines

fewer : (lines said whole : List Line) → IsFront (lines ++ said) whole → IsFront lines whole
fewer lines said whole f = record { rest = said ++ f.rest; is = f.is ∙ append_assoc lines said f.rest }

left_in : (f : Failure) (o : Origin) (lines said : List Line) (last : Far) → LeftAs o (lines ++ said) f last → StandsIn o lines last
left_in (failure.Wire why) o lines said last left = fewer lines said _ left.front
left_in (failure.Lost lost.DmiFailed) o lines said last left = fewer lines said _ left.front
left_in (failure.Lost lost.StillBusy) o lines said last left = fewer lines said _ left.front
left_in (failure.Lost (lost.NoHalt looks)) o lines said last left = record { rest = said; is = left.lines_are }
left_in (failure.Lost (lost.NoAck looks)) o lines said last left = record { rest = said; is = left.lines_are }
left_in (failure.Lost (lost.Odd odd)) o lines said last left = absurd left
left_in failure.Sink o lines said last left = absurd left

fell_in : {K : Type 0} {T : K → Type 0} {a : K → Place} (k : K) {old_count new_count : ℕ} {t u : Tells} {sink_old sink_new : ℕ} {c d : Option (List ℕ)}
    {f : Failure} → Fell T a old_count new_count t u sink_old sink_new c d f
    → (m : Machine) (o : Origin) (lines : List Line) → DealsAt m o (a k) lines t.far → Still (StandsIn o lines) u.far
fell_in {a = a} k {new_count = new_count} {t = t} {u = u} {f = f} (in_call said falls put) m o lines d =
    still_as u.far (λ last left. left_in f o lines said last left)
    (fault_left (falls.at k) falls.count new_count falls.mid u f (falls.fault k) m o (lines ++ said)
    (goes_lead (a k) (falls.at k) t falls.mid said (falls.went.goes k) m o lines d))
fell_in {a = a} k {t = t} {u = u} (at_line said line heard way h next may quiet went front rises) m o lines d =
    let at : DealsAt m o (spot heard way h (say line (next k))) (lines ++ said) u.far =
    goes_lead (a k) (spot heard way h (say line (next k))) t u said (went.goes k) m o lines d in
    found_far (λ x. Deals m h way o (say line (next k)) (lines ++ said) x) (StandsIn o lines) u.far at.target at.is at.holds (λ last e.
    fewer lines said _ (on_way o (say line (next k)) (lines ++ said) (target_of (site_of last)) (site_of last).journal e.stands refl).front)
fell_in {a = a} k {t = t} {u = u} (among_lines said ahead way h next quiet went front rises) m o lines d =
    let all : List Line = said ++ ahead in
    let at : DealsAt m o (place way h (next k)) (lines ++ all) u.far = goes_lead (a k) (place way h (next k)) t u all (went.goes k) m o lines d in
    found_far (λ x. Deals m h way o (next k) (lines ++ all) x) (StandsIn o lines) u.far at.target at.is at.holds (λ last e.
    fewer lines all _ (on_way o (next k) (lines ++ all) (target_of (site_of last)) (site_of last).journal e.stands refl).front)

-- ---- Two scripts that differ behind the commands in front alone, by a command that says its line at once and leaves the state as it was: what is common to
-- their transcripts was said of the commands in front.

abbrev marks : (path : Path) → State → Command → List Command
marks path t c = command.Via path ∷ command.Via t.path ∷ c ∷ []

abbrev marked : (path : Path) → State → List Line
marked path t = Line.Via path ∷ Line.Via t.path ∷ []

marked_way : (front : List Command) (c : Command) (t : State) (path : Path) (first : Far) (opened mid new : Tells) (said : List Line)
    {count new_count sink_mid sink_new : ℕ} {between is : Option (List ℕ)} {f : Failure} → AsLoaded first.live → OpensLoaded (Some first) opened.far
    → Went (at_commands (front ++ marks path t c) first_state) (at_commands (marks path t c) t) said opened mid
    → Fell CalmNext (before c t) count new_count mid new sink_mid sink_new between is f
    → Still (λ last. IsFront (said ++ marked path t) (shown (front ++ marks path t c) first last).world.lines) new.far
marked_way front c t path first opened mid new said a told went fell =
    let m : Machine = machine_of (site_of first).board in
    let p : Plan = commands (front ++ marks path t c) first_state in
    let o : Origin = origin_of p first in
    let at : DealsAt m o (at_commands (marks path t c) t tt) said mid.far =
    goes_lead (idle p) (at_commands (marks path t c) t tt) opened mid said (went.goes tt) m o [] (opened_deals p first opened.far a (told a)) in
    let behind : DealsAt m o (before c t (commands [])) (said ++ marked path t) mid.far =
    goes_lead (at_commands (marks path t c) t tt) (before c t (commands [])) mid mid (marked path t) (step (step start (says refl)) (says refl)) m o said at in
    fell_in (commands []) fell m o (said ++ marked path t) behind

at_last : (Q : Far → Type 0) (new : Option Far) (last : Far) → new ≡ Some last → Still Q new → Q last
at_last Q new last is s = subst Q (same_Some s.far last (sym s.is ∙ is)) s.holds

paths_differ : Line.Via Progbuf ≡ Line.Via Bus → ⊥
paths_differ is = cc

-- ---- what was written behind the commands in front

grew_by : (piece : List ℕ) (c d : Option (List ℕ)) → GrewByPrefix piece c d → (x : List ℕ) × (d ≡ grown x c)
grew_by piece None d g = ([], g)
grew_by piece (Some bytes) d g = (g.front, g.is)

grew_twice : (a b : List ℕ) (c d e : Option (List ℕ)) → d ≡ grown a c → e ≡ grown b d → e ≡ grown (a ++ b) c
grew_twice a b c d e first second = second ∙ ap (grown b) first ∙ grown_twice a b c

fell_wrote : {K : Type 0} {T : K → Type 0} {a : K → Place} {old_count new_count : ℕ} {t u : Tells} {sink_old sink_new : ℕ} {c d : Option (List ℕ)}
    {f : Failure} → Fell T a old_count new_count t u sink_old sink_new c d f → (x : List ℕ) × (d ≡ grown x c)
fell_wrote (in_call said falls put) = (text_of_all said, put)
fell_wrote {c = c} {d = d} (at_line said line heard way h next may quiet went front rises) =
    let g = grew_by (text_of line) (grown (text_of_all said) c) d front in
    (text_of_all said ++ g.0, grew_twice (text_of_all said) g.0 c (grown (text_of_all said) c) d refl g.1)
fell_wrote {c = c} {d = d} (among_lines said ahead way h next quiet went front rises) =
    let g = grew_by (text_of_all ahead) (grown (text_of_all said) c) d front in
    (text_of_all said ++ g.0, grew_twice (text_of_all said) g.0 c (grown (text_of_all said) c) d refl g.1)

front_and_more : (said front : List Line) (x : List ℕ) (f : IsFront front said) → text_of_all said ++ x ≡ text_of_all front ++ (text_of_all f.rest ++ x)
front_and_more said front x f = ap (λ text. text ++ x) (ap text_of_all f.is ∙ text_of_all-append front f.rest)
    ∙ append_assoc (text_of_all front) (text_of_all f.rest) x

-- ---- both

holds_lines : (script : List Command) (first last : Far) (count new_count sink_old sink_new : ℕ) (opened new : Tells) (was is : Option (List ℕ)) (f : Failure)
    → AsLoaded first.live → OpensLoaded (Some first) opened.far → (u : UnderWay script first_state count new_count opened new sink_old sink_new was is f)
    → new.far ≡ Some last → HoldsLines u.front was is first last
holds_lines script first last count new_count sink_old sink_new opened new was is f a told u at =
    let q : SaidEach u.front first_state u.state opened u.mid was u.written = each_said u.done in
    let on : Path → List Command = λ path. marks path u.state u.command in
    let whole : Path → List Line = λ path. (shown (u.front ++ on path) first last).world.lines in
    let said : (path : Path) → IsFront (q.said ++ marked path u.state) (whole path) = λ path.
    at_last (λ x. IsFront (q.said ++ marked path u.state) (shown (u.front ++ on path) first x).world.lines) new.far last at
    (marked_way u.front u.command u.state path first opened u.mid new q.said a told (q.went (on path)) u.fell) in
    let ahead : (path : Path) → IsFront (shown u.front first last).world.lines (whole path) = λ path.
    commands_speak_in_order (site_of first).board u.front (on path) (site_of last).journal in
    let front : IsFront (shown u.front first last).world.lines q.said =
    common_front q.said (shown u.front first last).world.lines (whole Progbuf) (whole Bus) (Line.Via Progbuf) (Line.Via Bus) _ _ paths_differ (ahead Progbuf)
    (ahead Bus) (said Progbuf) (said Bus) in
    let wrote = fell_wrote u.fell in
    record {
      gone_through = λ is_open.
          let same : (path : Path) → whole path ≡ (shown u.front first last).world.lines = λ path.
          ap (λ (x : Outcome). x.world.lines) (open_front (site_of first).board u.front (on path) (site_of last).journal is_open) in
          not_both q.said (shown u.front first last).world.lines (Line.Via Progbuf) (Line.Via Bus) _ _ paths_differ
          (subst (IsFront (q.said ++ marked Progbuf u.state)) (same Progbuf) (said Progbuf)) (subst (IsFront (q.said ++ marked Bus u.state)) (same Bus)
          (said Bus));
      more = text_of_all front.rest ++ wrote.0;
      written = grew_twice (text_of_all q.said) wrote.0 was u.written is q.put wrote.1
          ∙ ap (λ text. grown text was) (front_and_more q.said (shown u.front first last).world.lines wrote.0 front);
    }

-- ---- whatever ended it

-- the session went as if the command under way were the script's last
ran_cut : {script : List Command} {old_count new_count : ℕ} {old new : Tells} {sink_old sink_new : ℕ} {was is : Option (List ℕ)} {f : Failure}
    → (r : RanUpTo script old_count new_count old new sink_old sink_new was is f)
    → RanInto (commands (r.under_way.front ++ r.under_way.command ∷ []) first_state) old_count new_count old new sink_old sink_new was is f
ran_cut r = record {
  mid = r.mid;
  count = r.count;
  opened = r.opened;
  told = r.told;
  later = r.later;
  fell = fell_behind r.under_way.command [] r.under_way.done r.under_way.later r.under_way.sink_later r.under_way.sink_more r.under_way.fell;
}

in_opening_up_to : (e : Ended) (script : List Command) (was is : Option (List ℕ)) (old new : Option Far) → TranscribedAs [] was is old new e
    → LeftUpTo script was is old new e
in_opening_up_to e script was is None new left = tt
in_opening_up_to e script was is (Some first) new left = still_as new (λ last w. WrittenUpTo.in_opening w) left

in_command_up_to : (e : Ended) (f : Failure) (script : List Command) (old_count new_count : ℕ) (old new : Tells) (sink_old sink_new : ℕ)
    (was is : Option (List ℕ)) (r : RanUpTo script old_count new_count old new sink_old sink_new was is f) (far : Option Far) → far ≡ old.far → IsAsLoaded far
    → TranscribedAs (r.under_way.front ++ r.under_way.command ∷ []) was is far new.far e → LeftUpTo script was is far new.far e
in_command_up_to e f script old_count new_count old new sink_old sink_new was is r None at loaded left = tt
in_command_up_to e f script old_count new_count old new sink_old sink_new was is r (Some first) at loaded left = record {
  far = left.far;
  is = left.is;
  holds = WrittenUpTo.in_command r.under_way.front r.under_way.command r.under_way.rest r.under_way.parts
      (holds_lines script first left.far r.count new_count sink_old sink_new r.mid new was is f loaded (subst (λ x. OpensLoaded x r.mid.far) (sym at) r.told)
      r.under_way left.is) left.holds;
}

transcribed_up_to : (e : Ended) (script : List Command) (old_count new_count : ℕ) (old new : Tells) (sink_old sink_new : ℕ) (was is : Option (List ℕ))
    → StoppedUpTo script old_count new_count old new sink_old sink_new was is e → IsAsLoaded old.far → TranscribedUpTo script was is old.far new.far e
transcribed_up_to ended.Clean script old_count new_count old new sink_old sink_new was is up_to loaded = tt
transcribed_up_to ended.WithErrors script old_count new_count old new sink_old sink_new was is up_to loaded = tt
transcribed_up_to (ended.Target fault) script old_count new_count old new sink_old sink_new was is up_to loaded = tt
transcribed_up_to (ended.Wire why) script old_count new_count old new sink_old sink_new was is (BrokeOffIn.in_opening cause u e) loaded =
    in_opening_up_to (ended.Wire why) script was is old.far new.far (ended_transcribed (ended.Wire why) (commands [] first_state) old_count new_count old new
    sink_old sink_new was is (BrokeOff.in_opening cause u e) loaded)
transcribed_up_to (ended.Wire why) script old_count new_count old new sink_old sink_new was is (BrokeOffIn.in_command r) loaded =
    in_command_up_to (ended.Wire why) (failure.Wire why) script old_count new_count old new sink_old sink_new was is r old.far refl loaded
    (ended_transcribed (ended.Wire why) (commands (r.under_way.front ++ r.under_way.command ∷ []) first_state) old_count new_count old new sink_old sink_new
    was is (BrokeOff.in_plan (ran_cut r)) loaded)
transcribed_up_to (ended.Lost why) script old_count new_count old new sink_old sink_new was is (BrokeOffIn.in_opening cause u e) loaded =
    in_opening_up_to (ended.Lost why) script was is old.far new.far (ended_transcribed (ended.Lost why) (commands [] first_state) old_count new_count old new
    sink_old sink_new was is (BrokeOff.in_opening cause u e) loaded)
transcribed_up_to (ended.Lost why) script old_count new_count old new sink_old sink_new was is (BrokeOffIn.in_command r) loaded =
    in_command_up_to (ended.Lost why) (failure.Lost why) script old_count new_count old new sink_old sink_new was is r old.far refl loaded
    (ended_transcribed (ended.Lost why) (commands (r.under_way.front ++ r.under_way.command ∷ []) first_state) old_count new_count old new sink_old sink_new
    was is (BrokeOff.in_plan (ran_cut r)) loaded)
transcribed_up_to ended.Sink script old_count new_count old new sink_old sink_new was is r loaded =
    in_command_up_to ended.Sink failure.Sink script old_count new_count old new sink_old sink_new was is r old.far refl loaded
    (ended_transcribed ended.Sink (commands (r.under_way.front ++ r.under_way.command ∷ []) first_state) old_count new_count old new sink_old sink_new was is
    (ran_cut r) loaded)

pub ended_up_to : (e : Ended) (script : List Command) (old_count new_count : ℕ) (old new : Tells) (sink_old sink_new : ℕ) (was is : Option (List ℕ))
    → StoppedUpTo script old_count new_count old new sink_old sink_new was is e → IsAsLoaded old.far
    → EndedUpTo script old_count new_count old new sink_old sink_new was is e
ended_up_to e script old_count new_count old new sink_old sink_new was is stopped loaded = record {
  stopped = stopped;
  transcribed = transcribed_up_to e script old_count new_count old new sink_old sink_new was is stopped loaded;
}
