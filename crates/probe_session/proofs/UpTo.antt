-- Commands that were done, one behind another, and the one that was under way behind them.
use Rattle.std.proofs.Common.{◌≡◌, ◌≤◌, ◌∙◌, ◌++◌, ℕ, Bool, true, false, List, [], ◌∷◌, Option, refl, sym, ap, subst, append_assoc}
use Rattle.jt_base.specs.Sink.{grown}
use Rattle.debug_model.specs.declared.command.Command.{Command}
use Rattle.debug_model.specs.declared.dmi.DmiFault.TheVariants as dmi_fault
use Rattle.abstract_debugger.specs.Debugger.{State, commands, first_state}
use Rattle.abstract_debugger.specs.Lines.{Line, any_error, text_of_all}
use Rattle.abstract_debugger.proofs.QuietLemmas.{commands_are_quiet}
use Rattle.probe_run.specs.declared.fault.ConnectFault.{ConnectFault}
use Rattle.probe_run.specs.declared.fault.ConnectFault.TheVariants as connect
use Rattle.probe_run.specs.Acts.{Tells}
use Rattle.probe_run.specs.Opening.{ConnectFails, LosesLoaded, Opened, OpensLoaded}
use Rattle.probe_session.specs.declared.ended.Ended.{Ended}
use Rattle.probe_session.specs.declared.ended.Ended.TheVariants as ended
use Rattle.probe_session.specs.declared.fault.Failure.{Failure}
use Rattle.probe_session.specs.declared.fault.Failure.TheVariants as failure
use Rattle.probe_session.specs.Commands.{before, behind}
use Rattle.probe_session.specs.Goes.{Anyhow, CalmNext, Fell, Spoke, Went}
use Rattle.probe_session.specs.Scripts.{at_commands, ended_unopened, graded}
use Rattle.probe_session.specs.UnderWay.{BrokeOffIn, EachDone, StoppedUpTo, FollowedUpTo, RanUpTo, UnderWay}
use Rattle.probe_session.specs.UnderWay.EachDone.{none, one}
use Rattle.probe_session.proofs.SeveralLines.{spoke_fell}
use Rattle.probe_session.proofs.Spoken.{fell_within, grown_lines, grown_none}
use Rattle.probe_session.proofs.WentLemmas.{went_none, went_then, within}

-- ---- the commands so far

each_then : {cs : List Command} {s t u : State} {old mid new : Tells} {was between is : Option (List ℕ)} {wrong : Bool} (c : Command)
    → EachDone cs s t old mid was between → Spoke (before c t) (behind u) wrong mid new between is → EachDone (cs ++ c ∷ []) s u old new was is
each_then c none spoke = one spoke none
each_then c (one p done) spoke = one p (each_then c done spoke)

-- those that were done, of a script of which these are left
pub record DoneSoFar (script : List Command) (s : State) (rest : List Command) (t : State) (old now : Tells) (was is : Option (List ℕ)) : Type 0 where
  pub front : List Command
  pub parts : script ≡ front ++ rest
  pub done : EachDone front s t old now was is

pub done_none : (script : List Command) (s : State) (t : Tells) (was : Option (List ℕ)) → DoneSoFar script s script s t t was was
done_none script s t was = record { front = []; parts = refl; done = none }

pub done_more : (script : List Command) (s : State) (c : Command) (rest after : List Command) (t u : State) (wrong : Bool) {old now new : Tells}
    {was mid is : Option (List ℕ)} → rest ≡ c ∷ after → DoneSoFar script s rest t old now was mid → Spoke (before c t) (behind u) wrong now new mid is
    → DoneSoFar script s after u old new was is
done_more script s c rest after t u wrong e so spoke = record {
  front = so.front ++ c ∷ [];
  parts = so.parts ∙ ap (λ (l : List Command). so.front ++ l) e ∙ sym (append_assoc so.front (c ∷ []) after);
  done = each_then c so.done spoke;
}

-- ---- one that fell behind them

pub under_way : (script : List Command) (s : State) (c : Command) (rest after : List Command) (t : State) (old_count count new_count sink_old sink_mid sink_new : ℕ)
    {old now new : Tells} {was mid is : Option (List ℕ)} {f : Failure} → rest ≡ c ∷ after → DoneSoFar script s rest t old now was mid → old_count ≤ count
    → sink_old ≤ sink_mid → sink_mid ≤ sink_new → Fell CalmNext (before c t) count new_count now new sink_mid sink_new mid is f
    → UnderWay script s old_count new_count old new sink_old sink_new was is f
under_way script s c rest after t old_count count new_count sink_old sink_mid sink_new {now = now} {mid = mid} e so le sink_le sink_more fell = record {
  front = so.front;
  command = c;
  rest = after;
  parts = so.parts ∙ ap (λ (l : List Command). so.front ++ l) e;
  state = t;
  mid = now;
  written = mid;
  done = so.done;
  count = count;
  later = le;
  sink_mid = sink_mid;
  sink_later = sink_le;
  sink_more = sink_more;
  fell = fell;
}

pub no_fault : (script : List Command) (s : State) (wrong : Bool) (e : Ended) (old_count new_count : ℕ) (old new : Tells) (sink_old sink_new : ℕ)
    (was is : Option (List ℕ)) → e ≡ graded wrong → FollowedUpTo script s old_count new_count old new sink_old sink_new was is e
no_fault script s wrong e old_count new_count old new sink_old sink_new was is e_is =
    subst (FollowedUpTo script s old_count new_count old new sink_old sink_new was is) (sym e_is) (by_grade wrong)
  where
    by_grade : (b : Bool) → FollowedUpTo script s old_count new_count old new sink_old sink_new was is (graded b)
    by_grade true = tt
    by_grade false = tt

-- ---- from the opening on

pub unopened_up_to : (script : List Command) (fault : ConnectFault) (e : Ended) (old_count new_count : ℕ) (old new : Tells) (sink_old sink_new : ℕ)
    (was : Option (List ℕ)) → e ≡ ended_unopened fault → ConnectFails old_count new_count old new fault → LosesLoaded old.far new.far fault
    → StoppedUpTo script old_count new_count old new sink_old sink_new was was e
unopened_up_to script fault e old_count new_count old new sink_old sink_new was e_is fails told =
    subst (StoppedUpTo script old_count new_count old new sink_old sink_new was was) (sym e_is) (by_fault fault fails told)
  where
    by_fault : (x : ConnectFault) → ConnectFails old_count new_count old new x → LosesLoaded old.far new.far x
        → StoppedUpTo script old_count new_count old new sink_old sink_new was was (ended_unopened x)
    by_fault (connect.Dtm word) f l = tt
    by_fault (connect.Module word control) f l = tt
    by_fault (connect.Abstract word) f l = tt
    by_fault (connect.Bus word) f l = tt
    by_fault (connect.Dmi (dmi_fault.Wire why)) f l =
        BrokeOffIn.in_opening (dmi_fault.Wire why) (record { fails = f; told = l; written = refl }) refl
    by_fault (connect.Dmi dmi_fault.Failed) f l = BrokeOffIn.in_opening dmi_fault.Failed (record { fails = f; told = l; written = refl }) refl
    by_fault (connect.Dmi dmi_fault.StillBusy) f l = BrokeOffIn.in_opening dmi_fault.StillBusy (record { fails = f; told = l; written = refl }) refl

pub opened_up_to : (script : List Command) (s : State) (e : Ended) (old_count count new_count : ℕ) (old mid new : Tells) (sink_old sink_new : ℕ)
    (was is : Option (List ℕ)) → s ≡ first_state → Opened old mid → OpensLoaded old.far mid.far → old_count ≤ count
    → FollowedUpTo script s count new_count mid new sink_old sink_new was is e → StoppedUpTo script old_count new_count old new sink_old sink_new was is e
opened_up_to script s e old_count count new_count old mid new sink_old sink_new was is first opened told le followed =
    by_end e (subst (λ x. FollowedUpTo script x count new_count mid new sink_old sink_new was is e) first followed)
  where
    into : (f : Failure) → UnderWay script first_state count new_count mid new sink_old sink_new was is f
        → RanUpTo script old_count new_count old new sink_old sink_new was is f
    into f u = record { mid = mid; count = count; opened = opened; told = told; later = le; under_way = u }

    by_end : (x : Ended) → FollowedUpTo script first_state count new_count mid new sink_old sink_new was is x
        → StoppedUpTo script old_count new_count old new sink_old sink_new was is x
    by_end ended.Clean u = tt
    by_end ended.WithErrors u = tt
    by_end (ended.Target fault) u = tt
    by_end (ended.Wire why) u = BrokeOffIn.in_command (into (failure.Wire why) u)
    by_end (ended.Lost why) u = BrokeOffIn.in_command (into (failure.Lost why) u)
    by_end ended.Sink u = into failure.Sink u

-- ---- with any commands behind them

pub record SaidEach (front : List Command) (s t : State) (old new : Tells) (was is : Option (List ℕ)) : Type 0 where
  pub said : List Line
  pub went : (rest : List Command) → Went (at_commands (front ++ rest) s) (at_commands rest t) said old new
  pub put : is ≡ grown (text_of_all said) was

pub each_said : {front : List Command} {s t : State} {old new : Tells} {was is : Option (List ℕ)} → EachDone front s t old new was is
    → SaidEach front s t old new was is
each_said {was = was} none = record { said = []; went = λ rest. went_none; put = grown_none was }
each_said {was = was} {is = is} (one {cs = cs} {between = between} p done) =
    let q = each_said done in
    record {
      said = p.said ++ q.said;
      went = λ rest. went_then (within (λ (_ : Unit {0}). commands (cs ++ rest)) p.went) (q.went rest);
      put = grown_lines p.said q.said was between is p.put q.put;
    }

-- so the session fell along the plan of any script that begins with them and the command under way
pub fell_behind : {front : List Command} {s t : State} {old_count count new_count sink_old sink_mid sink_new : ℕ} {old mid new : Tells}
    {was between is : Option (List ℕ)} {f : Failure} (c : Command) (rest : List Command) → EachDone front s t old mid was between → old_count ≤ count
    → sink_old ≤ sink_mid → sink_mid ≤ sink_new → Fell CalmNext (before c t) count new_count mid new sink_mid sink_new between is f
    → Fell Anyhow (at_commands (front ++ c ∷ rest) s) old_count new_count old new sink_old sink_new was is f
fell_behind {front} {s} {t} {old = old} {mid = mid} {was = was} {between = between} c rest done le sink_le sink_more fell =
    let q = each_said done in
    let spoke : Spoke (at_commands (front ++ c ∷ rest) s) (at_commands (c ∷ rest) t) (any_error q.said) old mid was between =
    record { said = q.said; went = q.went (c ∷ rest); put = q.put; wrong_is = refl } in
    spoke_fell spoke le sink_le sink_more (fell_within (λ (_ : Unit {0}). commands rest) (λ _ calm u. commands_are_quiet rest u) fell)
