-- What caused the end of a command, and of a session with software breakpoints.
use Rattle.std.proofs.Common.{◌≡◌, ◌≤◌, ℕ, Bool, true, false, List, Option, Result, Ok, Err, IfOk, IfErr, IsErrAnd, OnErr, refl, sym, subst}
use Rattle.jt_base.specs.Faults.{Rises}
use Rattle.debug_model.specs.declared.command.Command.{Command}
use Rattle.debug_model.specs.declared.dmi.DmiFault.TheVariants as dmi_fault
use Rattle.debug_model.specs.declared.soft_command.SoftCommand.{SoftCommand}
use Rattle.debug_model.specs.Kept.{DmiSeen}
use Rattle.abstract_debugger.specs.Debugger.{State}
use Rattle.probe_run.specs.Acts.{Tells}
use Rattle.probe_run.specs.Told.{told}
use Rattle.probe_run.specs.declared.fault.ConnectFault.{ConnectFault}
use Rattle.probe_run.specs.declared.fault.ConnectFault.TheVariants as connect
use Rattle.probe_session.specs.declared.acted.Acted.{Acted}
use Rattle.probe_session.specs.declared.acted.Acted.TheVariants as acted
use Rattle.probe_session.specs.declared.ended.Ended.{Ended}
use Rattle.probe_session.specs.declared.ended.Ended.TheVariants as ended
use Rattle.probe_session.specs.declared.fault.Failure.{Failure}
use Rattle.probe_session.specs.declared.fault.Failure.TheVariants as failure
use Rattle.probe_session.specs.declared.fault.LostCause.TheVariants as lost
use Rattle.probe_session.specs.declared.odd.Odd.TheVariants as odd
use Rattle.probe_session.specs.Acts.{ActedAs}
use Rattle.probe_session.specs.Causes.{EndCaused, SinkCaused}
use Rattle.probe_session.specs.Commands.{before}
use Rattle.probe_session.specs.Goes.{CalmNext, Fell}
use Rattle.probe_session.specs.Places.{Place}
use Rattle.probe_session.specs.Scripts.{ended_unopened, graded}
use Rattle.soft_session.specs.Acts.{FollowedLed, ended_failing}
use Rattle.soft_session.specs.Caused.{ActedCaused, LineCaused, LinkCaused, PerformedCaused}
use Rattle.soft_session.specs.Led.{acted_by, acted_failing}
use Rattle.soft_session.specs.declared.session.SoftSession.{SoftSession}
use Rattle.soft_session.proofs.CausedCalls.{any_plan, fell, no_line, since}
use Rattle.wire_session.specs.Closing.{IsOfRegister}

-- ---- a command

by_bool : (wrong : Bool) (old new : DmiSeen) (sink_old sink_new : ℕ) → ActedCaused old new sink_old sink_new (acted_by wrong)
by_bool true old new sink_old sink_new = tt
by_bool false old new sink_old sink_new = tt

-- that put its lines
pub lines_caused : (wrong : Bool) (a : Acted) (old new : DmiSeen) (sink_old sink_new : ℕ) → a ≡ acted_by wrong → ActedCaused old new sink_old sink_new a
lines_caused wrong a old new sink_old sink_new is = subst (ActedCaused old new sink_old sink_new) (sym is) (by_bool wrong old new sink_old sink_new)

-- that comes to one line
pub line_caused : (wrong : Bool) (old new : DmiSeen) (sink_old sink_new : ℕ) (r : Result Acted Failure) → IfOk r (λ a. a ≡ acted_by wrong)
    → IfErr r (λ f. f ≡ failure.Sink) → OnErr r (Rises sink_old sink_new) → PerformedCaused old new sink_old sink_new r
line_caused wrong old new sink_old sink_new (Ok a) put sink rises = lines_caused wrong a old new sink_old sink_new put
line_caused wrong old new sink_old sink_new (Err f) put sink rises = subst (LineCaused old new sink_old sink_new) (sym sink) rises

-- that failed
pub failed_caused : (f : Failure) (old new : DmiSeen) (sink_old sink_new : ℕ) (r : Result Acted Failure) → IsErrAnd r (λ e. e ≡ f)
    → LineCaused old new sink_old sink_new f → PerformedCaused old new sink_old sink_new r
failed_caused f old new sink_old sink_new (Ok a) is caused = absurd is
failed_caused f old new sink_old sink_new (Err e) is caused = subst (LineCaused old new sink_old sink_new) (sym is) caused

pub unput_caused : (f : Failure) (old new : DmiSeen) (sink_old sink_new : ℕ) (r : Result Acted Failure) → IsErrAnd r (λ e. e ≡ f)
    → LinkCaused old new f → PerformedCaused old new sink_old sink_new r
unput_caused f old new sink_old sink_new r is caused =
    failed_caused f old new sink_old sink_new r is (no_line (Rises sink_old sink_new) f old new caused)

-- a word of memory at which a breakpoint is set was refused
pub refusal_caused : {A : Type 0} (old new : DmiSeen) (r : Result A Failure) → IfErr r (λ f. f ≡ failure.Lost (lost.Odd odd.Refusal))
    → IfErr r (LinkCaused old new)
refusal_caused old new (Ok x) is = tt
refusal_caused old new (Err f) is = subst (LinkCaused old new) (sym is) tt

by_failure : (f : Failure) (old new : DmiSeen) (sink_old sink_new : ℕ) → LineCaused old new sink_old sink_new f
    → ActedCaused old new sink_old sink_new (acted_failing f)
by_failure (failure.Wire why) old new sink_old sink_new w = w
by_failure (failure.Lost why) old new sink_old sink_new w = w
by_failure failure.Sink old new sink_old sink_new w = w

pub failing_caused : (f : Failure) (a : Acted) (old new : DmiSeen) (sink_old sink_new : ℕ) → a ≡ acted_failing f
    → LineCaused old new sink_old sink_new f → ActedCaused old new sink_old sink_new a
failing_caused f a old new sink_old sink_new is w =
    subst (ActedCaused old new sink_old sink_new) (sym is) (by_failure f old new sink_old sink_new w)

-- ---- a command that the breakpoints do not touch

fell_caused : {K : Type 0} (T : K → Type 0) (at : K → Place) (next : K) (f : Failure) (old new : DmiSeen) (sink_old sink_new : ℕ)
    (was is : Option (List ℕ)) → Fell T at old.fault_count new.fault_count (told old) (told new) sink_old sink_new was is f
    → LineCaused old new sink_old sink_new f
fell_caused T at next f old new sink_old sink_new was is (Fell.in_call said falls put) =
    no_line (Rises sink_old sink_new) f old new (fell at next said f old new falls)
fell_caused T at next f old new sink_old sink_new was is (Fell.at_line said line heard way h then may quiet went front rises) = rises
fell_caused T at next f old new sink_old sink_new was is (Fell.among_lines said ahead way h then quiet went front rises) = rises

pub acted_caused : (c : Command) (s t : State) (a : Acted) (old new : DmiSeen) (sink_old sink_new : ℕ) (was is : Option (List ℕ))
    → ActedAs c s t old.fault_count new.fault_count (told old) (told new) sink_old sink_new was is a → ActedCaused old new sink_old sink_new a
acted_caused c s t acted.Done old new sink_old sink_new was is w = tt
acted_caused c s t acted.Error old new sink_old sink_new was is w = tt
acted_caused c s t acted.End old new sink_old sink_new was is w = tt
acted_caused c s t (acted.Wire why) old new sink_old sink_new was is w =
    fell_caused CalmNext (before c s) (λ t. any_plan) (failure.Wire why) old new sink_old sink_new was is w
acted_caused c s t (acted.Lost why) old new sink_old sink_new was is w =
    fell_caused CalmNext (before c s) (λ t. any_plan) (failure.Lost why) old new sink_old sink_new was is w
acted_caused c s t acted.Sink old new sink_old sink_new was is w =
    fell_caused CalmNext (before c s) (λ t. any_plan) failure.Sink old new sink_old sink_new was is w

-- ---- a session

abbrev EndCausedAt : (old new : DmiSeen) → Ended → Type 0
EndCausedAt old new e = EndCaused old.fault_count new.fault_count new.far e

by_grade : (wrong : Bool) (old new : DmiSeen) → EndCausedAt old new (graded wrong)
by_grade true old new = tt
by_grade false old new = tt

by_grade_sink : (wrong : Bool) (sink_old sink_new : ℕ) → SinkCaused sink_old sink_new (graded wrong)
by_grade_sink true sink_old sink_new = tt
by_grade_sink false sink_old sink_new = tt

pub graded_caused : (wrong : Bool) (e : Ended) (old new : DmiSeen) → e ≡ graded wrong → EndCaused old.fault_count new.fault_count new.far e
graded_caused wrong e old new is = subst (EndCausedAt old new) (sym is) (by_grade wrong old new)

pub graded_sink : (wrong : Bool) (e : Ended) (sink_old sink_new : ℕ) → e ≡ graded wrong → SinkCaused sink_old sink_new e
graded_sink wrong e sink_old sink_new is = subst (SinkCaused sink_old sink_new) (sym is) (by_grade_sink wrong sink_old sink_new)

by_end : (f : Failure) (old new : DmiSeen) → LinkCaused old new f → EndCausedAt old new (ended_failing f)
by_end (failure.Wire why) old new w = w
by_end (failure.Lost why) old new w = w
by_end failure.Sink old new w = tt

by_end_sink : (f : Failure) (old new : DmiSeen) (sink_old sink_new : ℕ) → LinkCaused old new f → SinkCaused sink_old sink_new (ended_failing f)
by_end_sink (failure.Wire why) old new sink_old sink_new w = tt
by_end_sink (failure.Lost why) old new sink_old sink_new w = tt
by_end_sink failure.Sink old new sink_old sink_new w = absurd w

-- whose breakpoints could not be taken out
pub unclosed_caused : (f : Failure) (e : Ended) (old mid new : DmiSeen) → e ≡ ended_failing f → old.fault_count ≤ mid.fault_count
    → mid.fault_count ≤ new.fault_count → LinkCaused mid new f → EndCaused old.fault_count new.fault_count new.far e
unclosed_caused f e old mid new is le later w = subst (EndCausedAt old new) (sym is) (by_end f old new (since ⊥ f old mid new le later w))

pub unclosed_sink : (f : Failure) (e : Ended) (mid new : DmiSeen) (sink_old sink_new : ℕ) → e ≡ ended_failing f → LinkCaused mid new f
    → SinkCaused sink_old sink_new e
unclosed_sink f e mid new sink_old sink_new is w = subst (SinkCaused sink_old sink_new) (sym is) (by_end_sink f mid new sink_old sink_new w)

-- since an earlier count of faults
pub end_since : (e : Ended) (old mid new : DmiSeen) → old.fault_count ≤ mid.fault_count → mid.fault_count ≤ new.fault_count
    → EndCaused mid.fault_count new.fault_count new.far e → EndCaused old.fault_count new.fault_count new.far e
end_since ended.Clean old mid new le later w = tt
end_since ended.WithErrors old mid new le later w = tt
end_since (ended.Target fault) old mid new le later w = tt
end_since (ended.Wire why) old mid new le later w = since ⊥ (failure.Wire why) old mid new le later w
end_since (ended.Lost why) old mid new le later w = w
end_since ended.Sink old mid new le later w = tt

-- ---- a chip that is refused

pub unopened_register : (fault : ConnectFault) (e : Ended) → e ≡ ended_unopened fault → IsOfRegister e
unopened_register fault e is = subst IsOfRegister (sym is) (by fault)
  where
    by : (x : ConnectFault) → IsOfRegister (ended_unopened x)
    by (connect.Dtm word) = refl
    by (connect.Module word control) = refl
    by (connect.Abstract word) = refl
    by (connect.Bus word) = refl
    by (connect.Dmi (dmi_fault.Wire why)) = tt
    by (connect.Dmi dmi_fault.Failed) = tt
    by (connect.Dmi dmi_fault.StillBusy) = tt

pub followed_register : (script : List SoftCommand) (from : SoftSession) (e : Ended) (old new : Tells) (was is : Option (List ℕ))
    → FollowedLed script from old new was is e → IsOfRegister e
followed_register script from ended.Clean old new was is w = tt
followed_register script from ended.WithErrors old new was is w = tt
followed_register script from (ended.Target fault) old new was is w = absurd w
followed_register script from (ended.Wire why) old new was is w = tt
followed_register script from (ended.Lost why) old new was is w = tt
followed_register script from ended.Sink old new was is w = tt
