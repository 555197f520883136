-- What a command of a session with software breakpoints hands on behind its line, or where it failed.
use Rattle.std.proofs.Common.{◌≡◌, ◌≤◌, ℕ, Bool, true, false, List, Option, Result, Ok, Err, IfOk, IfErr, IsErrAnd, OnErr, OnOk, sym, subst}
use Rattle.jt_base.specs.Sink.{GrewByPrefix, grown}
use Rattle.debug_model.specs.Dmi.{CanQuit}
use Rattle.debug_model.specs.Kept.{DmiSeen}
use Rattle.debug_model.specs.Told.{Far}
use Rattle.debug_model.specs.declared.soft_command.SoftCommand.{SoftCommand}
use Rattle.abstract_debugger.specs.Lines.{is_error, text_of}
use Rattle.printed_lines.specs.declared.line.Line.{Line as PrintedLine}
use Rattle.probe_run.specs.Acts.{Tells}
use Rattle.probe_session.specs.declared.acted.Acted.{Acted}
use Rattle.probe_session.specs.declared.fault.Failure.{Failure}
use Rattle.probe_session.specs.declared.fault.Failure.TheVariants as failure
use Rattle.probe_session.specs.declared.fault.LostCause.TheVariants as lost
use Rattle.probe_session.specs.declared.odd.Odd.TheVariants as odd
use Rattle.probe_session.specs.declared.reach.Reach.{Reach}
use Rattle.probe_session.specs.declared.reach.Reach.TheVariants as reach_by
use Rattle.probe_session.specs.Reach.{AttachedBy}
use Rattle.probe_session.specs.declared.known.Known.TheVariants as known
use Rattle.probe_session.specs.declared.session.Session.{Session}
use Rattle.probe_session.specs.Acts.{AttachedAfter}
use Rattle.probe_session.specs.Known.{Knows, KnowsAfter}
use Rattle.probe_session.specs.Links.{Attached, Goes, LeftBy}
use Rattle.probe_session.specs.Said.{said_by}
use Rattle.probe_session.proofs.LinkLemmas.{can_quit}
use Rattle.soft_session.specs.declared.session.SoftSession.{SoftSession}
use Rattle.soft_session.specs.Acts.{ActedLed}
use Rattle.soft_session.specs.Cuts.{CommandCut, CutsOf, at_command}
use Rattle.soft_session.specs.Led.{CommandLed, LineLed, acted_by, acted_failing, soft_state}
use Rattle.soft_session.proofs.CutCommands.{call_cut, put_cut}
use Rattle.soft_session.proofs.LineSteps.{line_acted}

pub put_acted : (c : SoftCommand) (line : PrintedLine) (from to : SoftSession) (old new : Tells) (was is : Option (List ℕ)) (r : Result Acted Failure)
    → LineLed c from to old new line → OnOk r (is ≡ grown (text_of (said_by line)) was) → IfOk r (λ a. a ≡ acted_by (is_error (said_by line)))
    → IfOk r (ActedLed c from to old new was is)
put_acted c line from to old new was is (Ok a) led put acted = line_acted c line a from to old new was is led put acted
put_acted c line from to old new was is (Err f) led put acted = tt

attached_by : (new : DmiSeen) (wrong : Bool) → Attached new → AttachedAfter (acted_by wrong) new
attached_by new true attached = attached
attached_by new false attached = attached

pub put_goes : (old new : DmiSeen) (wrong : Bool) (r : Result Acted Failure) → old.fault_count ≤ new.fault_count → new.fixed ≡ old.fixed → Attached new
    → IfOk r (λ a. a ≡ acted_by wrong) → IfErr r (λ f. f ≡ failure.Sink) → Goes AttachedAfter old new r
put_goes old new wrong (Ok a) later fixed attached acted sink = record {
  later = later;
  fixed = fixed;
  behind = subst (λ x. AttachedAfter x new) (sym acted) (attached_by new wrong attached);
}
put_goes old new wrong (Err f) later fixed attached acted sink = record {
  later = later;
  fixed = fixed;
  behind = subst (λ x. LeftBy new x) (sym sink) (can_quit new attached.stands);
}

knows_by : (s : Session) (far : Option Far) (wrong : Bool) → s.known ≡ known.Nothing → KnowsAfter (acted_by wrong) s far
knows_by s far true none = subst (λ k. Knows k s.hart far) (sym none) tt
knows_by s far false none = subst (λ k. Knows k s.hart far) (sym none) tt

pub put_knows : (s : Session) (far : Option Far) (wrong : Bool) (r : Result Acted Failure) → s.known ≡ known.Nothing → IfOk r (λ a. a ≡ acted_by wrong)
    → IfOk r (λ a. KnowsAfter a s far)
put_knows s far wrong (Ok a) none acted = subst (λ x. KnowsAfter x s far) (sym acted) (knows_by s far wrong none)
put_knows s far wrong (Err f) none acted = tt

-- ---- a command for memory

pub lines_goes : (old new : DmiSeen) (wrong : Bool) (a : Acted) → old.fault_count ≤ new.fault_count → new.fixed ≡ old.fixed → Attached new
    → a ≡ acted_by wrong → AttachedAfter a new
lines_goes old new wrong a later fixed attached acted = subst (λ x. AttachedAfter x new) (sym acted) (attached_by new wrong attached)

pub lines_knows : (s : Session) (far : Option Far) (wrong : Bool) (a : Acted) → s.known ≡ known.Nothing → a ≡ acted_by wrong → KnowsAfter a s far
lines_knows s far wrong a none acted = subst (λ x. KnowsAfter x s far) (sym acted) (knows_by s far wrong none)

-- ---- a command that failed

-- in its line
pub put_short : (c : SoftCommand) (line : PrintedLine) (from to : SoftSession) (old new : Tells) (was is : Option (List ℕ)) (r : Result Acted Failure)
    → LineLed c from to old new line → OnErr r (GrewByPrefix (text_of (said_by line)) was is) → IfErr r (λ f. f ≡ failure.Sink)
    → IfErr r (CommandCut c (soft_state from) from.table old new was is)
put_short c line from to old new was is (Ok a) led front sink = tt
put_short c line from to old new was is (Err f) led front sink =
    subst (CommandCut c (soft_state from) from.table old new was is) (sym sink) (put_cut c line from to old new was is led front)

-- in a call
pub call_short : (c : SoftCommand) (from : SoftSession) (old new : Tells) (was : Option (List ℕ)) (f : Failure) (r : Result Acted Failure)
    → IsErrAnd r (λ e. e ≡ f) → CutsOf from.table (at_command c (soft_state from)) old new f
    → IfErr r (CommandCut c (soft_state from) from.table old new was was)
call_short c from old new was f (Ok a) is cuts = tt
call_short c from old new was f (Err e) is cuts =
    subst (CommandCut c (soft_state from) from.table old new was was) (sym is) (call_cut c (soft_state from) from.table old new was f cuts)

pub failing_acted : (c : SoftCommand) (f : Failure) (a : Acted) (from to : SoftSession) (old new : Tells) (was is : Option (List ℕ))
    → a ≡ acted_failing f → CommandCut c (soft_state from) from.table old new was is f → ActedLed c from to old new was is a
failing_acted c f a from to old new was is acted cut = subst (ActedLed c from to old new was is) (sym acted) (by f cut)
  where
    by : (g : Failure) → CommandCut c (soft_state from) from.table old new was is g → ActedLed c from to old new was is (acted_failing g)
    by (failure.Wire why) l = l
    by (failure.Lost why) l = l
    by failure.Sink l = l

pub failing_serving : (f : Failure) (a : Acted) (new : DmiSeen) → a ≡ acted_failing f → LeftBy new f → AttachedAfter a new
failing_serving f a new acted left = subst (λ x. AttachedAfter x new) (sym acted) (by f left)
  where
    by : (g : Failure) → LeftBy new g → AttachedAfter (acted_failing g) new
    by (failure.Wire why) l = l
    by (failure.Lost why) l = l
    by failure.Sink l = l

pub failing_knows : (f : Failure) (a : Acted) (s : Session) (far : Option Far) → a ≡ acted_failing f → KnowsAfter a s far
failing_knows f a s far acted = subst (λ x. KnowsAfter x s far) (sym acted) (by f)
  where
    by : (g : Failure) → KnowsAfter (acted_failing g) s far
    by (failure.Wire why) = tt
    by (failure.Lost why) = tt
    by failure.Sink = tt

-- ---- memory that was refused

pub quit_by : (reach : Reach) (s : DmiSeen) → AttachedBy reach s → CanQuit s.far
quit_by (reach_by.Hart x) s attached = can_quit s attached.stands
quit_by reach_by.Bus s attached = can_quit s attached.stands

pub still_attached : (reach : Reach) (s : DmiSeen) → AttachedBy reach s → Attached s
still_attached (reach_by.Hart x) s attached = record { stands = attached.stands; ready = attached.serving.ready }
still_attached reach_by.Bus s attached = attached

pub refusal_goes : (reach : Reach) (old new : DmiSeen) (r : Result PrintedLine Failure) → old.fault_count ≤ new.fault_count → new.fixed ≡ old.fixed
    → AttachedBy reach new → IfErr r (λ f. f ≡ failure.Lost (lost.Odd odd.Refusal)) → Goes (λ _. Attached) old new r
refusal_goes reach old new (Ok line) later fixed attached is = record { later = later; fixed = fixed; behind = still_attached reach new attached }
refusal_goes reach old new (Err f) later fixed attached is = record {
  later = later;
  fixed = fixed;
  behind = subst (LeftBy new) (sym is) (quit_by reach new attached);
}

-- ---- a command that puts its lines as it goes

pub lines_acted : (c : SoftCommand) (wrong : Bool) (a : Acted) (from to : SoftSession) (old new : Tells) (was is : Option (List ℕ))
    → CommandLed c from to wrong old new was is → a ≡ acted_by wrong → ActedLed c from to old new was is a
lines_acted c wrong a from to old new was is led acted = subst (ActedLed c from to old new was is) (sym acted) (by wrong led)
  where
    by : (b : Bool) → CommandLed c from to b old new was is → ActedLed c from to old new was is (acted_by b)
    by true l = l
    by false l = l

pub lines_fell : (c : SoftCommand) (from : SoftSession) (old new : Tells) (was is : Option (List ℕ)) (f : Failure) (r : Result Acted Failure)
    → IsErrAnd r (λ e. e ≡ f) → CommandCut c (soft_state from) from.table old new was is f
    → IfErr r (CommandCut c (soft_state from) from.table old new was is)
lines_fell c from old new was is f (Ok a) same cut = tt
lines_fell c from old new was is f (Err e) same cut = subst (CommandCut c (soft_state from) from.table old new was is) (sym same) cut
