-- Commands of a script, one behind another.
use Rattle.std.proofs.Common.{◌≡◌, ◌≤◌, ◌∙◌, ℕ, Bool, true, false, List, [], ◌∷◌, Option, All, refl, sym, ap, subst}
use Rattle.std.specs.Prelude.{◌||◌}
use Rattle.std.proofs.lemmas.List.Elements.{All-tail}
use Rattle.debug_model.specs.declared.command.Command.{Command}
use Rattle.debug_model.specs.declared.command.Command.TheVariants as command
use Rattle.debug_model.specs.Command.{IsWithinRanges}
use Rattle.abstract_debugger.specs.Debugger.{State, commands, first_state}
use Rattle.abstract_debugger.specs.Plan.{Plan}
use Rattle.debug_model.specs.declared.dmi.DmiFault.TheVariants as dmi_fault
use Rattle.probe_run.specs.declared.fault.ConnectFault.{ConnectFault}
use Rattle.probe_run.specs.declared.fault.ConnectFault.TheVariants as connect
use Rattle.probe_run.specs.Acts.{Tells}
use Rattle.probe_run.specs.Opening.{ConnectFails, LosesLoaded, Opened, OpensLoaded}
use Rattle.probe_session.specs.declared.ended.Ended.{Ended}
use Rattle.probe_session.specs.declared.ended.Ended.TheVariants as ended
use Rattle.probe_session.specs.declared.fault.Failure.{Failure}
use Rattle.probe_session.specs.declared.fault.Failure.TheVariants as failure
use Rattle.probe_session.specs.Acts.{Untouched}
use Rattle.probe_session.specs.Commands.{before, behind}
use Rattle.abstract_debugger.proofs.QuietLemmas.{commands_are_quiet}
use Rattle.probe_session.specs.Goes.{Anyhow, CalmNext, Fell, Spoke}
use Rattle.probe_session.specs.Scripts.{BrokeOff, EndedAs, EndedBy, FollowedAs, FollowedBy, RanInto, at_commands, at_plan, at_stop, ended_unopened, graded}
use Rattle.probe_session.proofs.SeveralLines.{spoke_fell}
use Rattle.probe_session.proofs.Spoken.{fell_within, spoke_then, spoke_within}

-- the commands so far, of which some may say an error, and those that are left
abbrev pub SoFar : List Command → State → List Command → State → Bool → (old now : Tells) → (was is : Option (List ℕ)) → Type 0
SoFar script s rest t wrong old now was is = Spoke (at_commands script s) (at_commands rest t) wrong old now was is

or_none : (b : Bool) → (b || false) ≡ b
or_none true = refl
or_none false = refl

or_one : (b : Bool) → (b || true) ≡ true
or_one true = refl
or_one false = refl

-- a command that was done
of_script : (c : Command) (after : List Command) (s t : State) (wrong : Bool) {old new : Tells} {was is : Option (List ℕ)}
    → Spoke (before c s) (behind t) wrong old new was is → SoFar (c ∷ after) s after t wrong old new was is
of_script c after s t wrong spoke = spoke_within (λ (_ : Unit {0}). commands after) spoke

at_rest : (script : List Command) (s : State) (rest rest' : List Command) (t : State) (wrong : Bool) {old now : Tells} {was is : Option (List ℕ)} → rest ≡ rest'
    → SoFar script s rest t wrong old now was is → SoFar script s rest' t wrong old now was is
at_rest script s rest rest' t wrong {old} {now} {was} {is} e so = subst (λ r. SoFar script s r t wrong old now was is) e so

pub done_one : (script : List Command) (s : State) (c : Command) (rest after : List Command) (t u : State) (wrong : Bool) {old now new : Tells}
    {was mid is : Option (List ℕ)} → rest ≡ c ∷ after
    → SoFar script s rest t wrong old now was mid → Spoke (before c t) (behind u) false now new mid is → SoFar script s after u wrong old new was is
done_one script s c rest after t u wrong {old} {now} {new} {was} {mid} {is} e so spoke =
    subst (λ b. SoFar script s after u b old new was is) (or_none wrong) (spoke_then (at_rest script s rest (c ∷ after) t wrong e so)
    (of_script c after t u false spoke))

pub wrong_one : (script : List Command) (s : State) (c : Command) (rest after : List Command) (t u : State) (wrong : Bool) {old now new : Tells}
    {was mid is : Option (List ℕ)} → rest ≡ c ∷ after
    → SoFar script s rest t wrong old now was mid → Spoke (before c t) (behind u) true now new mid is → SoFar script s after u true old new was is
wrong_one script s c rest after t u wrong {old} {now} {new} {was} {mid} {is} e so spoke =
    subst (λ b. SoFar script s after u b old new was is) (or_one wrong) (spoke_then (at_rest script s rest (c ∷ after) t wrong e so)
    (of_script c after t u true spoke))

-- ---- a command that fell, behind others

pub fell_one : (script : List Command) (s : State) (c : Command) (rest after : List Command) (t : State) (wrong : Bool)
    (old_count count new_count sink_old sink_mid sink_new : ℕ) {old now new : Tells} {was mid is : Option (List ℕ)} {f : Failure} → rest ≡ c ∷ after
    → SoFar script s rest t wrong old now was mid → old_count ≤ count → sink_old ≤ sink_mid → sink_mid ≤ sink_new
    → Fell CalmNext (before c t) count new_count now new sink_mid sink_new mid is f
    → Fell Anyhow (at_commands script s) old_count new_count old new sink_old sink_new was is f
fell_one script s c rest after t wrong old_count count new_count sink_old sink_mid sink_new e so le sink_le later fell =
    spoke_fell (at_rest script s rest (c ∷ after) t wrong e so) le sink_le later
    (fell_within (λ (_ : Unit {0}). commands after) (λ _ calm u. commands_are_quiet after u) fell)

-- ---- the script's end

follows : (script : List Command) (s : State) (wrong : Bool) (e : Ended) (old_count new_count : ℕ) {old new : Tells} (sink_old sink_new : ℕ)
    {was is : Option (List ℕ)} → e ≡ graded wrong → Spoke (at_commands script s) at_stop wrong old new was is
    → FollowedAs script s old_count new_count old new sink_old sink_new was is e
follows script s wrong e old_count new_count {old} {new} sink_old sink_new {was} {is} e_is spoke =
    subst (FollowedAs script s old_count new_count old new sink_old sink_new was is) (sym e_is) (by_grade wrong spoke)
  where
    by_grade : (b : Bool) → Spoke (at_commands script s) at_stop b old new was is
        → FollowedAs script s old_count new_count old new sink_old sink_new was is (graded b)
    by_grade true p = p
    by_grade false p = p

pub all_done : (script : List Command) (s : State) (rest : List Command) (t : State) (wrong : Bool) (e : Ended) (old_count new_count : ℕ) {old new : Tells}
    (sink_old sink_new : ℕ) {was is : Option (List ℕ)} → rest ≡ [] → e ≡ graded wrong
    → SoFar script s rest t wrong old new was is → FollowedAs script s old_count new_count old new sink_old sink_new was is e
all_done script s rest t wrong e old_count new_count sink_old sink_new none e_is so =
    follows script s wrong e old_count new_count sink_old sink_new e_is (at_rest script s rest [] t wrong none so)

-- an `end` does nothing
pub ended_here : (script : List Command) (s : State) (c : Command) (rest after : List Command) (t u : State) (wrong : Bool) (e : Ended)
    (old_count new_count : ℕ) {old now new : Tells} (sink_old sink_new : ℕ) {was mid is : Option (List ℕ)} → rest ≡ c ∷ after
    → c ≡ command.End → e ≡ graded wrong → SoFar script s rest t wrong old now was mid → Untouched t u now new mid is
    → FollowedAs script s old_count new_count old new sink_old sink_new was is e
ended_here script s c rest after t u wrong e old_count new_count {old} {now} {new} sink_old sink_new {was} {mid} {is} front end e_is so none =
    follows script s wrong e old_count new_count sink_old sink_new e_is
    (subst (λ x. Spoke (at_commands script s) at_stop wrong old new was x) (sym none.written)
    (subst (λ x. Spoke (at_commands script s) at_stop wrong old x was mid) (sym none.link)
    (at_rest script s rest (command.End ∷ after) t wrong (front ∙ ap (λ (x : Command). x ∷ after) end) so)))

pub within_after : (rest : List Command) (c : Command) (after : List Command) → rest ≡ c ∷ after → All IsWithinRanges rest → All IsWithinRanges after
within_after rest c after is all = All-tail IsWithinRanges c after (subst (All IsWithinRanges) is all)

-- ---- a chip that was not opened

pub not_opened : (p : Plan) (fault : ConnectFault) (e : Ended) (old_count new_count : ℕ) (old new : Tells) (sink_old sink_new : ℕ)
    (was : Option (List ℕ)) → e ≡ ended_unopened fault → ConnectFails old_count new_count old new fault
    → LosesLoaded old.far new.far fault → EndedBy p old_count new_count old new sink_old sink_new was was e
not_opened p fault e old_count new_count old new sink_old sink_new was e_is fails told =
    subst (EndedBy p old_count new_count old new sink_old sink_new was was) (sym e_is) (by_fault fault fails told)
  where
    by_fault : (x : ConnectFault) → ConnectFails old_count new_count old new x → LosesLoaded old.far new.far x
        → EndedBy p old_count new_count old new sink_old sink_new was was (ended_unopened x)
    by_fault (connect.Dtm word) f l = record { unopened = record { fails = f; told = l; written = refl }; register = refl }
    by_fault (connect.Module word control) f l = record { unopened = record { fails = f; told = l; written = refl }; register = refl }
    by_fault (connect.Abstract word) f l = record { unopened = record { fails = f; told = l; written = refl }; register = refl }
    by_fault (connect.Bus word) f l = record { unopened = record { fails = f; told = l; written = refl }; register = refl }
    by_fault (connect.Dmi (dmi_fault.Wire why)) f l = BrokeOff.in_opening (dmi_fault.Wire why) (record { fails = f; told = l; written = refl }) refl
    by_fault (connect.Dmi dmi_fault.Failed) f l = BrokeOff.in_opening dmi_fault.Failed (record { fails = f; told = l; written = refl }) refl
    by_fault (connect.Dmi dmi_fault.StillBusy) f l = BrokeOff.in_opening dmi_fault.StillBusy (record { fails = f; told = l; written = refl }) refl

-- ---- behind the opening

pub opened_plan_ended : (p : Plan) (e : Ended) (old_count count new_count : ℕ) (old mid new : Tells) (sink_old sink_new : ℕ) (was is : Option (List ℕ))
    → Opened old mid → OpensLoaded old.far mid.far → old_count ≤ count → FollowedBy p count new_count mid new sink_old sink_new was is e
    → EndedBy p old_count new_count old new sink_old sink_new was is e
opened_plan_ended p e old_count count new_count old mid new sink_old sink_new was is opened told le followed = by_end e followed
  where
    into : (f : Failure) → Fell Anyhow (at_plan p) count new_count mid new sink_old sink_new was is f
        → RanInto p old_count new_count old new sink_old sink_new was is f
    into f fell = record { mid = mid; count = count; opened = opened; told = told; later = le; fell = fell }

    by_end : (x : Ended) → FollowedBy p count new_count mid new sink_old sink_new was is x → EndedBy p old_count new_count old new sink_old sink_new was is x
    by_end ended.Clean f = record { mid = mid; opened = opened; told = told; spoke = f }
    by_end ended.WithErrors f = record { mid = mid; opened = opened; told = told; spoke = f }
    by_end (ended.Target fault) f = absurd f
    by_end (ended.Wire why) f = BrokeOff.in_plan (into (failure.Wire why) f)
    by_end (ended.Lost why) f = BrokeOff.in_plan (into (failure.Lost why) f)
    by_end ended.Sink f = into failure.Sink f

pub opened_ended : (script : List Command) (s : State) (e : Ended) (old_count count new_count : ℕ) (old mid new : Tells) (sink_old sink_new : ℕ)
    (was is : Option (List ℕ)) → s ≡ first_state → Opened old mid → OpensLoaded old.far mid.far → old_count ≤ count
    → FollowedAs script s count new_count mid new sink_old sink_new was is e → EndedAs script old_count new_count old new sink_old sink_new was is e
opened_ended script s e old_count count new_count old mid new sink_old sink_new was is first opened told le followed =
    opened_plan_ended (commands script first_state) e old_count count new_count old mid new sink_old sink_new was is opened told le
    (subst (λ x. FollowedAs script x count new_count mid new sink_old sink_new was is e) first followed)
