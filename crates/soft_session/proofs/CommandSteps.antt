-- The commands of a script with software breakpoints, one behind another, and the end.
use Rattle.std.proofs.Common.{◌≡◌, ◌∙◌, ◌++◌, ℕ, Bool, true, false, List, [], ◌∷◌, Option, All, append-nil, refl, sym, ap, subst}
use Rattle.std.specs.Prelude.{◌||◌}
use Rattle.std.proofs.lemmas.List.Elements.{All-head, All-tail}
use Rattle.std.proofs.lemmas.List.Folds.{list_any-append}
use Rattle.jt_base.specs.Sink.{grown}
use Rattle.debug_model.specs.declared.soft_command.SoftCommand.{SoftCommand}
use Rattle.debug_model.specs.declared.soft_command.SoftCommand.TheVariants.{Plain}
use Rattle.debug_model.specs.declared.command.Command.TheVariants as command
use Rattle.debug_model.specs.SoftCommand.{IsSoftCommand}
use Rattle.abstract_debugger.specs.Lines.{Line, any_error, is_error, text_of_all}
use Rattle.abstract_debugger.specs.Plan.Plan.{stop}
use Rattle.abstract_debugger.specs.Plan.PlanEnd.{Done}
use Rattle.probe_run.specs.Acts.{Tells}
use Rattle.probe_session.specs.declared.ended.Ended.{Ended}
use Rattle.probe_session.specs.Led.{Leads}
use Rattle.probe_session.specs.Places.{Place, idle}
use Rattle.probe_session.specs.Scripts.{graded}
use Rattle.probe_session.proofs.Spoken.{grown_lines, grown_none}
use Rattle.soft_laws.specs.Lowered.{Table, lower}
use Rattle.soft_laws.specs.SoftDebugger.{closing, soft_commands}
use Rattle.soft_session.specs.declared.session.SoftSession.{SoftSession}
use Rattle.soft_session.specs.Acts.{EndLed, FollowedLed, ScriptLed}
use Rattle.soft_session.specs.Led.{CommandLed, Onto, at_plan, soft_state}
use Rattle.soft_session.specs.Setting.{ClosedLed}
use Rattle.soft_session.specs.Tables.{Holds}
use Rattle.soft_session.proofs.ClosingSteps.{closed_end}
use Rattle.soft_session.proofs.LedLemmas.{led_same, led_then}
use Rattle.abstract_debugger.specs.Ways.Way.{Idle}

-- the commands so far, of which some may say an error, and those that are left
pub record SoFar (script : List SoftCommand) (from : SoftSession) (rest : List SoftCommand) (now : SoftSession) (wrong : Bool) (old new : Tells)
    (was is : Option (List ℕ)) : Type 0 where
  pub said : List Line
  pub put : is ≡ grown (text_of_all said) was
  pub wrong_is : any_error said ≡ wrong
  pub led : (t : Table) → Holds from.table t
      → Onto now.table (λ u. Leads (at_plan (soft_commands script (soft_state from)) t) old said (at_plan (soft_commands rest (soft_state now)) u) new)

or_false : (b : Bool) → (b || false) ≡ b
or_false true = refl
or_false false = refl

or_true : (b : Bool) → (b || true) ≡ true
or_true true = refl
or_true false = refl

pub none_done : (script : List SoftCommand) (from : SoftSession) (u : Tells) (was : Option (List ℕ)) → SoFar script from script from false u u was was
none_done script from u was = record {
  said = [];
  put = grown_none was;
  wrong_is = refl;
  led = λ t holds. record { table = t; holds = holds; leads = led_same Idle 0 _ (lower (soft_commands script (soft_state from)) t) u refl };
}

-- one command more
one_done : (script : List SoftCommand) (from : SoftSession) (c : SoftCommand) (after : List SoftCommand) (mid now : SoftSession) (wrong x : Bool)
    (old between new : Tells) (was put is : Option (List ℕ)) → SoFar script from (c ∷ after) mid wrong old between was put
    → CommandLed c mid now x between new put is → SoFar script from after now (wrong || x) old new was is
one_done script from c after mid now wrong x old between new was put is so one = record {
  said = so.said ++ one.said;
  put = grown_lines so.said one.said was put is so.put one.put;
  wrong_is = list_any-append is_error so.said one.said ∙ ap (λ b. b || any_error one.said) so.wrong_is ∙ ap (λ b. wrong || b) one.wrong_is;
  led = λ t holds.
      let from_place : Place = at_plan (soft_commands script (soft_state from)) t in
      let o : Onto mid.table (λ u. Leads from_place old so.said (at_plan (soft_commands (c ∷ after) (soft_state mid)) u) between) = so.led t holds in
      let n : Onto now.table (λ u. Leads (at_plan (soft_commands (c ∷ after) (soft_state mid)) o.table) between one.said
      (at_plan (soft_commands after (soft_state now)) u) new) =
      one.led (soft_commands after) o.table o.holds in
      record {
        table = n.table;
        holds = n.holds;
        leads = led_then from_place (at_plan (soft_commands (c ∷ after) (soft_state mid)) o.table) (at_plan (soft_commands after (soft_state now)) n.table)
            old between new so.said one.said o.leads n.leads;
      };
}

pub done_one : (script : List SoftCommand) (from : SoftSession) (c : SoftCommand) (rest after : List SoftCommand) (mid now : SoftSession) (wrong : Bool)
    (old between new : Tells) (was put is : Option (List ℕ)) → rest ≡ c ∷ after → SoFar script from rest mid wrong old between was put
    → CommandLed c mid now false between new put is → SoFar script from after now wrong old new was is
done_one script from c rest after mid now wrong old between new was put is front so one =
    subst (λ b. SoFar script from after now b old new was is) (or_false wrong)
    (one_done script from c after mid now wrong false old between new was put is (subst (λ r. SoFar script from r mid wrong old between was put) front so) one)

pub wrong_one : (script : List SoftCommand) (from : SoftSession) (c : SoftCommand) (rest after : List SoftCommand) (mid now : SoftSession) (wrong : Bool)
    (old between new : Tells) (was put is : Option (List ℕ)) → rest ≡ c ∷ after → SoFar script from rest mid wrong old between was put
    → CommandLed c mid now true between new put is → SoFar script from after now true old new was is
wrong_one script from c rest after mid now wrong old between new was put is front so one =
    subst (λ b. SoFar script from after now b old new was is) (or_true wrong)
    (one_done script from c after mid now wrong true old between new was put is (subst (λ r. SoFar script from r mid wrong old between was put) front so) one)

-- ---- the end

follows : (script : List SoftCommand) (from : SoftSession) (wrong : Bool) (e : Ended) (old new : Tells) (was is : Option (List ℕ)) → e ≡ graded wrong
    → ScriptLed script from wrong old new was is → FollowedLed script from old new was is e
follows script from wrong e old new was is e_is led = subst (FollowedLed script from old new was is) (sym e_is) (by wrong led)
  where
    by : (b : Bool) → ScriptLed script from b old new was is → FollowedLed script from old new was is (graded b)
    by true l = l
    by false l = l

-- nothing is said at the end
no_more : (a b : Place) (t u v : Tells) (xs : List Line) → Leads a t xs b u → Leads b u [] (idle (stop Done)) v → Leads a t xs (idle (stop Done)) v
no_more a b t u v xs first second = subst (λ l. Leads a t l (idle (stop Done)) v) (append-nil xs) (led_then a b (idle (stop Done)) t u v xs [] first second)

-- behind the last command every breakpoint was taken out
pub all_done : (script : List SoftCommand) (from : SoftSession) (rest : List SoftCommand) (mid now : SoftSession) (wrong : Bool) (e : Ended)
    (old between new : Tells) (was is : Option (List ℕ)) → rest ≡ [] → SoFar script from rest mid wrong old between was is
    → ClosedLed mid.table now.table between new → now.table.addresses ≡ [] → e ≡ graded wrong → FollowedLed script from old new was is e
all_done script from rest mid now wrong e old between new was is none so closed cleared e_is = follows script from wrong e old new was is e_is
    (let f : SoFar script from [] mid wrong old between was is = subst (λ r. SoFar script from r mid wrong old between was is) none so in
    record {
      said = f.said;
      put = f.put;
      wrong_is = f.wrong_is;
      led = λ t holds.
          let from_place : Place = at_plan (soft_commands script (soft_state from)) t in
          let o : Onto mid.table (λ u. Leads from_place old f.said (at_plan (soft_commands [] (soft_state mid)) u) between) = f.led t holds in
          let n : Onto now.table (λ u. Leads (at_plan (closing mid.table.addresses (stop Done)) o.table) between [] (idle (stop Done)) new) =
          closed_end mid.table now.table between new closed cleared o.table o.holds in
          no_more from_place (at_plan (soft_commands [] (soft_state mid)) o.table) old between new f.said o.leads n.leads;
    })

-- at `end`
pub ended_here : (script : List SoftCommand) (from : SoftSession) (c : SoftCommand) (rest after : List SoftCommand) (mid now : SoftSession) (wrong : Bool)
    (e : Ended) (old between new : Tells) (was put is : Option (List ℕ)) → rest ≡ c ∷ after → SoFar script from rest mid wrong old between was put
    → EndLed c mid now between new put is → e ≡ graded wrong → FollowedLed script from old new was is e
ended_here script from c rest after mid now wrong e old between new was put is front so end e_is = follows script from wrong e old new was is e_is
    (let f : SoFar script from (Plain command.End ∷ after) mid wrong old between was put =
    subst (λ r. SoFar script from r mid wrong old between was put) (front ∙ ap (λ (x : SoftCommand). x ∷ after) end.ends) so in
    record {
      said = f.said;
      put = end.written ∙ f.put;
      wrong_is = f.wrong_is;
      led = λ t holds.
          let from_place : Place = at_plan (soft_commands script (soft_state from)) t in
          let o : Onto mid.table (λ u. Leads from_place old f.said (at_plan (soft_commands (Plain command.End ∷ after) (soft_state mid)) u) between) =
          f.led t holds in
          let n : Onto now.table (λ u. Leads (at_plan (closing mid.table.addresses (stop Done)) o.table) between [] (idle (stop Done)) new) =
          end.led o.table o.holds in
          no_more from_place (at_plan (soft_commands (Plain command.End ∷ after) (soft_state mid)) o.table) old between new f.said o.leads n.leads;
    })

pub within_after : (rest : List SoftCommand) (c : SoftCommand) (after : List SoftCommand) → rest ≡ c ∷ after → All IsSoftCommand rest
    → All IsSoftCommand after
within_after rest c after is all = All-tail IsSoftCommand c after (subst (All IsSoftCommand) is all)

pub within_front : (rest : List SoftCommand) (c : SoftCommand) (after : List SoftCommand) → rest ≡ c ∷ after → All IsSoftCommand rest → IsSoftCommand c
within_front rest c after is all = All-head IsSoftCommand c after (subst (All IsSoftCommand) is all)
