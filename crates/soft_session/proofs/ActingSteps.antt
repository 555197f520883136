-- A command that is done as in a session without breakpoints, as a step of a session's lowered plan.
use Rattle.std.proofs.Common.{◌≡◌, ◌∙◌, ℕ, Bool, List, [], Option, refl, sym, ap, subst, if◌then◌else◌}
use Rattle.debug_model.specs.declared.command.Command.{Command}
use Rattle.debug_model.specs.declared.command.Command.TheVariants as command
use Rattle.debug_model.specs.declared.soft_command.SoftCommand.TheVariants.{Plain}
use Rattle.abstract_debugger.specs.Debugger.{State, act, at_halted}
use Rattle.abstract_debugger.specs.Lines.{Line}
use Rattle.abstract_debugger.specs.Plan.{Plan}
use Rattle.abstract_debugger.specs.Plan.Change.{EbreakHalts}
use Rattle.abstract_debugger.specs.Plan.Plan.{change, say}
use Rattle.abstract_debugger.specs.Ways.Way.{Idle}
use Rattle.probe_run.specs.Acts.{Tells}
use Rattle.probe_session.specs.Commands.{before, behind, state_of}
use Rattle.probe_session.specs.Goes.{Spoke}
use Rattle.probe_session.specs.Led.{Leads}
use Rattle.probe_session.specs.Places.{Place, idle}
use Rattle.probe_session.proofs.LedSteps.{goes_lead}
use Rattle.soft_laws.specs.Lowered.{Table, lower}
use Rattle.soft_laws.specs.SoftBreaks.{AreSoftAddresses}
use Rattle.soft_laws.specs.SoftDebugger.{SoftState, plain_act}
use Rattle.soft_break.specs.Patches.{Patches}
use Rattle.soft_session.specs.declared.session.SoftSession.{SoftSession}
use Rattle.soft_session.specs.Led.{CommandLed, at_plan, soft_state}
use Rattle.soft_session.specs.Tables.{Holds}
use Rattle.soft_session.specs.Untouched.{IsUntouched, Leaves}
use Rattle.soft_session.proofs.LedLemmas.{led_same, led_then}
use Rattle.soft_session.proofs.LowerLemmas.{lower_act}

-- what follows, in front of a plain command
abbrev pub plainly : SoftState → (SoftState → Plan) → State → Plan
plainly s next t = next (record s { plain = t })

as_before : (c : Command) (s : SoftState) (next : SoftState → Plan) → IsUntouched c → Leaves s.planted c → plain_act c s next ≡ act c s.plain (plainly s next)
as_before command.Idcode s next is leaves = refl
as_before (command.Hart n) s next is leaves = refl
as_before command.State s next is leaves = refl
as_before command.Halt s next is leaves = refl
as_before command.Resume s next is leaves = absurd is
as_before (command.Step k) s next is leaves = absurd is
as_before (command.Wait k) s next is leaves = refl
as_before command.Regs s next is leaves = refl
as_before (command.Reg r) s next is leaves = refl
as_before (command.SetReg r v) s next is leaves = refl
as_before (command.Read size a count) s next is leaves = absurd is
as_before (command.Write size a v count) s next is leaves = absurd is
as_before (command.Dump a count) s next is leaves = absurd is
as_before (command.Via path) s next is leaves = refl
as_before (command.Break a) s next is leaves = refl
as_before (command.Watch kind a) s next is leaves = refl
as_before (command.Count turns) s next is leaves = refl
as_before (command.Clear slot) s next is leaves = refl
as_before command.Slots s next is leaves = refl
as_before (command.Ebreak on) s next is leaves =
    ap (λ b. at_halted s.plain.hart (next s) (if b then say Line.SoftBreaksAreSet (next s)
    else change (EbreakHalts s.plain.hart on) (say (Line.Ebreak on) (next s)))) leaves
as_before command.End s next is leaves = absurd is

abbrev pub lowered : SoftState → (SoftState → Plan) → Table → State → Plan
lowered s next t u = lower (plainly s next u) t

-- in front of it the plan is that of a session without breakpoints
pub in_front : (c : Command) (s : SoftState) (next : SoftState → Plan) (t : Table) (u : Tells) → AreSoftAddresses t.covered → IsUntouched c → Leaves s.planted c
    → Leads (at_plan (plain_act c s next) t) u [] (before c s.plain (lowered s next t)) u
in_front c s next t u are is leaves =
    led_same Idle 0 _ (act c s.plain (lowered s next t)) u
    (ap (λ p. lower p t) (as_before c s next is leaves) ∙ lower_act c s.plain (plainly s next) t are is)

pub spoke_led : (c : Command) (wrong : Bool) (from to : SoftSession) (old new : Tells) (was is : Option (List ℕ)) → to.table ≡ from.table
    → IsUntouched c → Leaves from.table.addresses c → Spoke (before c (state_of from.session)) (behind (state_of to.session)) wrong old new was is
    → CommandLed (Plain c) from to wrong old new was is
spoke_led c wrong from to old new was is same untouched leaves spoke = record {
  said = spoke.said;
  put = spoke.put;
  wrong_is = spoke.wrong_is;
  led = λ next t holds.
      let s : SoftState = soft_state from in
      let at : Place = before c s.plain (lowered s next t) in
      let after : Place = idle (lowered s next t (state_of to.session)) in
      let state : soft_state to ≡ record s { plain = state_of to.session } =
      (λ i. record { plain = state_of to.session; planted = (ap (λ (p : Patches). p.addresses) same) i }) in
      record {
        table = t;
        holds = subst (λ p. Holds p t) (sym same) holds;
        leads = led_then (at_plan (plain_act c s next) t) at (at_plan (next (soft_state to)) t) old old new [] spoke.said
            (in_front c s next t old holds.words untouched leaves)
            (subst (λ w. Leads at old spoke.said (at_plan (next w) t) new) (sym state)
            (goes_lead at after old new spoke.said (spoke.went.goes (lowered s next t))));
      };
}
