-- A session of a script that broke off, over a chip as it was loaded: the command under way fell at a place of the script's plan.
use Rattle.std.proofs.Common.{◌++◌, ◌∷◌, ℕ, List, [], Option, Some, subst}
use Rattle.rv_model.specs.Board.{Machine, machine_of}
use Rattle.debug_model.specs.Told.{site_of}
use Rattle.abstract_debugger.specs.Debugger.{State, commands, first_state}
use Rattle.abstract_debugger.specs.Laws.{Quiet}
use Rattle.abstract_debugger.specs.Lines.{Line}
use Rattle.abstract_debugger.specs.Plan.{Plan}
use Rattle.abstract_debugger.specs.Plan.Plan.{say}
use Rattle.abstract_debugger.specs.Stands.{At, Deals, Origin}
use Rattle.abstract_debugger.specs.Ways.{Way}
use Rattle.abstract_debugger.proofs.QuietLemmas.{commands_are_quiet}
use Rattle.abstract_debugger.proofs.Transparency.{fresh_unmasked}
use Rattle.probe_run.specs.Acts.{Tells}
use Rattle.probe_run.specs.Happens.{target_of}
use Rattle.probe_run.specs.Opening.{OpensLoaded}
use Rattle.probe_session.specs.declared.fault.Failure.{Failure}
use Rattle.probe_session.specs.Goes.{CalmNext, Fell}
use Rattle.probe_session.specs.Led.{DealsAt, target_at}
use Rattle.probe_session.specs.Places.{Place, idle, place, spot}
use Rattle.probe_session.specs.Scripts.{at_commands}
use Rattle.probe_session.specs.Transcribed.{behind_opening, origin_of}
use Rattle.probe_session.specs.UnderWay.{UnderWay}
use Rattle.probe_session.proofs.LedSteps.{goes_lead}
use Rattle.probe_session.proofs.Transcribing.{found_far, loaded_fresh, opened_deals}
use Rattle.probe_session.proofs.UpTo.{SaidEach, each_said}
use Rattle.left_laws.specs.Left.Spared.{Nothing}
use Rattle.cut_laws.specs.Cut.{EndsBut, LeftWhole}
use Rattle.cut_laws.specs.ScriptLaws.{FellLeaves, FellWrites, LoadedAreUndebugged, ScriptsLeave}
use Rattle.cut_laws.proofs.Ends.{quiet_ends}
use Rattle.cut_laws.proofs.FaultLemmas.{faults_leave, undebugged_but}

-- where no change is left to be made
quiet_left : (m : Machine) (h : ℕ) (way : Way) (o : Origin) (p : Plan) (lines : List Line) (new : Tells) → Quiet p → At m h way o p lines (target_at new.far)
    → LeftWhole o new.far
quiet_left m h way o p lines new quiet a =
    found_far (λ t. Deals m h way o p lines t) (λ last. EndsBut Nothing o (target_of (site_of last))) new.far a.target a.is a.holds
    (λ last d. quiet_ends Nothing o p lines (target_of (site_of last)) quiet d.stands)

fell_left : (n : Option ℕ) (next : State → Plan) (calm : CalmNext next) {a : (State → Plan) → Place} {old_count new_count : ℕ} {old new : Tells}
    {sink_old sink_new : ℕ} {was is : Option (List ℕ)} {f : Failure} (fell : Fell CalmNext a old_count new_count old new sink_old sink_new was is f)
    → FellWrites n next fell → (m : Machine) (o : Origin) (lines : List Line) → DealsAt m o (a next) lines old.far → FellLeaves n o next new fell
fell_left n next calm {a = a} {new_count = new_count} {old = old} {new = new} {f = f} (Fell.in_call said falls put) w m o lines d =
    faults_leave n (falls.at next) falls.count new_count falls.mid new f (falls.fault next) w m o (lines ++ said)
    (goes_lead (a next) (falls.at next) old falls.mid said (falls.went.goes next) m o lines d)
fell_left n next calm {a = a} {old = old} {new = new} (Fell.at_line said line heard way h then may quiet went front rises) w m o lines d =
    quiet_left m h way o (say line (then next)) (lines ++ said) new (quiet next calm)
    (goes_lead (a next) (spot heard way h (say line (then next))) old new said (went.goes next) m o lines d)
fell_left n next calm {a = a} {old = old} {new = new} (Fell.among_lines said ahead way h then quiet went front rises) w m o lines d =
    quiet_left m h way o (then next) (lines ++ (said ++ ahead)) new (quiet next calm)
    (goes_lead (a next) (place way h (then next)) old new (said ++ ahead) (went.goes next) m o lines d)

pub scripts_leave : ScriptsLeave
scripts_leave n script old_count new_count old new sink_old sink_new was is f ran first at loaded w =
    let u : UnderWay script first_state ran.count new_count ran.mid new sink_old sink_new was is f = ran.under_way in
    let p : Plan = commands script first_state in
    let o : Origin = origin_of p first in
    let m : Machine = machine_of (site_of first).board in
    let told : OpensLoaded (Some first) ran.mid.far = subst (λ x. OpensLoaded x ran.mid.far) at ran.told in
    let q : SaidEach u.front first_state u.state ran.mid u.mid was u.written = each_said u.done in
    let opened : DealsAt m o (idle (commands (u.front ++ u.command ∷ u.rest) first_state)) [] ran.mid.far =
    subst (λ cs. DealsAt m o (idle (commands cs first_state)) [] ran.mid.far) u.parts (opened_deals p first ran.mid.far loaded (told loaded)) in
    let there : DealsAt m o (at_commands (u.command ∷ u.rest) u.state tt) q.said u.mid.far =
    goes_lead (at_commands (u.front ++ u.command ∷ u.rest) first_state tt) (at_commands (u.command ∷ u.rest) u.state tt) ran.mid u.mid q.said
    ((q.went (u.command ∷ u.rest)).goes tt) m o [] opened in
    fell_left n (commands u.rest) (λ s. commands_are_quiet u.rest s) u.fell w m o q.said there

-- ---- to a machine that nobody debugs

pub loaded_are_undebugged : LoadedAreUndebugged
loaded_are_undebugged s p first last loaded ends =
    undebugged_but s (behind_opening p) (site_of first).board (target_of (site_of last))
    (fresh_unmasked (site_of first).board (loaded_fresh first.live loaded)) ends
