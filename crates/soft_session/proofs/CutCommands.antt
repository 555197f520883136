-- A command of a session with software breakpoints that did not come to its end, and the script that it stands in.
use Rattle.std.proofs.Common.{◌≡◌, ◌∙◌, ◌++◌, ℕ, Bool, true, false, List, [], ◌∷◌, Option, append_assoc, append-nil, refl, sym, ap, subst}
use Rattle.jt_base.specs.Sink.{GrewByPrefix, grown}
use Rattle.rv_model.specs.Board.{Machine}
use Rattle.debug_model.specs.declared.command.Command.{Command}
use Rattle.debug_model.specs.declared.soft_command.SoftCommand.{SoftCommand}
use Rattle.debug_model.specs.declared.soft_command.SoftCommand.TheVariants.{Plain}
use Rattle.debug_model.specs.Told.{Far, site_of}
use Rattle.abstract_debugger.specs.Debugger.{State}
use Rattle.abstract_debugger.specs.Laws.{Quiet}
use Rattle.abstract_debugger.specs.Lines.{Line, text_of, text_of_all}
use Rattle.abstract_debugger.specs.Plan.{Plan}
use Rattle.abstract_debugger.specs.Plan.Plan.{say}
use Rattle.abstract_debugger.specs.Stands.{Deals, Origin}
use Rattle.abstract_debugger.specs.Ways.{Way}
use Rattle.abstract_debugger.specs.Ways.Way.{Idle}
use Rattle.abstract_debugger.proofs.DealsLemmas.{deals_put}
use Rattle.printed_lines.specs.declared.line.Line.{Line as PrintedLine}
use Rattle.probe_run.specs.Acts.{Tells}
use Rattle.probe_run.specs.Happens.{target_of}
use Rattle.probe_session.specs.declared.fault.Failure.{Failure}
use Rattle.probe_session.specs.declared.fault.Failure.TheVariants as failure
use Rattle.probe_session.specs.declared.acted.Acted.{Acted}
use Rattle.probe_session.specs.declared.acted.Acted.TheVariants as acted
use Rattle.probe_session.specs.Acts.{ActedAs}
use Rattle.probe_session.specs.Commands.{before, state_of}
use Rattle.probe_session.specs.Goes.{CalmNext, Fell}
use Rattle.probe_session.specs.Led.{DealsAt, Leads}
use Rattle.probe_session.specs.Places.{Place, idle, place, spot}
use Rattle.probe_session.specs.Said.{said_by}
use Rattle.probe_session.specs.Transcribed.{Still}
use Rattle.probe_session.proofs.LedSteps.{goes_lead}
use Rattle.probe_session.proofs.Spoken.{grown_lines, grown_none}
use Rattle.probe_session.proofs.Transcribing.{found_far}
use Rattle.soft_laws.specs.Lowered.{Table, lower}
use Rattle.soft_laws.specs.SoftDebugger.{SoftState, soft_commands}
use Rattle.soft_break.specs.Patches.{Patches}
use Rattle.soft_session.specs.declared.session.SoftSession.{SoftSession}
use Rattle.soft_session.specs.Acts.{ActedLed}
use Rattle.soft_session.specs.Cuts.{CommandCut, CutShort, CutsOf, CutsSaying, LeftSoft, QuietAt, ScriptCut, at_command}
use Rattle.soft_session.specs.Led.{LineLed, Onto, at_plan, soft_state}
use Rattle.soft_session.specs.Tables.{Holds}
use Rattle.soft_session.specs.Untouched.{IsUntouched, Leaves}
use Rattle.soft_session.proofs.ActingSteps.{in_front, lowered, plainly, spoke_led}
use Rattle.soft_session.proofs.CommandSteps.{SoFar}
use Rattle.soft_session.proofs.CutSteps.{falls_saying, no_line_said}
use Rattle.soft_session.proofs.LowerLemmas.{lower_say}
use Rattle.soft_session.proofs.QuietSteps.{lower_quiet}

-- ---- a call that failed with no line said

pub call_cut : (c : SoftCommand) (s : SoftState) (p : Patches) (old new : Tells) (was : Option (List ℕ)) (f : Failure) → CutsOf p (at_command c s) old new f
    → CommandCut c s p old new was was f
call_cut c s p old new was f cuts next quiet =
    CutShort.in_call [] (grown_none was) (λ t holds. no_line_said (at_command c s next t) old new f (cuts next t holds))

-- ---- a line that could not be written

pub one_front : (line : Line) (was is : Option (List ℕ)) → GrewByPrefix (text_of line) was is → GrewByPrefix (text_of_all (line ∷ [])) (grown
    (text_of_all []) was) is
one_front line was is g = subst (λ text. GrewByPrefix text (grown [] was) is) (sym (append-nil (text_of line)))
    (subst (λ x. GrewByPrefix (text_of line) x is) (grown_none was) g)

pub one_more_front : (line : Line) (said : List Line) (was is : Option (List ℕ)) → GrewByPrefix (text_of line) (grown (text_of_all said) was) is
    → GrewByPrefix (text_of_all (line ∷ [])) (grown (text_of_all said) was) is
one_more_front line said was is g = subst (λ text. GrewByPrefix text (grown (text_of_all said) was) is) (sym (append-nil (text_of line))) g

-- behind the line
pub quiet_line : (m : Machine) (o : Origin) (way : Way) (h : ℕ) (line : Line) (next : Plan) (lines : List Line) (new : Option Far) → Quiet next
    → DealsAt m o (place way h (say line next)) lines new → Still (QuietAt o (lines ++ line ∷ [])) new
quiet_line m o way h line next lines new quiet d =
    found_far (λ t. Deals m h way o (say line next) lines t) (QuietAt o (lines ++ line ∷ [])) new d.target d.is d.holds (λ last e. record {
      plan = next;
      quiet = quiet;
      stands = (deals_put m h way o line next lines (target_of (site_of last)) e).stands;
    })

pub quiet_here : (m : Machine) (o : Origin) (way : Way) (h : ℕ) (next : Plan) (lines : List Line) (new : Option Far) → Quiet next
    → DealsAt m o (place way h next) lines new → Still (QuietAt o lines) new
quiet_here m o way h next lines new quiet d =
    found_far (λ t. Deals m h way o next lines t) (QuietAt o lines) new d.target d.is d.holds (λ last e. record {
      plan = next;
      quiet = quiet;
      stands =
          e.stands;
    })

pub put_cut : (c : SoftCommand) (line : PrintedLine) (from to : SoftSession) (old new : Tells) (was is : Option (List ℕ)) → LineLed c from to old new line
    → GrewByPrefix (text_of (said_by line)) was is → CommandCut c (soft_state from) from.table old new was is failure.Sink
put_cut c line from to old new was is led front next quiet =
    CutShort.at_line [] (said_by line ∷ []) (one_front (said_by line) was is front) (λ t holds m o lines d.
    let u : Onto to.table (λ u. Leads (at_command c (soft_state from) next t) old [] (at_plan (say (said_by line) (next (soft_state to))) u) new) =
    led next t holds in
    let n : Plan = lower (next (soft_state to)) u.table in
    let at : DealsAt m o (idle (lower (say (said_by line) (next (soft_state to))) u.table)) lines new.far =
    subst (λ l. DealsAt m o (at_plan (say (said_by line) (next (soft_state to))) u.table) l new.far) (append-nil lines) (u.leads m o lines d) in
    quiet_line m o Idle 0 (said_by line) n lines new.far (lower_quiet (next (soft_state to)) u.table (quiet (soft_state to)))
    (subst (λ p. DealsAt m o (idle p) lines new.far) (lower_say (said_by line) (next (soft_state to)) u.table) at))

-- ---- a command that is done as in a session without breakpoints

pub saying_then : (a b : Place) (t u v : Tells) (said : List Line) (f : Failure) → Leads a t [] b u → CutsSaying b u said f v → CutsSaying a t said f v
saying_then a b t u v said f first cuts m o lines d =
    subst (λ l. Still (LeftSoft o (l ++ said) f) v.far) (append-nil lines) (cuts m o (lines ++ []) (first m o lines d))

at_front : (c : Command) (s : SoftState) (next : SoftState → Plan) (t : Table) (p : Patches) (old : Tells) → Holds p t → IsUntouched c → Leaves s.planted c
    → (m : Machine) (o : Origin) (lines : List Line) → DealsAt m o (at_command (Plain c) s next t) lines old.far
    → DealsAt m o (before c s.plain (lowered s next t)) lines old.far
at_front c s next t p old holds untouched leaves m o lines d =
    subst (λ l. DealsAt m o (before c s.plain (lowered s next t)) l old.far) (append-nil lines)
    (in_front c s next t old holds.words untouched leaves m o lines d)

pub fell_cut : (c : Command) (s : SoftState) (p : Patches) (f : Failure) (old_count new_count : ℕ) (old new : Tells) (sink_old sink_new : ℕ)
    (was is : Option (List ℕ)) → IsUntouched c → Leaves s.planted c
    → Fell CalmNext (before c s.plain) old_count new_count old new sink_old sink_new was is f → CommandCut (Plain c) s p old new was is f
fell_cut c s p f old_count new_count old new sink_old sink_new was is untouched leaves (Fell.in_call said falls put) next quiet =
    CutShort.in_call said put (λ t holds. saying_then (at_command (Plain c) s next t) (before c s.plain (lowered s next t)) old old new said f
    (in_front c s next t old holds.words untouched leaves)
    (falls_saying (before c s.plain) (lowered s next t) said old_count new_count old new f falls))
fell_cut c s p f old_count new_count old new sink_old sink_new was is untouched leaves (Fell.at_line said line heard way h rest may calm went front rises)
    next quiet =
    CutShort.at_line said (line ∷ []) (one_more_front line said was is front) (λ t holds m o lines d.
    let k : State → Plan = lowered s next t in
    let at : DealsAt m o (spot heard way h (say line (rest k))) (lines ++ said) new.far =
    goes_lead (before c s.plain k) (spot heard way h (say line (rest k))) old new said (went.goes k) m o lines
    (at_front c s next t p old holds untouched leaves m o lines d) in
    subst (λ l. Still (QuietAt o l) new.far) (append_assoc lines said (line ∷ []))
    (quiet_line m o way h line (rest k) (lines ++ said) new.far (calm k (λ w. lower_quiet (plainly s next w) t (quiet (record s { plain = w })))) at))
fell_cut c s p f old_count new_count old new sink_old sink_new was is untouched leaves (Fell.among_lines said ahead way h rest calm went front rises)
    next quiet =
    CutShort.at_line said ahead front (λ t holds m o lines d.
    let k : State → Plan = lowered s next t in
    let at : DealsAt m o (place way h (rest k)) (lines ++ (said ++ ahead)) new.far =
    goes_lead (before c s.plain k) (place way h (rest k)) old new (said ++ ahead) (went.goes k) m o lines
    (at_front c s next t p old holds untouched leaves m o lines d) in
    quiet_here m o way h (rest k) (lines ++ (said ++ ahead)) new.far (calm k (λ w. lower_quiet (plainly s next w) t (quiet (record s { plain = w })))) at)

-- ---- behind other commands

pub behind_others : (script : List SoftCommand) (from : SoftSession) (rest : List SoftCommand) (mid : SoftSession) (wrong : Bool) (old between new : Tells)
    (was put is : Option (List ℕ)) (f : Failure) → SoFar script from rest mid wrong old between was put
    → CutShort (λ t. at_plan (soft_commands rest (soft_state mid)) t) mid.table between new put is f
    → ScriptCut script (soft_state from) from.table old new was is f
behind_others script from rest mid wrong old between new was put is f so (CutShort.in_call said written cuts) =
    CutShort.in_call (so.said ++ said) (grown_lines so.said said was put is so.put written) (λ t holds m o lines d.
    let u : Onto mid.table (λ u. Leads (at_plan (soft_commands script (soft_state from)) t) old so.said (at_plan (soft_commands rest (soft_state mid)) u)
    between) = so.led t holds in
    subst (λ l. Still (LeftSoft o l f) new.far) (append_assoc lines so.said said) (cuts u.table u.holds m o (lines ++ so.said) (u.leads m o lines d)))
behind_others script from rest mid wrong old between new was put is f so (CutShort.at_line said ahead front at) =
    CutShort.at_line (so.said ++ said) ahead
    (subst (λ x. GrewByPrefix (text_of_all ahead) x is) (grown_lines so.said said was put (grown (text_of_all said) put) so.put refl) front)
    (λ t holds m o lines d.
    let u : Onto mid.table (λ u. Leads (at_plan (soft_commands script (soft_state from)) t) old so.said (at_plan (soft_commands rest (soft_state mid)) u)
    between) = so.led t holds in
    subst (λ l. Still (QuietAt o l) new.far) (append_assoc lines so.said (said ++ ahead) ∙ ap (λ (x : List Line). lines ++ x) (sym
    (append_assoc so.said said ahead)))
    (at u.table u.holds m o (lines ++ so.said) (u.leads m o lines d)))

-- ---- by what became of it

pub plain_acted : (c : Command) (a : Acted) (from to : SoftSession) (old_count new_count : ℕ) (old new : Tells) (sink_old sink_new : ℕ)
    (was is : Option (List ℕ)) → to.table ≡ from.table → IsUntouched c → Leaves from.table.addresses c
    → ActedAs c (state_of from.session) (state_of to.session) old_count new_count old new sink_old sink_new was is a
    → ActedLed (Plain c) from to old new was is a
plain_acted c acted.Done from to old_count new_count old new sink_old sink_new was is same untouched leaves did =
    spoke_led c false from to old new was is same untouched leaves did
plain_acted c acted.Error from to old_count new_count old new sink_old sink_new was is same untouched leaves did =
    spoke_led c true from to old new was is same untouched leaves did
plain_acted c acted.End from to old_count new_count old new sink_old sink_new was is same untouched leaves did =
    absurd (subst IsUntouched did.0 untouched)
plain_acted c (acted.Wire why) from to old_count new_count old new sink_old sink_new was is same untouched leaves did =
    fell_cut c (soft_state from) from.table (failure.Wire why) old_count new_count old new sink_old sink_new was is untouched leaves did
plain_acted c (acted.Lost why) from to old_count new_count old new sink_old sink_new was is same untouched leaves did =
    fell_cut c (soft_state from) from.table (failure.Lost why) old_count new_count old new sink_old sink_new was is untouched leaves did
plain_acted c acted.Sink from to old_count new_count old new sink_old sink_new was is same untouched leaves did =
    fell_cut c (soft_state from) from.table failure.Sink old_count new_count old new sink_old sink_new was is untouched leaves did
