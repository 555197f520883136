-- A loading with its line, and the script behind it.
use Rattle.std.proofs.Common.{◌≡◌, ◌≤◌, ℕ, Bool, true, false, List, [], Option, sym, subst}
use Rattle.jt_base.specs.Faults.{Rises}
use Rattle.jt_base.specs.Sink.{GrewByPrefix, grown}
use Rattle.debug_model.specs.declared.command.Command.{Command}
use Rattle.abstract_debugger.specs.Debugger.{State, commands, first_state}
use Rattle.abstract_debugger.specs.Laws.{Quiet}
use Rattle.abstract_debugger.specs.Lines.{is_error, text_of}
use Rattle.abstract_debugger.specs.Plan.{Plan}
use Rattle.abstract_debugger.proofs.QuietLemmas.{commands_are_quiet}
use Rattle.printed_lines.specs.declared.line.Line.{Line as PrintedLine}
use Rattle.printed_lines.specs.Line.{line_of}
use Rattle.probe_run.specs.Acts.{Tells}
use Rattle.probe_session.specs.declared.ended.Ended.{Ended}
use Rattle.probe_session.specs.declared.ended.Ended.TheVariants as ended
use Rattle.probe_session.specs.declared.fault.Failure.{Failure}
use Rattle.probe_session.specs.declared.fault.Failure.TheVariants as failure
use Rattle.probe_session.specs.Goes.{Anyhow, Fell, Spoke, Went}
use Rattle.probe_session.specs.Said.{said_by}
use Rattle.probe_session.specs.Scripts.{FollowedAs, FollowedBy, at_plan}
use Rattle.probe_session.proofs.SeveralLines.{spoke_fell}
use Rattle.probe_session.proofs.Spoken.{fell_said, fell_within, one_line, spoke_first, spoke_then, spoke_within}
use Rattle.elf_session.specs.Loaded.{at_loaded, before_loading, behind_loading, follows}
use Rattle.elf_session.specs.Loading.{Loading, loading}

-- ---- with its line

pub loaded_spoke : (l : Loading) (line : PrintedLine) (wrong : Bool) {t u : Tells} {c d : Option (List ℕ)} → wrong ≡ is_error (line_of line)
    → Went (before_loading l) (at_loaded line) [] t u → d ≡ grown (text_of (said_by line)) c → Spoke (before_loading l) (behind_loading wrong) wrong t u c d
loaded_spoke l line wrong {t} {u} {c} {d} is w put =
    subst (λ b. Spoke (before_loading l) (behind_loading b) wrong t u c d) (sym is)
    (one_line line (λ next. follows (is_error (line_of line)) next) wrong is w put)

quiet_behind : (wrong : Bool) (next : Plan) → Quiet next → Quiet (follows wrong next)
quiet_behind true next quiet = tt
quiet_behind false next quiet = quiet

pub loaded_unsaid : (l : Loading) (line : PrintedLine) (old_count new_count : ℕ) {t u : Tells} {sink_old sink_new : ℕ} {c d : Option (List ℕ)} {f : Failure}
    → f ≡ failure.Sink → Went (before_loading l) (at_loaded line) [] t u → GrewByPrefix (text_of (said_by line)) c d → Rises sink_old sink_new
    → Fell Quiet (before_loading l) old_count new_count t u sink_old sink_new c d f
loaded_unsaid l line old_count new_count {c = c} is w front rises =
    fell_said (said_by line) (λ next. follows (is_error (line_of line)) next) (λ next quiet. quiet_behind (is_error (line_of line)) next quiet) old_count
    new_count is (spoke_first c w) front rises

-- ---- with the script

pub not_followed : (l : Loading) (p : Plan) {old new : Tells} {was is : Option (List ℕ)} → Spoke (before_loading l) (behind_loading true) true old new was is
    → (old_count new_count sink_old sink_new : ℕ)
    → FollowedBy (loading l p) old_count new_count old new sink_old sink_new was is ended.WithErrors
not_followed l p s old_count new_count sink_old sink_new = spoke_within (λ (_ : Unit {0}). p) s

pub followed : (l : Loading) (p : Plan) (e : Ended) {old mid : Tells} (new : Tells) {old_count count : ℕ} (new_count : ℕ)
    {sink_old sink_count : ℕ} (sink_new : ℕ) {was wrote : Option (List ℕ)} (is : Option (List ℕ))
    → Spoke (before_loading l) (behind_loading false) false old mid was wrote → old_count ≤ count → sink_old ≤ sink_count → sink_count ≤ sink_new
    → FollowedBy p count new_count mid new sink_count sink_new wrote is e
    → FollowedBy (loading l p) old_count new_count old new sink_old sink_new was is e
followed l p ended.Clean new new_count sink_new is s le sink_le later f = spoke_then (spoke_within (λ (_ : Unit {0}). p) s) f
followed l p ended.WithErrors new new_count sink_new is s le sink_le later f = spoke_then (spoke_within (λ (_ : Unit {0}). p) s) f
followed l p (ended.Target fault) new new_count sink_new is s le sink_le later f = absurd f
followed l p (ended.Wire why) new new_count sink_new is s le sink_le later f = spoke_fell (spoke_within (λ (_ : Unit {0}). p) s) le sink_le later f
followed l p (ended.Lost why) new new_count sink_new is s le sink_le later f = spoke_fell (spoke_within (λ (_ : Unit {0}). p) s) le sink_le later f
followed l p ended.Sink new new_count sink_new is s le sink_le later f = spoke_fell (spoke_within (λ (_ : Unit {0}). p) s) le sink_le later f

-- the script's commands, from the state that the opening leaves
pub script_followed : (l : Loading) (script : List Command) (s : State) (e : Ended) {old mid : Tells} (new : Tells) {old_count count : ℕ} (new_count : ℕ)
    {sink_old sink_count : ℕ} (sink_new : ℕ) {was wrote : Option (List ℕ)} (is : Option (List ℕ)) → s ≡ first_state
    → Spoke (before_loading l) (behind_loading false) false old mid was wrote → old_count ≤ count → sink_old ≤ sink_count → sink_count ≤ sink_new
    → FollowedAs script s count new_count mid new sink_count sink_new wrote is e
    → FollowedBy (loading l (commands script first_state)) old_count new_count old new sink_old sink_new was is e
script_followed l script s e {mid = mid} new {count = count} new_count {sink_count = sink_count} sink_new {wrote = wrote} is first spoke le sink_le later f =
    followed l (commands script first_state) e new new_count sink_new is spoke le sink_le later
    (subst (λ x. FollowedAs script x count new_count mid new sink_count sink_new wrote is e) first f)

-- whether the line was that of an error
pub spoke_as : (l : Loading) (b c : Bool) {old mid : Tells} {was wrote : Option (List ℕ)} → b ≡ c
    → Spoke (before_loading l) (behind_loading b) b old mid was wrote → Spoke (before_loading l) (behind_loading c) c old mid was wrote
spoke_as l b c {old} {mid} {was} {wrote} is s = subst (λ x. Spoke (before_loading l) (behind_loading x) x old mid was wrote) is s

-- the loading fell
pub loading_fell : (l : Loading) (script : List Command) {old new : Tells} {old_count new_count sink_old sink_new : ℕ} {was is : Option (List ℕ)} {f : Failure}
    → Fell Quiet (before_loading l) old_count new_count old new sink_old sink_new was is f
    → Fell Anyhow (at_plan (loading l (commands script first_state))) old_count new_count old new sink_old sink_new was is f
loading_fell l script fell = fell_within (λ (_ : Unit {0}). commands script first_state) (λ _ any. commands_are_quiet script first_state) fell

pub loading_fell_as : (l : Loading) (script : List Command) {old new : Tells} {old_count new_count sink_old sink_new : ℕ} {was is : Option (List ℕ)}
    {f g : Failure} → f ≡ g → Fell Quiet (before_loading l) old_count new_count old new sink_old sink_new was is f
    → Fell Anyhow (at_plan (loading l (commands script first_state))) old_count new_count old new sink_old sink_new was is g
loading_fell_as l script {old} {new} {old_count} {new_count} {sink_old} {sink_new} {was} {is} same fell =
    loading_fell l script (subst (λ x. Fell Quiet (before_loading l) old_count new_count old new sink_old sink_new was is x) same fell)
