-- Commands of one line, by their kind.
use Rattle.std.proofs.Common.{◌≡◌, ℕ, [], Option, Some, None, sym, subst}
use Rattle.debug_model.specs.declared.command.Command.{Command}
use Rattle.debug_model.specs.declared.command.Command.TheVariants as command
use Rattle.debug_model.specs.declared.command.Path.{Path}
use Rattle.debug_model.specs.Dmi.{NoneOperated}
use Rattle.debug_model.specs.Module.{Site}
use Rattle.debug_model.specs.Scan.{WhereTold}
use Rattle.debug_model.specs.Told.{Far, IsReady, SiteReady, site_of}
use Rattle.abstract_debugger.specs.Debugger.{State}
use Rattle.abstract_debugger.specs.Plan.{Plan}
use Rattle.probe_access.proofs.ReadyTurns.{BoardReady, board_ready_turns}
use Rattle.probe_run.specs.Acts.{Tells}
use Rattle.probe_run.specs.Sites.{TurnsAlone}
use Rattle.probe_run.proofs.SiteLemmas.{quiet_deeds}
use Rattle.abstract_debugger.specs.Lines.{Line}
use Rattle.probe_session.specs.declared.fault.Failure.{Failure}
use Rattle.probe_session.specs.Calls.{Identified, IdcodeFell}
use Rattle.probe_session.specs.Commands.{at_idcode, at_line, before, ends_with}
use Rattle.probe_session.specs.Goes.{Falls, Fault, Went}
use Rattle.probe_session.specs.Steps.Step.{identifies}
use Rattle.probe_session.proofs.WentLemmas.{falls_at, falls_within, went_none, went_one, within}

-- ---- the IDCODE

pub idcode_command : (s : State) {line : Line} {u v : Tells} → Went at_idcode (ends_with line) [] u v → Went (before command.Idcode s) (at_line line s) [] u v
idcode_command s w = within (λ (next : State → Plan). next s) w

pub idcode_command_falls : (s : State) {k : Command} {old_count new_count : ℕ} {u v : Tells} {f : Failure} → k ≡ command.Idcode
    → Falls at_idcode [] old_count new_count u v f → Falls (before k s) [] old_count new_count u v f
idcode_command_falls s {k} {old_count} {new_count} {u} {v} {f} is p =
    subst (λ x. Falls (before x s) [] old_count new_count u v f) (sym is) (falls_within (λ (next : State → Plan). next s) p)

pub identified : (number : ℕ) {t u : Tells} → Identified number t u → Went at_idcode (ends_with (Line.Idcode number)) [] t u
identified number id = went_one (λ next. identifies id)

pub idcode_falls : {old_count new_count : ℕ} {t u : Tells} {f : Failure} → IdcodeFell old_count new_count t u f → Falls at_idcode [] old_count new_count t u f
idcode_falls fell = falls_at (λ next. Fault.idcode fell)

ready_along : (s t : Site) → SiteReady s → TurnsAlone s t → SiteReady t
ready_along s t r a =
    let b : BoardReady _ = board_ready_turns a.harts s.board (record { harts = r.harts; memory = r.memory }) in
    subst (λ (x : Site). SiteReady x) (sym a.is) (record { unit = r.unit; harts = b.harts; memory = b.memory })

pub ready_on : (old new : Option Far) → IsReady old → WhereTold NoneOperated old new → IsReady new
ready_on None new r n = subst (λ x. IsReady x) (sym n) tt
ready_on (Some f) new r n =
    subst (λ x. IsReady x) (sym n.is)
    (ready_along (site_of f) (site_of n.far) r (quiet_deeds (site_of f) (site_of n.far)
    (record { no_command = r.unit.commands.idle; no_access = r.unit.bus.idle }) n.site))

-- ---- a path is chosen

chosen_path : (path : Path) (s : State) {t : Tells} → Went (before (command.Via path) s) (at_line (Line.Via path) (record s { path = path })) [] t t
chosen_path path s = went_none

pub chosen : (path : Path) {line : Line} (s : State) {w : State} {t : Tells} → line ≡ Line.Via path → w ≡ record s { path = path }
    → Went (before (command.Via path) s) (at_line line w) [] t t
chosen path {line} s {w} {t} line_is state_is =
    subst (λ (l : Line). Went (before (command.Via path) s) (at_line l w) [] t t) (sym line_is)
    (subst (λ (x : State). Went (before (command.Via path) s) (at_line (Line.Via path) x) [] t t) (sym state_is) (chosen_path path s))
