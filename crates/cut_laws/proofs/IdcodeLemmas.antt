-- The IDCODE was to be read, over a told chip: turns passed.
use Rattle.std.proofs.Common.{◌≡◌, ◌∙◌, ◌++◌, Option, Some, None, ap}
use Rattle.std.proofs.lemmas.Option.{none-some, same_Some}
use Rattle.debug_model.specs.Dmi.{NoneOperated}
use Rattle.debug_model.specs.Module.{Site}
use Rattle.debug_model.specs.Scan.{WhereTold}
use Rattle.debug_model.specs.Told.{Far, IsReady, site_of}
use Rattle.abstract_debugger.specs.Stands.{Target}
use Rattle.abstract_debugger.specs.Turns.{after_turns, turns}
use Rattle.probe_run.specs.Happens.{target_of}
use Rattle.probe_run.specs.Sites.{TurnsAlone}
use Rattle.probe_run.proofs.SiteLemmas.{quiet_deeds}
use Rattle.probe_session.specs.Led.{DealsAt}
use Rattle.cut_laws.specs.BesideLaws.{IdcodeCut}
use Rattle.cut_laws.specs.Cut.{LeftWhole}
use Rattle.abstract_debugger.proofs.StandsLemmas.{went_on}
use Rattle.cut_laws.proofs.Ends.{quiet_ends}
use Rattle.left_laws.specs.Left.Spared.{Nothing}

pub idcode_cut : IdcodeCut
idcode_cut p old_count new_count old new f fell m o lines quiet a = passed old.far fell.ready fell.told a
  where
    passed : (far : Option Far) → IsReady far → WhereTold NoneOperated far new.far → DealsAt m o p lines far → LeftWhole o new.far
    passed None ready w b = absurd (none-some b.target b.is)
    passed (Some c) ready w b =
        let alone : TurnsAlone (site_of c) (site_of w.far) = quiet_deeds (site_of c) (site_of w.far)
        (record { no_command = ready.unit.commands.idle; no_access = ready.unit.bus.idle }) w.site in
        let same : target_of (site_of c) ≡ b.target = same_Some (target_of (site_of c)) b.target b.is in
        record {
          far = w.far;
          is = w.is;
          holds = quiet_ends Nothing o p.plan lines (target_of (site_of w.far)) quiet
              (went_on o p.plan lines b.target (target_of (site_of w.far)) b.holds.stands (record {
                harts = alone.harts;
                board = ap (λ (s : Site). s.board) alone.is ∙ ap (λ (t : Target). after_turns alone.harts t.board) same;
                journal = ap (λ (s : Site). s.journal) alone.is ∙ ap (λ (t : Target). t.journal ++ turns alone.harts) same;
              }));
        }
