use Rattle.std.specs.Bool.{⊤}
use Rattle.std.proofs.Common.{◌∙◌, refl, sym}
use Rattle.abstract_debugger.specs.Lines.{Line}
use Rattle.probe_run.specs.Told.{told}
use Rattle.probe_session.specs.declared.known.Known.TheVariants as known
use Rattle.soft_session.proofs.SettingSteps.{cleared, not_set}
use Rattle.soft_session.proofs.CutScriptCalls.{clear_cut}
use Rattle.soft_session.proofs.CausedAccesses.{bus_store_since}
use Rattle.soft_session.proofs.CausedCalls.{by_soft, if_access_map}
use Rattle.soft_session.proofs.session.SoftSession.clear.Goals as goal

pub returns-then-not-planted-clause-led : goal.returns-then-not-planted-clause-led
returns-then-not-planted-clause-led g c =
    not_set c.args.at (Line.SoftNotSet c.args.at) c.args.self.now (record c.args.self.now {
      session = record c.args.self.now.session {
        known = known.Nothing;
      };
    })
    (told (g.D.Dmi.seen c.args.link.now)) (sym c.planted.ensures ∙ c.if-not-planted.true) refl refl refl

pub returns-in-Ok-clause-led : goal.returns-in-Ok-clause-led
returns-in-Ok-clause-led g c =
    cleared c.args.at (Line.SoftClear c.args.at) c.args.self.now
    (record c.args.self.now { session = record c.args.self.now.session { known = known.Nothing }; table = c.unplant.new.self })
    (told (g.D.Dmi.seen c.args.link.now)) (told (g.D.Dmi.seen c.unplant.new.link)) (sym c.planted.ensures ∙ c.if-not-planted.false) c.in-Ok.ensures.table refl
    refl c.in-Ok.ensures.leads

pub returns-in-Err-clause-cut : goal.returns-in-Err-clause-cut
returns-in-Err-clause-cut g c =
    clear_cut ⊤ c.args.at c.args.self.now (g.D.Dmi.seen c.args.link.now) (g.D.Dmi.seen c.unplant.new.link) c.in-Err.fault _ c.failure_of.ensures
    (sym c.planted.ensures ∙ c.if-not-planted.false) c.in-Err.ensures.left c.in-Err.ensures.cut c.in-Err.ensures.keeps.behind

pub returns-in-Err-clause-caused : goal.returns-in-Err-clause-caused
returns-in-Err-clause-caused g c =
    by_soft c.in-Err.fault _ (g.D.Dmi.seen c.args.link.now) (g.D.Dmi.seen c.unplant.new.link) c.failure_of.ensures
    (if_access_map _ _ c.in-Err.fault (λ e f. bus_store_since e c.args.at _ _ _ _ _ c.unplant.ensures.keeps.later f) c.in-Err.ensures.failed)
