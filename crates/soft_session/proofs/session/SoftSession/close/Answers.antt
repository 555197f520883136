use Rattle.std.specs.Bool.{⊤}
use Rattle.std.proofs.Common.{◌∙◌, refl, sym, arith}
use Rattle.probe_run.specs.Told.{told}
use Rattle.soft_session.proofs.ClosingSteps.{closed_one, none_closed, none_lowest, one_less}
use Rattle.soft_session.proofs.CutCalls.{closing_cut}
use Rattle.soft_session.proofs.CausedAccesses.{bus_store_since}
use Rattle.soft_session.proofs.CausedCalls.{by_soft, if_access_map, since}
use Rattle.soft_session.proofs.session.SoftSession.close.Goals as goal

pub closing-init : goal.closing-init
closing-init g c = record {
  unknown = refl;
  serving = c.requires.serving;
  closed = none_closed c.args.self.now.table (told (g.D.Dmi.seen c.args.link.now));
  later = omega arith;
  fixed = refl;
}

pub closing-preserved : goal.closing-preserved
closing-preserved g c = record {
  unknown = c.closing.invariant.unknown;
  serving = record { stands = c.in-Ok.ensures.keeps.behind; ready = c.in-Ok.ensures.ready };
  closed = closed_one c.in-Some.at c.args.self.now.table c.closing.self.table c.unplant.new.self (told (g.D.Dmi.seen c.args.link.now))
      (told (g.D.Dmi.seen c.closing.link)) (told (g.D.Dmi.seen c.unplant.new.link)) c.closing.invariant.closed
      (sym c.lowest.ensures.first ∙ c.in-Some.is) c.in-Ok.ensures.table c.in-Ok.ensures.leads;
  later = omega (arith, c.closing.invariant.later, c.unplant.ensures.keeps.later);
  fixed = c.unplant.ensures.keeps.fixed ∙ c.closing.invariant.fixed;
}

pub closing-smaller : goal.closing-smaller
closing-smaller g c = omega (
  arith,
  one_less c.in-Some.at c.closing.self.table c.unplant.new.self c.lowest.ensures.upwards
      (sym c.lowest.ensures.first ∙ c.in-Some.is) c.in-Ok.ensures.table,
)

pub returns-clause-led : goal.returns-clause-led
returns-clause-led g c = c.closing.invariant.closed

pub returns-clause-none : goal.returns-clause-none
returns-clause-none g c = none_lowest c.closing.self.table.addresses (sym c.lowest.ensures.first ∙ c.in_default.is)

pub returns-in-Err-clause-cut : goal.returns-in-Err-clause-cut
returns-in-Err-clause-cut g c =
    closing_cut ⊤ c.in-Some.at _ c.args.self.now.table c.closing.self.table (g.D.Dmi.seen c.args.link.now) (g.D.Dmi.seen c.closing.link)
    (g.D.Dmi.seen c.unplant.new.link) c.in-Err.fault _ c.failure_of.ensures c.closing.invariant.closed (sym c.lowest.ensures.first ∙ c.in-Some.is)
    c.in-Err.ensures.left c.in-Err.ensures.cut c.in-Err.ensures.keeps.behind

pub returns-in-Err-clause-caused : goal.returns-in-Err-clause-caused
returns-in-Err-clause-caused g c =
    since ⊥ _ (g.D.Dmi.seen c.args.link.now) (g.D.Dmi.seen c.closing.link) (g.D.Dmi.seen c.unplant.new.link) c.closing.invariant.later
    c.unplant.ensures.keeps.later
    (by_soft c.in-Err.fault _ (g.D.Dmi.seen c.closing.link) (g.D.Dmi.seen c.unplant.new.link) c.failure_of.ensures
    (if_access_map _ _ c.in-Err.fault (λ e f. bus_store_since e c.in-Some.at _ _ _ _ _ c.unplant.ensures.keeps.later f) c.in-Err.ensures.failed))
