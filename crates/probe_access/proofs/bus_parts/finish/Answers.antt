use Rattle.debug_model.specs.Addresses.{sbcs_address}
use Rattle.probe_run.specs.Told.{told}
use Rattle.std.proofs.Common.{◌∙◌, refl, sym, ap, arith}
use Rattle.debug_model.proofs.RiseLemmas.{within_more}
use Rattle.debug_model.specs.declared.sbcs.Sbcs.{Sbcs}
use Rattle.probe_access.proofs.BusPolls.{clear_broke}
use Rattle.probe_access.proofs.RegisterCalls.{err_failed, put_did}
use Rattle.probe_access.proofs.bus_parts.finish.Goals as goal

pub returns-in_err-write-clause-failed : goal.returns-in_err-write-clause-failed
returns-in_err-write-clause-failed g c =
    err_failed c.from_residual-in_err-write.result _ _ c.from_residual-in_err-write.ensures.1
    (clear_broke c.args.address c.in_ok-last.last _ _ _ _ (told (g.D.Dmi.seen c.poll_bus.new.link)) (told (g.D.Dmi.seen c.write.new.self))
    c.in_err-write.field-0.0
    c.in_ok-last.ensures.polled (sym (ap (λ (s : Sbcs). s.sberror) c.from_word-bus.ensures) ∙ c.if-bus-eq-OUTSIDE.true) c.poll_bus.ensures.keeps.later
    c.write.ensures.keeps.later c.in_err-write.ensures.cut c.in_err-write.ensures.cause)

pub returns-then-bus-eq-OUTSIDE-clause-failed : goal.returns-then-bus-eq-OUTSIDE-clause-failed
returns-then-bus-eq-OUTSIDE-clause-failed g c = (
  refl,
  record {
    last = c.in_ok-last.last;
    mid = told (g.D.Dmi.seen c.poll_bus.new.link);
    polled = c.in_ok-last.ensures.polled;
    outside = sym (ap (λ (s : Sbcs). s.sberror) c.from_word-bus.ensures) ∙ c.if-bus-eq-OUTSIDE.true;
    cleared = put_did sbcs_address 0x407000 _ _ c.in_ok-write.ensures.operated c.in_ok-write.ensures.passes;
  },
)

pub returns-then-not-bus-clause-rises : goal.returns-then-not-bus-clause-rises
returns-then-not-bus-clause-rises g c = within_more 1 2 _ _ c.poll_bus.ensures.rises (omega arith)
