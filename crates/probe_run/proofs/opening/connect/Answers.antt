use Rattle.debug_model.proofs.RiseLemmas.{within_more, within_then}
use Rattle.probe_run.specs.Told.{told}
use Rattle.std.proofs.Common.{◌≤◌, ◌∙◌, Some, ap, arith, sym}
use Rattle.probe_run.specs.Opening.{ConnectFails, LosesLoaded}
use Rattle.probe_run.proofs.ActLemmas.{if_err}
use Rattle.probe_run.proofs.LoadedCalls.{loses_loaded, opens_loaded}
use Rattle.probe_run.proofs.OpenedReady.{opened_ready, opened_selects}
use Rattle.probe_run.proofs.OpeningLemmas.{opened_by}
use Rattle.probe_run.proofs.Releases.{opened_release}
use Rattle.probe_run.proofs.OpeningFails.{activation_fails, bus_fails, commands_fail, module_fails, transport_fails}
use Rattle.probe_run.specs.Soon.{OpeningByWire}
use Rattle.probe_run.proofs.NeverLemmas.{opening_then}
use Rattle.probe_run.proofs.opening.connect.Goals as goal

pub returns-in_err-check_transport-clause-fails : goal.returns-in_err-check_transport-clause-fails
returns-in_err-check_transport-clause-fails g c =
    if_err (ConnectFails (g.D.Dmi.seen c.args.link.now).fault_count (g.D.Dmi.seen c.check_transport.new.link).fault_count (told (g.D.Dmi.seen c.args.link.now))
    (told (g.D.Dmi.seen c.check_transport.new.link))) c.from_residual.result _ c.from_residual.ensures.1
    (transport_fails (g.D.Dmi.seen c.args.link.now).fault_count (g.D.Dmi.seen c.check_transport.new.link).fault_count (told (g.D.Dmi.seen c.args.link.now))
    (told (g.D.Dmi.seen c.check_transport.new.link)) _ c.in_err-check_transport.ensures.fails)

pub returns-in_err-check_transport-clause-lost : goal.returns-in_err-check_transport-clause-lost
returns-in_err-check_transport-clause-lost g c =
    if_err (LosesLoaded (g.D.Dmi.seen c.args.link.now).far (g.D.Dmi.seen c.check_transport.new.link).far) c.from_residual.result _ c.from_residual.ensures.1
    (loses_loaded (told (g.D.Dmi.seen c.args.link.now)) (told (g.D.Dmi.seen c.check_transport.new.link)) (g.D.Dmi.seen c.args.link.now).fault_count
    (g.D.Dmi.seen c.check_transport.new.link).fault_count _
    (transport_fails (g.D.Dmi.seen c.args.link.now).fault_count (g.D.Dmi.seen c.check_transport.new.link).fault_count (told (g.D.Dmi.seen c.args.link.now))
    (told (g.D.Dmi.seen c.check_transport.new.link)) _ c.in_err-check_transport.ensures.fails))

pub returns-in_err-activate-clause-fails : goal.returns-in_err-activate-clause-fails
returns-in_err-activate-clause-fails g c =
    if_err (ConnectFails (g.D.Dmi.seen c.args.link.now).fault_count (g.D.Dmi.seen c.activate.new.link).fault_count (told (g.D.Dmi.seen c.args.link.now))
    (told (g.D.Dmi.seen c.activate.new.link))) c.from_residual-in_err-activate.result _ c.from_residual-in_err-activate.ensures.1
    (activation_fails (g.D.Dmi.seen c.args.link.now).fault_count (g.D.Dmi.seen c.check_transport.new.link).fault_count
    (g.D.Dmi.seen c.activate.new.link).fault_count (told (g.D.Dmi.seen c.args.link.now)) (told (g.D.Dmi.seen c.check_transport.new.link))
    (told (g.D.Dmi.seen c.activate.new.link)) _
    (let a0 : (g.D.Dmi.seen c.args.link.now).fault_count ≤ (g.D.Dmi.seen c.check_transport.new.link).fault_count = c.check_transport.ensures.keeps.later in
    omega arith) c.activate.ensures.keeps.later c.in_ok-check_transport.ensures.did c.in_err-activate.ensures.fails)

pub returns-in_err-activate-clause-lost : goal.returns-in_err-activate-clause-lost
returns-in_err-activate-clause-lost g c =
    if_err (LosesLoaded (g.D.Dmi.seen c.args.link.now).far (g.D.Dmi.seen c.activate.new.link).far) c.from_residual-in_err-activate.result _
    c.from_residual-in_err-activate.ensures.1
    (loses_loaded (told (g.D.Dmi.seen c.args.link.now)) (told (g.D.Dmi.seen c.activate.new.link)) (g.D.Dmi.seen c.args.link.now).fault_count
    (g.D.Dmi.seen c.activate.new.link).fault_count _
    (activation_fails (g.D.Dmi.seen c.args.link.now).fault_count (g.D.Dmi.seen c.check_transport.new.link).fault_count
    (g.D.Dmi.seen c.activate.new.link).fault_count (told (g.D.Dmi.seen c.args.link.now)) (told (g.D.Dmi.seen c.check_transport.new.link))
    (told (g.D.Dmi.seen c.activate.new.link)) _
    (let a0 : (g.D.Dmi.seen c.args.link.now).fault_count ≤ (g.D.Dmi.seen c.check_transport.new.link).fault_count = c.check_transport.ensures.keeps.later in
    omega arith) c.activate.ensures.keeps.later c.in_ok-check_transport.ensures.did c.in_err-activate.ensures.fails))

pub returns-in_err-version-clause-fails : goal.returns-in_err-version-clause-fails
returns-in_err-version-clause-fails g c =
    if_err (ConnectFails (g.D.Dmi.seen c.args.link.now).fault_count (g.D.Dmi.seen c.check_module.new.link).fault_count (told (g.D.Dmi.seen c.args.link.now))
    (told (g.D.Dmi.seen c.check_module.new.link))) c.from_residual-in_err-version.result _ c.from_residual-in_err-version.ensures.1
    (module_fails (g.D.Dmi.seen c.args.link.now).fault_count (g.D.Dmi.seen c.activate.new.link).fault_count (g.D.Dmi.seen c.check_module.new.link).fault_count
    (told (g.D.Dmi.seen c.args.link.now)) (told (g.D.Dmi.seen c.activate.new.link)) (told (g.D.Dmi.seen c.check_module.new.link)) _
    (let a0 : (g.D.Dmi.seen c.args.link.now).fault_count ≤ (g.D.Dmi.seen c.check_transport.new.link).fault_count = c.check_transport.ensures.keeps.later in
    let a1 : (g.D.Dmi.seen c.check_transport.new.link).fault_count ≤ (g.D.Dmi.seen c.activate.new.link).fault_count = c.activate.ensures.keeps.later in
    omega arith) c.check_module.ensures.keeps.later
    (record { mid = (told (g.D.Dmi.seen c.check_transport.new.link)); first = c.in_ok-check_transport.ensures.did; second = c.in_ok-activate.ensures.did })
    c.in_err-version.ensures.fails)

pub returns-in_err-version-clause-lost : goal.returns-in_err-version-clause-lost
returns-in_err-version-clause-lost g c =
    if_err (LosesLoaded (g.D.Dmi.seen c.args.link.now).far (g.D.Dmi.seen c.check_module.new.link).far) c.from_residual-in_err-version.result _
    c.from_residual-in_err-version.ensures.1
    (loses_loaded (told (g.D.Dmi.seen c.args.link.now)) (told (g.D.Dmi.seen c.check_module.new.link)) (g.D.Dmi.seen c.args.link.now).fault_count
    (g.D.Dmi.seen c.check_module.new.link).fault_count _
    (module_fails (g.D.Dmi.seen c.args.link.now).fault_count (g.D.Dmi.seen c.activate.new.link).fault_count
    (g.D.Dmi.seen c.check_module.new.link).fault_count (told (g.D.Dmi.seen c.args.link.now)) (told (g.D.Dmi.seen c.activate.new.link))
    (told (g.D.Dmi.seen c.check_module.new.link)) _
    (let a0 : (g.D.Dmi.seen c.args.link.now).fault_count ≤ (g.D.Dmi.seen c.check_transport.new.link).fault_count = c.check_transport.ensures.keeps.later in
    let a1 : (g.D.Dmi.seen c.check_transport.new.link).fault_count ≤ (g.D.Dmi.seen c.activate.new.link).fault_count = c.activate.ensures.keeps.later in
    omega arith) c.check_module.ensures.keeps.later
    (record { mid = (told (g.D.Dmi.seen c.check_transport.new.link)); first = c.in_ok-check_transport.ensures.did; second = c.in_ok-activate.ensures.did })
    c.in_err-version.ensures.fails))

pub returns-in_err-check_commands-clause-fails : goal.returns-in_err-check_commands-clause-fails
returns-in_err-check_commands-clause-fails g c =
    if_err (ConnectFails (g.D.Dmi.seen c.args.link.now).fault_count (g.D.Dmi.seen c.check_commands.new.link).fault_count (told (g.D.Dmi.seen c.args.link.now))
    (told (g.D.Dmi.seen c.check_commands.new.link))) c.from_residual-in_err-check_commands.result _ c.from_residual-in_err-check_commands.ensures.1
    (commands_fail (g.D.Dmi.seen c.args.link.now).fault_count (g.D.Dmi.seen c.check_module.new.link).fault_count
    (g.D.Dmi.seen c.check_commands.new.link).fault_count (told (g.D.Dmi.seen c.args.link.now)) (told (g.D.Dmi.seen c.check_module.new.link))
    (told (g.D.Dmi.seen c.check_commands.new.link)) _
    (let a0 : (g.D.Dmi.seen c.args.link.now).fault_count ≤ (g.D.Dmi.seen c.check_transport.new.link).fault_count = c.check_transport.ensures.keeps.later in
    let a1 : (g.D.Dmi.seen c.check_transport.new.link).fault_count ≤ (g.D.Dmi.seen c.activate.new.link).fault_count = c.activate.ensures.keeps.later in
    let a2 : (g.D.Dmi.seen c.activate.new.link).fault_count ≤ (g.D.Dmi.seen c.check_module.new.link).fault_count = c.check_module.ensures.keeps.later in
    omega arith) c.check_commands.ensures.keeps.later
    (record {
      mid = (told (g.D.Dmi.seen c.activate.new.link));
      first =
          (record {
            mid = (told (g.D.Dmi.seen c.check_transport.new.link));
            first = c.in_ok-check_transport.ensures.did;
            second =
                c.in_ok-activate.ensures.did;
          });
      second = c.in_ok-version.ensures.did.fits;
    }) c.in_err-check_commands.ensures.fails)

pub returns-in_err-check_commands-clause-lost : goal.returns-in_err-check_commands-clause-lost
returns-in_err-check_commands-clause-lost g c =
    if_err (LosesLoaded (g.D.Dmi.seen c.args.link.now).far (g.D.Dmi.seen c.check_commands.new.link).far) c.from_residual-in_err-check_commands.result _
    c.from_residual-in_err-check_commands.ensures.1
    (loses_loaded (told (g.D.Dmi.seen c.args.link.now)) (told (g.D.Dmi.seen c.check_commands.new.link)) (g.D.Dmi.seen c.args.link.now).fault_count
    (g.D.Dmi.seen c.check_commands.new.link).fault_count _
    (commands_fail (g.D.Dmi.seen c.args.link.now).fault_count (g.D.Dmi.seen c.check_module.new.link).fault_count
    (g.D.Dmi.seen c.check_commands.new.link).fault_count (told (g.D.Dmi.seen c.args.link.now)) (told (g.D.Dmi.seen c.check_module.new.link))
    (told (g.D.Dmi.seen c.check_commands.new.link)) _
    (let a0 : (g.D.Dmi.seen c.args.link.now).fault_count ≤ (g.D.Dmi.seen c.check_transport.new.link).fault_count = c.check_transport.ensures.keeps.later in
    let a1 : (g.D.Dmi.seen c.check_transport.new.link).fault_count ≤ (g.D.Dmi.seen c.activate.new.link).fault_count = c.activate.ensures.keeps.later in
    let a2 : (g.D.Dmi.seen c.activate.new.link).fault_count ≤ (g.D.Dmi.seen c.check_module.new.link).fault_count = c.check_module.ensures.keeps.later in
    omega arith) c.check_commands.ensures.keeps.later
    (record {
      mid = (told (g.D.Dmi.seen c.activate.new.link));
      first =
          (record {
            mid = (told (g.D.Dmi.seen c.check_transport.new.link));
            first = c.in_ok-check_transport.ensures.did;
            second =
                c.in_ok-activate.ensures.did;
          });
      second = c.in_ok-version.ensures.did.fits;
    }) c.in_err-check_commands.ensures.fails))

pub returns-in_err-check_bus-clause-fails : goal.returns-in_err-check_bus-clause-fails
returns-in_err-check_bus-clause-fails g c =
    if_err (ConnectFails (g.D.Dmi.seen c.args.link.now).fault_count (g.D.Dmi.seen c.check_bus.new.link).fault_count (told (g.D.Dmi.seen c.args.link.now))
    (told (g.D.Dmi.seen c.check_bus.new.link))) c.from_residual-in_err-check_bus.result _ c.from_residual-in_err-check_bus.ensures.1
    (bus_fails (g.D.Dmi.seen c.args.link.now).fault_count (g.D.Dmi.seen c.check_commands.new.link).fault_count (g.D.Dmi.seen c.check_bus.new.link).fault_count
    (told (g.D.Dmi.seen c.args.link.now)) (told (g.D.Dmi.seen c.check_commands.new.link)) (told (g.D.Dmi.seen c.check_bus.new.link)) _
    (let a0 : (g.D.Dmi.seen c.args.link.now).fault_count ≤ (g.D.Dmi.seen c.check_transport.new.link).fault_count = c.check_transport.ensures.keeps.later in
    let a1 : (g.D.Dmi.seen c.check_transport.new.link).fault_count ≤ (g.D.Dmi.seen c.activate.new.link).fault_count = c.activate.ensures.keeps.later in
    let a2 : (g.D.Dmi.seen c.activate.new.link).fault_count ≤ (g.D.Dmi.seen c.check_module.new.link).fault_count = c.check_module.ensures.keeps.later in
    let a3 : (g.D.Dmi.seen c.check_module.new.link).fault_count ≤ (g.D.Dmi.seen c.check_commands.new.link).fault_count =
    c.check_commands.ensures.keeps.later in omega arith) c.check_bus.ensures.keeps.later
    (record {
      mid = (told (g.D.Dmi.seen c.check_module.new.link));
      first =
          (record {
            mid = (told (g.D.Dmi.seen c.activate.new.link));
            first =
                (record {
                  mid = (told (g.D.Dmi.seen c.check_transport.new.link));
                  first = c.in_ok-check_transport.ensures.did;
                  second =
                      c.in_ok-activate.ensures.did;
                });
            second = c.in_ok-version.ensures.did.fits;
          });
      second = c.in_ok-check_commands.ensures.did;
    })
    c.in_err-check_bus.ensures.fails)

pub returns-in_err-check_bus-clause-lost : goal.returns-in_err-check_bus-clause-lost
returns-in_err-check_bus-clause-lost g c =
    if_err (LosesLoaded (g.D.Dmi.seen c.args.link.now).far (g.D.Dmi.seen c.check_bus.new.link).far) c.from_residual-in_err-check_bus.result _
    c.from_residual-in_err-check_bus.ensures.1
    (loses_loaded (told (g.D.Dmi.seen c.args.link.now)) (told (g.D.Dmi.seen c.check_bus.new.link)) (g.D.Dmi.seen c.args.link.now).fault_count
    (g.D.Dmi.seen c.check_bus.new.link).fault_count _
    (bus_fails (g.D.Dmi.seen c.args.link.now).fault_count (g.D.Dmi.seen c.check_commands.new.link).fault_count
    (g.D.Dmi.seen c.check_bus.new.link).fault_count (told (g.D.Dmi.seen c.args.link.now)) (told (g.D.Dmi.seen c.check_commands.new.link))
    (told (g.D.Dmi.seen c.check_bus.new.link)) _
    (let a0 : (g.D.Dmi.seen c.args.link.now).fault_count ≤ (g.D.Dmi.seen c.check_transport.new.link).fault_count = c.check_transport.ensures.keeps.later in
    let a1 : (g.D.Dmi.seen c.check_transport.new.link).fault_count ≤ (g.D.Dmi.seen c.activate.new.link).fault_count = c.activate.ensures.keeps.later in
    let a2 : (g.D.Dmi.seen c.activate.new.link).fault_count ≤ (g.D.Dmi.seen c.check_module.new.link).fault_count = c.check_module.ensures.keeps.later in
    let a3 : (g.D.Dmi.seen c.check_module.new.link).fault_count ≤ (g.D.Dmi.seen c.check_commands.new.link).fault_count =
    c.check_commands.ensures.keeps.later in omega arith) c.check_bus.ensures.keeps.later
    (record {
      mid = (told (g.D.Dmi.seen c.check_module.new.link));
      first =
          (record {
            mid = (told (g.D.Dmi.seen c.activate.new.link));
            first =
                (record {
                  mid = (told (g.D.Dmi.seen c.check_transport.new.link));
                  first = c.in_ok-check_transport.ensures.did;
                  second =
                      c.in_ok-activate.ensures.did;
                });
            second = c.in_ok-version.ensures.did.fits;
          });
      second = c.in_ok-check_commands.ensures.did;
    })
    c.in_err-check_bus.ensures.fails))

pub returns-clause-did : goal.returns-clause-did
returns-clause-did g c =
    opened_by (told (g.D.Dmi.seen c.args.link.now)) (told (g.D.Dmi.seen c.check_transport.new.link)) (told (g.D.Dmi.seen c.activate.new.link))
    (told (g.D.Dmi.seen c.check_module.new.link)) (told (g.D.Dmi.seen c.check_commands.new.link)) (told (g.D.Dmi.seen c.check_bus.new.link)) c.in_ok-check_transport.ensures.did c.in_ok-activate.ensures.did
    c.in_ok-version.ensures.did.fits c.in_ok-check_commands.ensures.did c.in_ok-check_bus.ensures.did

pub returns-clause-release : goal.returns-clause-release
returns-clause-release g c = record {
  opened = opened_by (told (g.D.Dmi.seen c.args.link.now)) (told (g.D.Dmi.seen c.check_transport.new.link)) (told (g.D.Dmi.seen c.activate.new.link))
      (told (g.D.Dmi.seen c.check_module.new.link)) (told (g.D.Dmi.seen c.check_commands.new.link)) (told (g.D.Dmi.seen c.check_bus.new.link)) c.in_ok-check_transport.ensures.did c.in_ok-activate.ensures.did
      c.in_ok-version.ensures.did.fits c.in_ok-check_commands.ensures.did c.in_ok-check_bus.ensures.did;
  release = c.in_ok-version.ensures.did.release ∙ ap Some (sym c.opened.ensures);
}

pub returns-clause-chip_release : goal.returns-clause-chip_release
returns-clause-chip_release g c = opened_release c.opened.result.version (told (g.D.Dmi.seen c.args.link.now)) (told (g.D.Dmi.seen c.check_bus.new.link)) (record {
  opened = opened_by (told (g.D.Dmi.seen c.args.link.now)) (told (g.D.Dmi.seen c.check_transport.new.link)) (told (g.D.Dmi.seen c.activate.new.link))
      (told (g.D.Dmi.seen c.check_module.new.link)) (told (g.D.Dmi.seen c.check_commands.new.link)) (told (g.D.Dmi.seen c.check_bus.new.link)) c.in_ok-check_transport.ensures.did c.in_ok-activate.ensures.did
      c.in_ok-version.ensures.did.fits c.in_ok-check_commands.ensures.did c.in_ok-check_bus.ensures.did;
  release = c.in_ok-version.ensures.did.release ∙ ap Some (sym c.opened.ensures);
})

pub returns-clause-loaded : goal.returns-clause-loaded
returns-clause-loaded g c =
    opens_loaded (told (g.D.Dmi.seen c.args.link.now)) (told (g.D.Dmi.seen c.check_bus.new.link))
    (opened_by (told (g.D.Dmi.seen c.args.link.now)) (told (g.D.Dmi.seen c.check_transport.new.link)) (told (g.D.Dmi.seen c.activate.new.link))
    (told (g.D.Dmi.seen c.check_module.new.link)) (told (g.D.Dmi.seen c.check_commands.new.link)) (told (g.D.Dmi.seen c.check_bus.new.link)) c.in_ok-check_transport.ensures.did c.in_ok-activate.ensures.did
    c.in_ok-version.ensures.did.fits c.in_ok-check_commands.ensures.did c.in_ok-check_bus.ensures.did)

pub returns-clause-ready : goal.returns-clause-ready
returns-clause-ready g c =
    opened_ready (told (g.D.Dmi.seen c.args.link.now)) (told (g.D.Dmi.seen c.check_bus.new.link))
    (opened_by (told (g.D.Dmi.seen c.args.link.now)) (told (g.D.Dmi.seen c.check_transport.new.link)) (told (g.D.Dmi.seen c.activate.new.link))
    (told (g.D.Dmi.seen c.check_module.new.link)) (told (g.D.Dmi.seen c.check_commands.new.link)) (told (g.D.Dmi.seen c.check_bus.new.link)) c.in_ok-check_transport.ensures.did c.in_ok-activate.ensures.did
    c.in_ok-version.ensures.did.fits c.in_ok-check_commands.ensures.did c.in_ok-check_bus.ensures.did)

pub returns-clause-selects : goal.returns-clause-selects
returns-clause-selects g c =
    opened_selects (told (g.D.Dmi.seen c.args.link.now)) (told (g.D.Dmi.seen c.check_bus.new.link))
    (opened_by (told (g.D.Dmi.seen c.args.link.now)) (told (g.D.Dmi.seen c.check_transport.new.link)) (told (g.D.Dmi.seen c.activate.new.link))
    (told (g.D.Dmi.seen c.check_module.new.link)) (told (g.D.Dmi.seen c.check_commands.new.link)) (told (g.D.Dmi.seen c.check_bus.new.link)) c.in_ok-check_transport.ensures.did c.in_ok-activate.ensures.did
    c.in_ok-version.ensures.did.fits c.in_ok-check_commands.ensures.did c.in_ok-check_bus.ensures.did)

pub returns-in_err-check_transport-clause-rises : goal.returns-in_err-check_transport-clause-rises
returns-in_err-check_transport-clause-rises g c = within_more 1 _ _ _ c.check_transport.ensures.rises (omega arith)

pub returns-in_err-activate-clause-rises : goal.returns-in_err-activate-clause-rises
returns-in_err-activate-clause-rises g c = (within_then 1 65 72 _ (g.D.Dmi.seen c.check_transport.new.link) _ c.check_transport.ensures.rises c.activate.ensures.rises
    (c.check_transport.ensures.keeps.fixed) (omega arith))

pub returns-in_err-version-clause-rises : goal.returns-in_err-version-clause-rises
returns-in_err-version-clause-rises g c = (within_then 66 1 72 _ (g.D.Dmi.seen c.activate.new.link) _ (within_then 1 65 66 _ (g.D.Dmi.seen c.check_transport.new.link) _ c.check_transport.ensures.rises c.activate.ensures.rises
    (c.check_transport.ensures.keeps.fixed) (omega arith)) c.check_module.ensures.rises
    (c.activate.ensures.keeps.fixed ∙ c.check_transport.ensures.keeps.fixed) (omega arith))

pub returns-in_err-check_commands-clause-rises : goal.returns-in_err-check_commands-clause-rises
returns-in_err-check_commands-clause-rises g c = (within_then 67 1 72 _ (g.D.Dmi.seen c.check_module.new.link) _ (within_then 66 1 67 _ (g.D.Dmi.seen c.activate.new.link) _ (within_then 1 65 66 _ (g.D.Dmi.seen c.check_transport.new.link) _ c.check_transport.ensures.rises c.activate.ensures.rises
    (c.check_transport.ensures.keeps.fixed) (omega arith)) c.check_module.ensures.rises
    (c.activate.ensures.keeps.fixed ∙ c.check_transport.ensures.keeps.fixed) (omega arith)) c.check_commands.ensures.rises
    (c.check_module.ensures.keeps.fixed ∙ c.activate.ensures.keeps.fixed ∙ c.check_transport.ensures.keeps.fixed) (omega arith))

pub returns-in_err-check_bus-clause-rises : goal.returns-in_err-check_bus-clause-rises
returns-in_err-check_bus-clause-rises g c = (within_then 68 4 72 _ (g.D.Dmi.seen c.check_commands.new.link) _ (within_then 67 1 68 _ (g.D.Dmi.seen c.check_module.new.link) _ (within_then 66 1 67 _ (g.D.Dmi.seen c.activate.new.link) _ (within_then 1 65 66 _ (g.D.Dmi.seen c.check_transport.new.link) _ c.check_transport.ensures.rises c.activate.ensures.rises
    (c.check_transport.ensures.keeps.fixed) (omega arith)) c.check_module.ensures.rises
    (c.activate.ensures.keeps.fixed ∙ c.check_transport.ensures.keeps.fixed) (omega arith)) c.check_commands.ensures.rises
    (c.check_module.ensures.keeps.fixed ∙ c.activate.ensures.keeps.fixed ∙ c.check_transport.ensures.keeps.fixed) (omega arith)) c.check_bus.ensures.rises
    (c.check_commands.ensures.keeps.fixed ∙ c.check_module.ensures.keeps.fixed ∙ c.activate.ensures.keeps.fixed ∙ c.check_transport.ensures.keeps.fixed) (omega arith))

pub returns-clause-rises : goal.returns-clause-rises
returns-clause-rises g c = (within_then 68 4 72 _ (g.D.Dmi.seen c.check_commands.new.link) _ (within_then 67 1 68 _ (g.D.Dmi.seen c.check_module.new.link) _ (within_then 66 1 67 _ (g.D.Dmi.seen c.activate.new.link) _ (within_then 1 65 66 _ (g.D.Dmi.seen c.check_transport.new.link) _ c.check_transport.ensures.rises c.activate.ensures.rises
    (c.check_transport.ensures.keeps.fixed) (omega arith)) c.check_module.ensures.rises
    (c.activate.ensures.keeps.fixed ∙ c.check_transport.ensures.keeps.fixed) (omega arith)) c.check_commands.ensures.rises
    (c.check_module.ensures.keeps.fixed ∙ c.activate.ensures.keeps.fixed ∙ c.check_transport.ensures.keeps.fixed) (omega arith)) c.check_bus.ensures.rises
    (c.check_commands.ensures.keeps.fixed ∙ c.check_module.ensures.keeps.fixed ∙ c.activate.ensures.keeps.fixed ∙ c.check_transport.ensures.keeps.fixed) (omega arith))

pub returns-in_err-check_commands-clause-never : goal.returns-in_err-check_commands-clause-never
returns-in_err-check_commands-clause-never g c =
    if_err (OpeningByWire (g.D.Dmi.seen c.args.link.now)) c.from_residual-in_err-check_commands.result _ c.from_residual-in_err-check_commands.ensures.1
    (opening_then 1 _ (g.D.Dmi.seen c.check_transport.new.link) _ c.check_transport.ensures.rises
    (opening_then 65 _ (g.D.Dmi.seen c.activate.new.link) _ c.activate.ensures.rises
    (opening_then 1 _ (g.D.Dmi.seen c.check_module.new.link) _ c.check_module.ensures.rises c.in_err-check_commands.ensures.never)))

pub returns-in_err-check_bus-clause-never : goal.returns-in_err-check_bus-clause-never
returns-in_err-check_bus-clause-never g c =
    if_err (OpeningByWire (g.D.Dmi.seen c.args.link.now)) c.from_residual-in_err-check_bus.result _ c.from_residual-in_err-check_bus.ensures.1
    (opening_then 1 _ (g.D.Dmi.seen c.check_transport.new.link) _ c.check_transport.ensures.rises
    (opening_then 65 _ (g.D.Dmi.seen c.activate.new.link) _ c.activate.ensures.rises
    (opening_then 1 _ (g.D.Dmi.seen c.check_module.new.link) _ c.check_module.ensures.rises
    (opening_then 1 _ (g.D.Dmi.seen c.check_commands.new.link) _ c.check_commands.ensures.rises c.in_err-check_bus.ensures.never))))
